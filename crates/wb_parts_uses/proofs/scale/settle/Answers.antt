use Rattle.std.proofs.Common.{◌≡◌, ◌∙◌, ℕ, add-one, ap, arith, replicate, subst}
use Rattle.wb_scale.specs.Call.{read}
use Rattle.wb_scale.specs.Stands.{ScaleTakesAll}
use Rattle.wb_parts_uses.proofs.scale.settle.Goals as goal

pub loop-preserved : goal.loop-preserved
loop-preserved g c =
    let before = c.loop.invariant in
    let next = c.read.ensures.takes in
    rw add-one (record { setup = next.setup ∙ before.setup; stands = λ h stood. next.stands _ (before.stands h stood) })

pub returns : goal.returns
returns g c =
    let all : c.loop.counter ≡ c.args.scale.now.setup.window = omega (arith, c.window-times.ensures.value ∙ ap (λ i. i.window) c.instrument.ensures.value) in
    subst (λ (n : ℕ). ScaleTakesAll c.args.scale.now c.loop.scale (replicate n (read c.args.reading))) all c.loop.invariant
