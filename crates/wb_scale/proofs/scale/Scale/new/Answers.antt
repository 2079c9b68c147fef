use Rattle.std.proofs.Common.{ap, pos, refl, false}
use Rattle.wb_scale.specs.declared.answers.TareNow.TheVariants.{Empty}
use Rattle.wb_scale.specs.State.{State}
use Rattle.wb_scale.proofs.Standing.{Stands-fresh}
use Rattle.wb_scale.proofs.scale.Scale.new.Goals as goal

pub returns-clause-stands : goal.returns-clause-stands
returns-clause-stands g c =
    let s : State = record { setup = c.args.instrument; held = g.W.Window.held c.args.window; zero = pos 0; pause = 0; tare = Empty; cleared = false } in
    Stands-fresh s (ap (λ w. w.readings) c.requires.fresh) refl refl refl refl
