use Rattle.std.proofs.Common.{◌≡◌, ◌∙◌, [], ◌∷◌, ◌++◌, append-nil, replicate, subst}
use Rattle.wb_instrument.specs.Setup.{Setup}
use Rattle.wb_scale.specs.Call.{read, tare}
use Rattle.wb_scale.specs.History.{moments}
use Rattle.wb_scale.specs.Indication.{indicated}
use Rattle.wb_scale.specs.Stands.{ScaleStands}
use Rattle.wb_parts_uses.proofs.scale.weigh_net.Goals as goal

-- what a call leaves is what the next one asks of
pub returns : goal.returns
returns c =
    let settled = c.settle.ensures in
    let tared = c.tare.ensures.takes in
    let laden = c.settle-2.ensures in
    let opened : c.new-scale.result.setup ≡ c.args.instrument = c.new-scale.ensures.setup in
    let at_tare : c.tare.new.self.setup ≡ c.args.instrument = tared.setup ∙ settled.setup ∙ opened in
    let calls = replicate c.args.instrument.window (read c.args.laden) ++ tare ∷ replicate c.args.instrument.window (read c.args.empty) in
    let stood : ScaleStands c.settle-2.new.scale calls =
    rw (at_tare, opened, append-nil) at (laden.stands _ (tared.stands _ (settled.stands [] c.new-scale.ensures.stands))) in
    subst (λ (s : Setup). c.indicated.result ≡ indicated s (moments s calls)) (laden.setup ∙ at_tare) (c.indicated.ensures.value calls stood)
