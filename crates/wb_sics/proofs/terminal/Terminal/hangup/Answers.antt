use Rattle.std.proofs.Common.{refl}
use Rattle.wb_sics.specs.Event.{hang_up}
use Rattle.wb_sics.proofs.Standing.{StandsAt-hang_up, Takes-behind, kept}
use Rattle.wb_sics.proofs.terminal.Terminal.hangup.Goals as goal

pub returns-clause-takes : goal.returns-clause-takes
returns-clause-takes g c =
    let s = c.self.inside in
    Takes-behind (kept s.scale s.waiting s.repeating s.line.items) _ _ hang_up c.self.view_is refl
    (λ h from. rw c.clear.ensures (record { now = StandsAt-hang_up s.scale.setup s.scale s.waiting s.repeating s.line.items h from.now }))
