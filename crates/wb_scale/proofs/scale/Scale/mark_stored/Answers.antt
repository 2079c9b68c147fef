use Rattle.wb_scale.specs.State.{State}
use Rattle.wb_scale.proofs.Standing.{Stands-stored, Takes-behind}
use Rattle.std.proofs.Common.{refl}
use Rattle.wb_scale.specs.Call.{stored}
use Rattle.wb_scale.proofs.scale.Scale.mark_stored.Goals as goal

pub returns : goal.returns
returns g c =
    let s : State = record { setup = c.self.inside.instrument; held = g.W.Window.held c.self.inside.window; zero = c.self.inside.zero; pause = c.self.inside.pause; tare = c.self.inside.tare; cleared = c.self.inside.cleared } in
    record { takes = Takes-behind s _ _ stored c.self.view_is refl (λ h from. Stands-stored s h from) }
