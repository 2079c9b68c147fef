use Rattle.std.proofs.Common.{refl}
use Rattle.wb_scale.specs.declared.answers.TareNow.TheVariants.{Empty}
use Rattle.wb_scale.specs.Call.{clear_tare}
use Rattle.wb_scale.specs.State.{State}
use Rattle.wb_scale.proofs.Standing.{Stands-tare, Takes-behind}
use Rattle.wb_scale.proofs.scale.Scale.clear_tare.Goals as goal

pub returns : goal.returns
returns g c =
    let s : State = record { setup = c.self.inside.instrument; held = g.W.Window.held c.self.inside.window; zero = c.self.inside.zero; pause = c.self.inside.pause; tare = c.self.inside.tare; cleared = c.self.inside.cleared } in
    record { takes = Takes-behind s _ _ clear_tare c.self.view_is refl (λ h from. Stands-tare s clear_tare h Empty refl from) }
