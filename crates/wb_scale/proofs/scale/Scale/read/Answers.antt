use Rattle.wb_scale.specs.State.{State}
use Rattle.wb_scale.proofs.Standing.{IsScale-seen, Stands-read, Takes-behind}
use Rattle.std.proofs.Common.{refl}
use Rattle.wb_scale.specs.Call.{read}
use Rattle.wb_scale.proofs.scale.Scale.read.Goals as goal

pub invariant_of-self : goal.invariant_of-self
invariant_of-self g c = rw c.read.ensures (IsScale-seen _ c.args.reading c.self.invariant c.requires)

pub returns : goal.returns
returns g c =
    let s : State = record { setup = c.self.inside.instrument; held = g.W.Window.held c.self.inside.window; zero = c.self.inside.zero; pause = c.self.inside.pause; tare = c.self.inside.tare; cleared = c.self.inside.cleared } in
    record { takes = Takes-behind s _ c.track.new.self (read c.args.reading) c.self.view_is (rw c.track.ensures refl) (λ h from. rw (c.track.ensures, c.read.ensures) (Stands-read s c.args.reading h c.self.invariant from)) }
