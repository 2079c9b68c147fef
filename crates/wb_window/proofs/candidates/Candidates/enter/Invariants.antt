use Rattle.std.proofs.Common.{◌≡◌, length}
use Rattle.wb_window.proofs.Entering.{Kept}
use Rattle.wb_window.proofs.candidates.Candidates.enter.Given as goal

abbrev pub invariant-loop-self : goal.invariant-loop-self
invariant-loop-self l =
    record {
      extreme : l.self.extreme ≡ l.initial.self.extreme;
      capacity : l.self.loads.capacity ≡ l.initial.self.loads.capacity;
      kept : Kept l.self.extreme l.load l.initial.self.loads.items l.self.loads.items;
    }

abbrev pub decreases-loop-self : goal.decreases-loop-self
decreases-loop-self l = length l.self.loads.items
