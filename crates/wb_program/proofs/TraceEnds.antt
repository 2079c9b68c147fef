-- How a trace that was read ends.
use Rattle.std.proofs.Common.{◌≡◌, ℕ, ◌≤◌, List, length, Option, Some, None, subst}
use Rattle.std.specs.Prelude.{IfSome}
use Rattle.std.specs.Str.Lines.{lines}
use Rattle.wb_instrument.specs.Setup.{Setup}
use Rattle.wb_program.specs.declared.replaying.ReplayEnd.{ReplayEnd}
use Rattle.wb_program.specs.declared.replaying.ReplayEnd.TheVariants.{Done, BadLine, TooLong, ReadFault, WriteFault, Memory}
use Rattle.wb_program.specs.Replayed.{Ends, EndsOn, IsUntouched, ReplaysLines}
use Rattle.wb_program.specs.helpers.RunEnds.{WasRun}

ended_on : (end : ReplayEnd) (s : Setup) (w w' : Option (List ℕ)) (trace : List ℕ) → WasRun end → length trace ≤ 1048576 → ReplaysLines end s (lines trace) w w' → EndsOn end s w w' trace
ended_on Done s w w' trace run short did = (short, did)
ended_on (BadLine n) s w w' trace run short did = (short, did)
ended_on TooLong s w w' trace run short did = absurd run
ended_on ReadFault s w w' trace run short did = absurd run
ended_on WriteFault s w w' trace run short did = short
ended_on Memory s w w' trace run short did = absurd run

-- the lines of the trace that was read were run
pub ended : (end : ReplayEnd) (s : Setup) (unread w w' : Option (List ℕ)) (trace : List ℕ) → WasRun end → length trace ≤ 1048576 → IfSome unread (λ bytes. trace ≡ bytes)
    → ReplaysLines end s (lines trace) w w' → Ends end s unread w w'
ended end s None w w' trace run short whole did = tt
ended end s (Some bytes) w w' trace run short whole did = subst (EndsOn end s w w') whole (ended_on end s w w' trace run short did)

-- nothing is said of what was written once lines were run
pub written_to : (end : ReplayEnd) (w w' : Option (List ℕ)) → WasRun end → IsUntouched end w w'
written_to Done w w' run = tt
written_to (BadLine n) w w' run = tt
written_to TooLong w w' run = absurd run
written_to ReadFault w w' run = absurd run
written_to WriteFault w w' run = tt
written_to Memory w w' run = absurd run
