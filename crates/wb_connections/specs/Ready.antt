-- What a read found.
use Rattle.std.specs.Prelude.{ℕ, ◌≤◌}
use Rattle.wb_connections.specs.declared.ready.Ready.{Ready}
use Rattle.wb_connections.specs.declared.ready.Ready.TheVariants.{Bytes, Nothing, End, Fault}

-- it found no more bytes than there is room
abbrev pub FitsRoom : Ready → ℕ → Type 0
FitsRoom (Bytes count) room = count ≤ room
FitsRoom Nothing room = Unit {0}
FitsRoom End room = Unit {0}
FitsRoom Fault room = Unit {0}
