-- What was read of a trace.
use Rattle.std.specs.Prelude.{ℕ, ◌≤◌, List, length, Option}
use Rattle.std.specs.Io.KnownBytes.{Consumes}

-- no more than so many bytes were taken from the reader
abbrev pub HasTaken : ℕ → Option (List ℕ) → Option (List ℕ) → Type 0
HasTaken most old new = (taken : List ℕ) × Consumes old new taken × (length taken ≤ most)
