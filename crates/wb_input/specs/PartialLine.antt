-- A line that comes in pieces, up to its LF.
use Rattle.std.specs.Prelude.{ℕ, ◌+◌, ◌==◌, nat_le, Bool, true, false, List, [], ◌++◌, length, if◌then◌else◌}
use Rattle.std.specs.List.{before_first}

-- what is kept of a line, and whether it was too long to be kept
pub record PartialLine : Type 0 where
  pub kept : List ℕ
  pub too_long : Bool

abbrev pub fresh : PartialLine
fresh = record { kept = []; too_long = false }

-- more bytes of the line: at most `most` are kept
abbrev pub pushed : ℕ → List ℕ → PartialLine → PartialLine
pushed most bytes line =
    if nat_le (length line.kept + length bytes) most then record { kept = line.kept ++ bytes; too_long = line.too_long } else record { kept = line.kept; too_long = true }

-- these bytes up to the first LF, or all of them
abbrev pub taken_in : ℕ → List ℕ → PartialLine → PartialLine
taken_in most bytes line = pushed most (before_first (λ b. b == 10) bytes) line

-- the line, marked as one that isn't used
abbrev pub spoiled : PartialLine → PartialLine
spoiled line = record { kept = line.kept; too_long = true }
