-- A line of a reader of a load cell, without its end, and lines of counts in a stream of bytes.
use Rattle.std.specs.List.{slice_split}
use Rattle.std.specs.Prelude.{◌≡◌, ◌<◌, ◌≤◌, ◌==◌, ℕ, List, length, map, take, Option, Some, None, ℤ, pos, neg_ℤ, int_le, nat_le, true, false, ◌&&◌, ◌++◌, if◌then◌else◌, All}
use Rattle.std.specs.Str.Lines.{strip_carriage_return}
use Rattle.wb_input.specs.Number.{signed_number}
use Rattle.wb_input.specs.PartialLine.{PartialLine}

-- a number that fits in 32 bits
abbrev pub within_32_bits : ℤ → Option ℤ
within_32_bits z = if int_le (neg_ℤ (pos 2147483648)) z && int_le z (pos 2147483647) then Some z else None

abbrev pub fitting_of : Option ℤ → Option ℤ
fitting_of (Some z) = within_32_bits z
fitting_of None = None

-- an optional minus sign and 1 to 18 digits, of a number that fits in 32 bits; any other line has no counts
abbrev pub counts_of : List ℕ → Option ℤ
counts_of line = fitting_of (signed_number line)

-- a line of more than 64 bytes, a CR among them, has no counts; any other is read without the CR at its end
abbrev pub counts_of_line : List ℕ → Option ℤ
counts_of_line line = if nat_le (length line) 64 then counts_of (strip_carriage_return line) else None

-- the lines of these bytes, each without its LF; what comes after the last LF is the last of them
abbrev pub lines_of : List ℕ → List (List ℕ)
lines_of bytes = slice_split (λ b. b == 10) bytes

-- the counts of each line, and of what comes after the last LF
abbrev pub counts_in : List ℕ → List (Option ℤ)
counts_in bytes = map counts_of_line (lines_of bytes)

-- the counts of the first lines of these bytes, each of which has its LF
abbrev pub AreOfFirstLines : List (Option ℤ) → List ℕ → Type 0
AreOfFirstLines counts bytes = (counts ≡ take (length counts) (counts_in bytes)) × (length counts < length (counts_in bytes))

-- the counts of a line that came in pieces
abbrev pub counts_of_partial : PartialLine → Option ℤ
counts_of_partial line = if line.too_long then None else counts_of (strip_carriage_return line.kept)

-- a line that holds these bytes, if they are few enough
abbrev pub IsHeld : PartialLine → List ℕ → Type 0
IsHeld line begun = (length begun ≤ 64 → line ≡ record { kept = begun; too_long = false }) × (64 < length begun → line.too_long ≡ true)

abbrev pub HasNoEnd : List ℕ → Type 0
HasNoEnd begun = All (λ b. (b == 10) ≡ false) begun

-- no more counts than `lines`, all of the first lines; while there are fewer, the other lines are in the held line and the bytes after it
abbrev pub AreCounted : ℕ → List (Option ℤ) → PartialLine → List ℕ → List (Option ℤ) → Type 0
AreCounted lines counted line after all =
    (length counted ≤ lines) × (rest : List (Option ℤ)) × (counted ++ rest ≡ all) × (0 < length rest)
    × (length counted < lines → (begun : List ℕ) × HasNoEnd begun × IsHeld line begun × (rest ≡ counts_in (begun ++ after)))
