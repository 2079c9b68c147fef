-- The bytes of a converter that wait, and the readings of the lines that they end.
use Rattle.std.specs.List.{after_first, position, position_or_len}
use Rattle.std.specs.Prelude.{ℕ, ◌+◌, ◌==◌, nat_le, nat_lt, Bool, false, not, ◌&&◌, ◌||◌, List, [], drop, take, if◌then◌else◌, Option, Some, None, is_some}
use Rattle.std.specs.Str.Lines.{strip_carriage_return}
use Rattle.wb_connections.specs.declared.converter_lines.Lines.{Lines}
use Rattle.wb_input.specs.ConverterLines.{converter_reading}
use Rattle.wb_input.specs.PartialLine.{PartialLine, fresh, spoiled, taken_in}
use Rattle.wb_window.specs.declared.reading.Reading.{Reading}
use Rattle.wb_window.specs.declared.reading.Reading.TheVariants.{Lost}

-- bytes that came and aren't used yet, and the line that they continue: what is kept of it, how many bytes it has, whether its LF came
pub record Waiting : Type 0 where
  pub unused : List ℕ
  pub line : PartialLine
  pub length : ℕ
  pub is_whole : Bool

abbrev pub waiting : Lines → Waiting
waiting l = record { unused = drop l.next (take l.end l.room); line = l.line; length = l.count; is_whole = l.is_whole }

-- before any byte came
abbrev pub nothing : Waiting
nothing = record { unused = []; line = fresh; length = 0; is_whole = false }

-- these bytes came next, once all others are used
abbrev pub filled : List ℕ → Waiting → Waiting
filled bytes w = record { unused = bytes; line = w.line; length = w.length; is_whole = w.is_whole }

-- 1,048,576 bytes without an LF
abbrev pub is_endless : Waiting → Bool
is_endless w = nat_le 1048576 w.length

-- its LF came, before it was endless
abbrev pub has_ended : Waiting → Bool
has_ended w = w.is_whole && not (is_endless w)

-- the line with the unused bytes up to its LF, unless it came before
abbrev pub continued : Waiting → Waiting
continued w = if w.is_whole || is_endless w then w else record {
  unused = after_first (λ b. b == 10) w.unused;
  line = taken_in 21 w.unused w.line;
  length = w.length + position_or_len (λ b. b == 10) w.unused;
  is_whole = is_some (position (λ b. b == 10) w.unused);
}

-- a line of more than 21 bytes, a CR among them, is a lost reading; any other is read without the CR at its end
abbrev pub reading_of_line : PartialLine → Reading
reading_of_line line = if line.too_long then Lost else converter_reading (strip_carriage_return line.kept)

-- the reading of the next line whose LF came, and what waits then
abbrev pub next_reading : Waiting → Option Reading
next_reading w = if has_ended w then Some (reading_of_line w.line) else None

abbrev pub after_reading : Waiting → Waiting
after_reading w = if has_ended w then record { unused = w.unused; line = fresh; length = 0; is_whole = false } else w

-- a line that has begun is one that was too long, whatever of it is still to come
abbrev pub with_spoiled_line : Waiting → Waiting
with_spoiled_line w = if nat_lt 0 w.length then record { unused = w.unused; line = spoiled w.line; length = w.length; is_whole = w.is_whole } else w
