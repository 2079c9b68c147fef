-- The lines of a trace, by their first byte.
use Rattle.std.specs.Prelude.{ℕ, ◌==◌, List, [], ◌∷◌, ◌++◌, map, replicate, if◌then◌else◌, Option, Some, None, option_map, nat_eq, is_some}
use Rattle.std.specs.List.{position, before_first, after_first}
use Rattle.std.specs.Cmp.Lexicographic.{pointwise}
use Rattle.wb_window.specs.Reading.{reading_of}
use Rattle.wb_window.specs.declared.reading.Reading.{Reading}
use Rattle.wb_window.specs.declared.reading.Reading.TheVariants.{Lost}
use Rattle.wb_messages.specs.Happening.{Happening, reading, byte, hang_up}
use Rattle.wb_trace.specs.Numerals.{bytes_of_hexadecimal, count_in}
use Rattle.wb_input.specs.Number.{signed_number}
use Rattle.wb_trace.specs.RequestLines.{asked_by_bytes, asked_by_line}

-- `lost`, or a number of tenths
abbrev pub reading_of_word : List ℕ → Option Reading
reading_of_word word = if pointwise nat_eq word (108 ∷ 111 ∷ 115 ∷ 116 ∷ []) then Some Lost else option_map reading_of (signed_number word)

-- so many times the reading, where both are there
abbrev pub repeated_reading : Option Reading → Option ℕ → Option (List Happening)
repeated_reading None n = None
repeated_reading (Some r) None = None
repeated_reading (Some r) (Some n) = Some (replicate n (reading r))

-- a reading, then optionally a blank and a count
abbrev pub reading_line : List ℕ → Option (List Happening)
reading_line text =
    if is_some (position (λ b. b == 32) text)
    then repeated_reading (reading_of_word (before_first (λ b. b == 32) text)) (count_in (after_first (λ b. b == 32) text))
    else repeated_reading (reading_of_word text) (Some 1)

-- the bytes of a text typed at the terminal, and the line's end
abbrev pub typed : List ℕ → List Happening
typed text = map byte (text ++ 13 ∷ 10 ∷ [])

-- nothing, or what stands after one blank
abbrev pub text_typed : List ℕ → Option (List ℕ)
text_typed [] = Some []
text_typed (b ∷ text) = if b == 32 then Some text else None

-- what stands after one blank
abbrev pub without_blank : List ℕ → Option (List ℕ)
without_blank [] = None
without_blank (b ∷ text) = if b == 32 then Some text else None

-- at least one byte in hexadecimal
abbrev pub bytes_line : List ℕ → Option (List Happening)
bytes_line digits = option_map (map byte) (bytes_of_hexadecimal digits)

abbrev pub hang_up_line : List ℕ → Option (List Happening)
hang_up_line [] = Some (hang_up ∷ [])
hang_up_line (b ∷ rest) = None

-- what the text gives, where there is one
abbrev pub of_text : (List ℕ → Option (List Happening)) → Option (List ℕ) → Option (List Happening)
of_text events None = None
of_text events (Some text) = events text

-- what happens at a line, the first first; none where it isn't understood
abbrev pub line_events : List ℕ → Option (List Happening)
line_events [] = Some []
line_events (kind ∷ rest) =
    if kind == 35 then Some []
    else if kind == 114 then of_text reading_line (without_blank rest)
    else if kind == 116 then option_map typed (text_typed rest)
    else if kind == 98 then of_text bytes_line (without_blank rest)
    else if kind == 104 then hang_up_line rest
    else if kind == 111 then of_text asked_by_line (without_blank rest)
    else if kind == 120 then of_text asked_by_bytes (without_blank rest)
    else None
