-- The command of a line (MT-SICS levels 0 and 1; the choice of commands and the preset tare's form are this project's own).
use Rattle.std.specs.Prelude.{ℕ, ◌+◌, ◌*◌, ◌-◌, ◌^◌, ◌==◌, ◌&&◌, Bool, nat_lt, List, length, take, drop, codes, nat_eq, is_some, if◌then◌else◌, Option, Some, None, option_map}
use Rattle.std.specs.Cmp.Lexicographic.{pointwise}
use Rattle.std.specs.List.{position, before_first, after_first}
use Rattle.wb_input.specs.Digits.{numeral_value}
use Rattle.wb_sics.specs.declared.command.Command.{Command}
use Rattle.wb_sics.specs.declared.command.Command.TheVariants.{Weight, WeightNow, Repeat, Zero, Tare, TareValue, PresetTare, BadTare, ClearTare, Cancel, Commands, SerialNumber, Unknown}

abbrev pub is : List ℕ → List ℕ → Bool
is text word = pointwise nat_eq text word

-- the grams of a fraction of a kilogram of 1 to 3 digits
abbrev pub scaled : List ℕ → Option ℕ
scaled fraction = option_map (λ n. n * 10 ^ (3 - length fraction)) (numeral_value 3 fraction)

-- both together, where both are there
abbrev pub with_fraction : Option ℕ → Option ℕ → Option ℕ
with_fraction None fraction = None
with_fraction (Some whole) None = None
with_fraction (Some whole) (Some fraction) = Some (whole * 1000 + fraction)

-- the grams of a value in kilograms: 1 to 7 digits, then optionally a point and 1 to 3 digits
abbrev pub grams : List ℕ → Option ℕ
grams value =
    if is_some (position (λ b. b == 46) value)
    then with_fraction (numeral_value 7 (before_first (λ b. b == 46) value)) (scaled (after_first (λ b. b == 46) value))
    else option_map (λ kg. kg * 1000) (numeral_value 7 value)

abbrev pub preset_command : Option ℕ → Command
preset_command None = BadTare
preset_command (Some g) = PresetTare g

-- a value, one blank, and `kg`
abbrev pub tare_command : List ℕ → Command
tare_command text =
    if is_some (position (λ b. b == 32) text) && is (after_first (λ b. b == 32) text) (codes "kg")
    then preset_command (grams (before_first (λ b. b == 32) text))
    else BadTare

-- the whole text
abbrev pub word_command : List ℕ → Command
word_command text =
    if is text (codes "S") then Weight
    else if is text (codes "SI") then WeightNow
    else if is text (codes "SIR") then Repeat
    else if is text (codes "Z") then Zero
    else if is text (codes "T") then Tare
    else if is text (codes "TA") then TareValue
    else if is text (codes "TAC") then ClearTare
    else if is text (codes "@") then Cancel
    else if is text (codes "I0") then Commands
    else if is text (codes "I4") then SerialNumber
    else Unknown

-- a line over 40 bytes is unknown before anything else; `TA` and a blank begin a preset tare
abbrev pub command_of : List ℕ → Command
command_of text =
    if nat_lt 40 (length text) then Unknown
    else if is (take 3 text) (codes "TA ") then tare_command (drop 3 text)
    else word_command text
