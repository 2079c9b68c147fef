-- The tare: weighed or preset (OIML R 76-1:2006, 4.6 and 4.7). A weighed tare is rounded where its own value is printed, and nowhere else.
use Rattle.std.specs.Prelude.{ℕ, ◌*◌, Bool, true, false, not, if◌then◌else◌, List, Option, Some, None, unwrap_or, option_map, ℤ, pos, ◌*ℤ◌, int_lt, int_le, ◌≤ℤ◌}
use Rattle.wb_instrument.specs.Preset.{preset}
use Rattle.wb_instrument.specs.Rounding.{round}
use Rattle.wb_instrument.specs.Setup.{Setup, intervals_in_max}
use Rattle.wb_window.specs.Stability.{is_stable}
use Rattle.wb_scale.specs.declared.answers.PresetAnswer.{PresetAnswer}
use Rattle.wb_scale.specs.declared.answers.PresetAnswer.TheVariants.{Done as PresetDone, WeighedInUse, OutOfRange}
use Rattle.wb_scale.specs.declared.answers.TareAnswer.{TareAnswer}
use Rattle.wb_scale.specs.declared.answers.TareAnswer.TheVariants.{Done, NotStable, PresetInUse, Above, Below}
use Rattle.wb_scale.specs.declared.answers.TareNow.{TareNow}
use Rattle.wb_scale.specs.declared.answers.TareNow.TheVariants.{Empty, Weighed, Preset}
use Rattle.wb_scale.specs.Moment.{Moment, newest_having, readings}
use Rattle.wb_scale.specs.Zero.{above_zero}

-- the tare in force: what it last became, if ever
unfoldable pub tare_now : List Moment → TareNow
tare_now ms = unwrap_or (newest_having (λ m. m.tare) ms) Empty

-- its tenths of e: a weighed tare is kept in them, a preset tare in whole e
abbrev pub tare_tenths : TareNow → ℤ
tare_tenths Empty = pos 0
tare_tenths (Weighed tenths) = tenths
tare_tenths (Preset whole) = pos 10 *ℤ whole

-- its own value in kilograms, as it is printed: a weighed tare is rounded to e
abbrev pub tare_in_kilograms : Setup → TareNow → ℤ
tare_in_kilograms s Empty = pos 0
tare_in_kilograms s (Weighed tenths) = pos s.interval_kg *ℤ round tenths
tare_in_kilograms s (Preset whole) = pos s.interval_kg *ℤ whole

abbrev pub is_weighed : TareNow → Bool
is_weighed Empty = false
is_weighed (Weighed tenths) = true
is_weighed (Preset whole) = false

abbrev pub is_preset : TareNow → Bool
is_preset Empty = false
is_preset (Weighed tenths) = false
is_preset (Preset whole) = true

-- a weighed tare is at least half an interval and at most Max, a preset tare 1 to n
abbrev pub IsTare : Setup → TareNow → Type 0
IsTare s Empty = Unit {0}
IsTare s (Weighed tenths) = (pos 5 ≤ℤ tenths) × (tenths ≤ℤ pos (10 * intervals_in_max s))
IsTare s (Preset whole) = (pos 1 ≤ℤ whole) × (whole ≤ℤ pos (intervals_in_max s))

-- the answer to taring so many tenths above the zero: not above Max, and not where the gross is 0 or less (4.6.4)
abbrev pub tare_answer_at : Setup → Option ℤ → TareAnswer
tare_answer_at s None = NotStable
tare_answer_at s (Some tenths) =
    if int_lt (pos (10 * intervals_in_max s)) tenths then Above
    else if int_le (round tenths) (pos 0) then Below
    else Done (tare_in_kilograms s (Weighed tenths))

-- only in stable equilibrium, and not while a preset tare is in force
abbrev pub tare_answer_of : Setup → Bool → TareNow → Option ℤ → TareAnswer
tare_answer_of s stable tare tenths =
    if not stable then NotStable
    else if is_preset tare then PresetInUse
    else tare_answer_at s tenths

-- the answer to taring after these moments
abbrev pub tare_answer : Setup → List Moment → TareAnswer
tare_answer s ms = tare_answer_of s (is_stable s.window s.band (readings ms)) (tare_now ms) (above_zero ms)

abbrev pub is_tared : TareAnswer → Bool
is_tared (Done kg) = true
is_tared NotStable = false
is_tared PresetInUse = false
is_tared Above = false
is_tared Below = false

-- what the tare becomes by taring: the load above the zero, in tenths
abbrev pub weighed : Setup → List Moment → Option TareNow
weighed s ms = if is_tared (tare_answer s ms) then option_map Weighed (above_zero ms) else None

-- the answer to a preset tare of so many intervals, where they are 1 to n
abbrev pub preset_answer_at : Setup → Option ℕ → PresetAnswer
preset_answer_at s None = OutOfRange
preset_answer_at s (Some whole) = PresetDone (tare_in_kilograms s (Preset (pos whole)))

-- the answer to a preset tare of so many grams: not while a weighed tare is in force (4.7.2)
abbrev pub preset_answer : Setup → List Moment → ℕ → PresetAnswer
preset_answer s ms grams = if is_weighed (tare_now ms) then WeighedInUse else preset_answer_at s (preset s grams)

abbrev pub is_preset_done : PresetAnswer → Bool
is_preset_done (PresetDone kg) = true
is_preset_done WeighedInUse = false
is_preset_done OutOfRange = false

-- what the tare becomes by a preset tare of so many grams
abbrev pub given : Setup → List Moment → ℕ → Option TareNow
given s ms grams = if is_weighed (tare_now ms) then None else option_map (λ whole. Preset (pos whole)) (preset s grams)
