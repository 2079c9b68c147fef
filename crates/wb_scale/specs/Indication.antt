-- The indication: gross and net, each rounded to the interval.
use Rattle.std.specs.Prelude.{◌+◌, Bool, if◌then◌else◌, List, Option, Some, None, option_map, ℤ, pos, ◌-ℤ◌, neg_ℤ, ◌≤ℤ◌}
use Rattle.wb_instrument.specs.Limits.{is_above_range, is_below_range}
use Rattle.wb_instrument.specs.Rounding.{round}
use Rattle.wb_instrument.specs.Setup.{Setup, intervals_in_max}
use Rattle.wb_window.specs.Stability.{is_stable}
use Rattle.wb_scale.specs.declared.answers.Indicated.{Indicated}
use Rattle.wb_scale.specs.declared.answers.Indicated.TheVariants.{NoLoad, Over, Under, Shown}
use Rattle.wb_scale.specs.declared.answers.TareNow.{TareNow}
use Rattle.wb_scale.specs.Moment.{Moment, readings}
use Rattle.wb_scale.specs.Tare.{tare_now, tare_tenths}
use Rattle.wb_scale.specs.Zero.{above_zero}

-- gross, in whole e: the load above the zero, rounded
abbrev pub gross : List Moment → Option ℤ
gross ms = option_map round (above_zero ms)

-- gross and net are indicated, unless gross is over or under
abbrev pub weights_unless_outside : Setup → Bool → ℤ → ℤ → Indicated
weights_unless_outside s stable gross net =
    if is_above_range s gross then Over
    else if is_below_range gross then Under
    else Shown gross net stable

-- so many tenths above the zero are indicated, with a tare: the gross, and the net, which is what is above the tare. A weighed tare stands in it in tenths, not
-- rounded
abbrev pub indicated_at : Setup → Bool → TareNow → Option ℤ → Indicated
indicated_at s stable tare None = NoLoad
indicated_at s stable tare (Some tenths) = weights_unless_outside s stable (round tenths) (round (tenths -ℤ tare_tenths tare))

-- what is indicated after these moments
unfoldable pub indicated : Setup → List Moment → Indicated
indicated s ms = indicated_at s (is_stable s.window s.band (readings ms)) (tare_now ms) (above_zero ms)

-- what is shown is in range
abbrev pub IsIndicationInRange : Setup → Indicated → Type 0
IsIndicationInRange s NoLoad = Unit {0}
IsIndicationInRange s Over = Unit {0}
IsIndicationInRange s Under = Unit {0}
IsIndicationInRange s (Shown gross net stable) =
    (neg_ℤ (pos 20) ≤ℤ gross) × (gross ≤ℤ pos (intervals_in_max s + 9))
    × (neg_ℤ (pos (intervals_in_max s + 20)) ≤ℤ net) × (net ≤ℤ pos (intervals_in_max s + 9))
