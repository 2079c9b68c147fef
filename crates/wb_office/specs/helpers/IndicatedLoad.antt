-- What is judged and stored of a load, by what is indicated.
use Rattle.std.specs.Prelude.{ℕ, Bool, false, not, if◌then◌else◌, Option, Some, None, int_lt}
use Rattle.wb_instrument.specs.Limits.{is_below_min}
use Rattle.wb_instrument.specs.Setup.{Setup}
use Rattle.wb_journal.specs.declared.kind.Kind.{Kind}
use Rattle.wb_journal.specs.declared.kind.Kind.TheVariants.{First, Second, Single, Void}
use Rattle.wb_scale.specs.declared.answers.Indicated.{Indicated}
use Rattle.wb_scale.specs.declared.answers.Indicated.TheVariants.{NoLoad, Over, Under, Shown}
use Rattle.wb_scale.specs.declared.answers.TareNow.{TareNow}
use Rattle.wb_scale.specs.declared.answers.TareNow.TheVariants.{Empty, Weighed, Preset}
use Rattle.wb_messages.specs.declared.refusal.Refusal.{Refusal}
use Rattle.wb_messages.specs.declared.refusal.Refusal.TheVariants as refusal
use Rattle.wb_office.specs.Verdict.{kilograms_of}

-- why a load that is indicated so isn't stored
abbrev pub refusal_of_shown : Indicated → Option Refusal
refusal_of_shown NoLoad = Some refusal.NoLoad
refusal_of_shown Over = Some refusal.Overload
refusal_of_shown Under = Some refusal.Underload
refusal_of_shown (Shown gross net stable) =
    if not stable then Some refusal.Unstable
    else if is_below_min gross then Some refusal.BelowMin
    else None

-- a preset tare is in force, below a gross that is shown
abbrev pub is_preset_below_shown : TareNow → Indicated → Bool
is_preset_below_shown (Preset whole) (Shown gross net stable) = int_lt whole gross
is_preset_below_shown (Preset whole) NoLoad = false
is_preset_below_shown (Preset whole) Over = false
is_preset_below_shown (Preset whole) Under = false
is_preset_below_shown (Weighed tenths) indicated = false
is_preset_below_shown Empty indicated = false

abbrev pub gross_shown : Setup → Indicated → Option ℕ
gross_shown s NoLoad = None
gross_shown s Over = None
gross_shown s Under = None
gross_shown s (Shown gross net stable) = Some (kilograms_of s gross)

-- the gross that is stored of what is indicated; none for a Void
abbrev pub gross_of_shown : Setup → Kind → Indicated → Option ℕ
gross_of_shown s First indicated = gross_shown s indicated
gross_of_shown s Second indicated = gross_shown s indicated
gross_of_shown s Single indicated = gross_shown s indicated
gross_of_shown s Void indicated = None
