-- The reply that the scale's answer gives, for each command that asks it.
use Rattle.std.specs.Prelude.{Bool, true, false, Option, Some, None, ℤ, pos, ◌*ℤ◌}
use Rattle.wb_instrument.specs.Setup.{Setup}
use Rattle.wb_scale.specs.declared.answers.Indicated.{Indicated}
use Rattle.wb_scale.specs.declared.answers.Indicated.TheVariants.{NoLoad, Over, Under, Shown}
use Rattle.wb_scale.specs.declared.answers.PresetAnswer.{PresetAnswer}
use Rattle.wb_scale.specs.declared.answers.PresetAnswer.TheVariants.{Done as PresetDone, WeighedInUse, OutOfRange}
use Rattle.wb_scale.specs.declared.answers.TareAnswer.{TareAnswer}
use Rattle.wb_scale.specs.declared.answers.TareAnswer.TheVariants.{Done as TareDone, NotStable as TareNotStable, PresetInUse, Above as TareAboveMax, Below as TareBelowZero}
use Rattle.wb_scale.specs.declared.answers.ZeroAnswer.{ZeroAnswer}
use Rattle.wb_scale.specs.declared.answers.ZeroAnswer.TheVariants.{Done, NotStable, Above, Below}
use Rattle.wb_sics.specs.declared.reply.Reply.{Reply}
use Rattle.wb_sics.specs.declared.reply.Reply.TheVariants.{WeightStable, WeightMoving, WeightRefused, WeightOver, WeightUnder, ZeroDone, ZeroRefused, ZeroAbove, ZeroBelow, TareDone as TareReply, TareRefused, TareAbove, TareBelow, TareValue, PresetRefused, PresetBad}
use Rattle.wb_sics.specs.declared.waiting.Awaited.{Awaited}
use Rattle.wb_sics.specs.declared.waiting.Awaited.TheVariants.{Weight as AwaitedWeight, Zero as AwaitedZero, Tare as AwaitedTare}

-- a net weight in kilograms
abbrev pub weight_shown : Bool → ℤ → Reply
weight_shown true kg = WeightStable kg
weight_shown false kg = WeightMoving kg

-- the reply to `SI`: the indicated net in kilograms; the net is rounded, the weighed tare in it is not (wb_scale, Indication)
abbrev pub reply_to_weight_now : Setup → Indicated → Reply
reply_to_weight_now s NoLoad = WeightRefused
reply_to_weight_now s Over = WeightOver
reply_to_weight_now s Under = WeightUnder
reply_to_weight_now s (Shown gross net stable) = weight_shown stable (pos s.interval_kg *ℤ net)

abbrev pub stable_weight : Bool → ℤ → Option Reply
stable_weight true kg = Some (WeightStable kg)
stable_weight false kg = None

-- the decided reply to `S`: where over, under or stable
abbrev pub reply_to_weight : Setup → Indicated → Option Reply
reply_to_weight s NoLoad = None
reply_to_weight s Over = Some WeightOver
reply_to_weight s Under = Some WeightUnder
reply_to_weight s (Shown gross net stable) = stable_weight stable (pos s.interval_kg *ℤ net)

-- the decided reply to `Z`: where stable
abbrev pub reply_to_zero : ZeroAnswer → Option Reply
reply_to_zero Done = Some ZeroDone
reply_to_zero NotStable = None
reply_to_zero Above = Some ZeroAbove
reply_to_zero Below = Some ZeroBelow

-- the decided reply to `T`: where stable
abbrev pub reply_to_tare : TareAnswer → Option Reply
reply_to_tare (TareDone kg) = Some (TareReply kg)
reply_to_tare TareNotStable = None
reply_to_tare PresetInUse = Some TareRefused
reply_to_tare TareAboveMax = Some TareAbove
reply_to_tare TareBelowZero = Some TareBelow

-- the reply to a preset tare
abbrev pub reply_to_preset : PresetAnswer → Reply
reply_to_preset (PresetDone kg) = TareValue kg
reply_to_preset WeighedInUse = PresetRefused
reply_to_preset OutOfRange = PresetBad

-- the reply to a command that is no longer waited for
abbrev pub reply_to_given_up : Awaited → Reply
reply_to_given_up AwaitedWeight = WeightRefused
reply_to_given_up AwaitedZero = ZeroRefused
reply_to_given_up AwaitedTare = TareRefused
