-- The texts of replies (MT-SICS levels 0 and 1).
use Rattle.std.specs.Prelude.{ℕ, List, ◌++◌, codes, ℤ}
use Rattle.wb_instrument.specs.WeightField.{weight_in_field}
use Rattle.wb_sics.specs.declared.reply.CommandName.{CommandName}
use Rattle.wb_sics.specs.declared.reply.CommandName.TheVariants.{Cancel, Commands, SerialNumber as SerialNumberName, Weight, WeightNow, Repeat, Zero, Tare, TareValue as TareValueName, ClearTare}
use Rattle.wb_sics.specs.declared.reply.Reply.{Reply}
use Rattle.wb_sics.specs.declared.reply.Reply.TheVariants.{WeightStable, WeightMoving, WeightRefused, WeightOver, WeightUnder, ZeroDone, ZeroRefused, ZeroAbove, ZeroBelow, TareDone, TareRefused, TareAbove, TareBelow, TareValue, PresetRefused, PresetBad, TareCleared, SerialNumber, Listed, Error}

-- a weight right-aligned in 10 characters, one blank and `kg`
abbrev pub weight_text : List ℕ → ℤ → List ℕ
weight_text words kg = words ++ weight_in_field kg ++ codes " kg"

-- a command of the terminal with its level, the last with A for B
abbrev pub listed_text : CommandName → List ℕ
listed_text Cancel = codes "I0 B 0 \"@\""
listed_text Commands = codes "I0 B 0 \"I0\""
listed_text SerialNumberName = codes "I0 B 0 \"I4\""
listed_text Weight = codes "I0 B 0 \"S\""
listed_text WeightNow = codes "I0 B 0 \"SI\""
listed_text Repeat = codes "I0 B 0 \"SIR\""
listed_text Zero = codes "I0 B 0 \"Z\""
listed_text Tare = codes "I0 B 1 \"T\""
listed_text TareValueName = codes "I0 B 1 \"TA\""
listed_text ClearTare = codes "I0 A 1 \"TAC\""

-- a reply, without its line end
abbrev pub reply_text : Reply → List ℕ
reply_text (WeightStable kg) = weight_text (codes "S S ") kg
reply_text (WeightMoving kg) = weight_text (codes "S D ") kg
reply_text WeightRefused = codes "S I"
reply_text WeightOver = codes "S +"
reply_text WeightUnder = codes "S -"
reply_text ZeroDone = codes "Z A"
reply_text ZeroRefused = codes "Z I"
reply_text ZeroAbove = codes "Z +"
reply_text ZeroBelow = codes "Z -"
reply_text (TareDone kg) = weight_text (codes "T S ") kg
reply_text TareRefused = codes "T I"
reply_text TareAbove = codes "T +"
reply_text TareBelow = codes "T -"
reply_text (TareValue kg) = weight_text (codes "TA A ") kg
reply_text PresetRefused = codes "TA I"
reply_text PresetBad = codes "TA L"
reply_text TareCleared = codes "TAC A"
reply_text (SerialNumber serial) = codes "I4 A \"" ++ serial ++ codes "\""
reply_text (Listed name) = listed_text name
reply_text Error = codes "ES"

-- each reply ends with CR LF
abbrev pub reply_bytes : Reply → List ℕ
reply_bytes reply = reply_text reply ++ codes "\r\n"
