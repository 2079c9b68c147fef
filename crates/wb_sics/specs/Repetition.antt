-- When the value is repeated (`SIR`).
use Rattle.std.specs.Prelude.{Bool, true, false, List, [], ◌∷◌, Option, Some, None}
use Rattle.std.specs.List.{filter_map}
use Rattle.wb_sics.specs.declared.command.Command.{Command}
use Rattle.wb_sics.specs.declared.command.Command.TheVariants.{Weight, WeightNow, Repeat, Zero, Tare, TareValue, PresetTare, BadTare, ClearTare, Cancel, Commands, SerialNumber, Unknown}
use Rattle.wb_sics.specs.Event.{TerminalEvent}
use Rattle.wb_sics.specs.Lines.{commands}

-- `SIR` turns the repetition on, `S`, `SI` and `@` turn it off; any other line leaves it
abbrev pub turned_by : Command → Option Bool
turned_by Weight = Some false
turned_by WeightNow = Some false
turned_by Repeat = Some true
turned_by Zero = None
turned_by Tare = None
turned_by TareValue = None
turned_by (PresetTare grams) = None
turned_by BadTare = None
turned_by ClearTare = None
turned_by Cancel = Some false
turned_by Commands = None
turned_by SerialNumber = None
turned_by Unknown = None

-- as the newest of them turned it; off where none did
abbrev pub newest_or_off : List Bool → Bool
newest_or_off [] = false
newest_or_off (on ∷ older) = on

-- the value is repeated at each reading: of the lines `S`, `SI`, `SIR` and `@` since the last hang-up the newest is `SIR`
abbrev pub is_repeating : List TerminalEvent → Bool
is_repeating h = newest_or_off (filter_map turned_by (commands h))
