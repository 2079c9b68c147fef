-- What is indicated, as C reads it.
use Rattle.std.specs.Prelude.{ℕ, Bool, true, false, List, ℤ, pos, ◌*ℤ◌}
use Rattle.wb_instrument.specs.Setup.{Setup}
use Rattle.wb_scale.specs.Indication.{indicated}
use Rattle.wb_scale.specs.declared.answers.Indicated.{Indicated}
use Rattle.wb_scale.specs.declared.answers.Indicated.TheVariants.{NoLoad, Over, Under, Shown}
use Rattle.wb_sics.specs.Event.{TerminalEvent}
use Rattle.wb_sics.specs.Replies.{moments_of}
use Rattle.wb_terminal_c.specs.declared.indication.Indication.{Indication}

-- a state, with gross and net in kilograms
abbrev pub weights : ℕ → ℤ → ℤ → Indication
weights state gross net = record { state = state; gross_kg = gross; net_kg = net }

-- the state of weights: 4 if they are stable, else 3
abbrev pub state_of : Bool → ℕ
state_of true = 4
state_of false = 3

-- 0 no load, 1 overload, 2 underload; gross and net in kilograms, or 0 if there are none
abbrev pub shown_indication : Setup → Indicated → Indication
shown_indication s NoLoad = weights 0 (pos 0) (pos 0)
shown_indication s Over = weights 1 (pos 0) (pos 0)
shown_indication s Under = weights 2 (pos 0) (pos 0)
shown_indication s (Shown gross net stable) = weights (state_of stable) (pos s.interval_kg *ℤ gross) (pos s.interval_kg *ℤ net)

-- what is indicated after a history
abbrev pub indication_after : Setup → List TerminalEvent → Indication
indication_after s h = shown_indication s (indicated s (moments_of s h))
