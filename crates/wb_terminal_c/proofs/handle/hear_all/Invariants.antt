use Rattle.std.proofs.Common.{List, take}
use Rattle.wb_instrument.specs.Setup.{Setup}
use Rattle.wb_sics.specs.Event.{TerminalEvent}
use Rattle.wb_terminal_c.specs.Heard.{heard_after}
use Rattle.wb_terminal_c.specs.Keeps.{KeepsTerminal}
use Rattle.wb_terminal_c.proofs.Hearing.{Taken}
use Rattle.wb_terminal_c.proofs.handle.hear_all.Given as goal

abbrev pub invariant-loop-i : goal.invariant-loop-i
invariant-loop-i l = (s : Setup) (h : List TerminalEvent) → KeepsTerminal l.fn.handle s h → KeepsTerminal l.handle s (heard_after (take l.i l.bytes) h) × Taken s h l.bytes l.i
