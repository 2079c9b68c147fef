-- What lies in the caller's memory after a history.
use Rattle.std.specs.Prelude.{◌≡◌, List}
use Rattle.wb_instrument.specs.Setup.{Setup}
use Rattle.wb_sics.specs.Event.{TerminalEvent}
use Rattle.wb_sics.specs.Replies.{replies}
use Rattle.wb_sics.specs.Stands.{TerminalStands}
use Rattle.wb_terminal_c.specs.declared.handle.Handle.{Handle}

-- a terminal of this setup stands after this history, and the replies at its newest event are kept
pub record KeepsTerminal (x : Handle) (s : Setup) (h : List TerminalEvent) : Type 0 where
  pub setup : x.terminal.scale.setup ≡ s
  pub stands : TerminalStands x.terminal h
  pub replies : x.replies.items ≡ replies s h
