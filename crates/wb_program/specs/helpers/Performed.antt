-- What performing a list of happenings does.
use Rattle.std.specs.Prelude.{◌≡◌, ℕ, List, Option, map}
use Rattle.std.specs.Io.KnownBytes.{Appends}
use Rattle.sqlite.specs.Store.{Ghosts}
use Rattle.wb_program.specs.PrintedOutputs.{printed}
use Rattle.wb_sics.specs.Stands.{TerminalState}
use Rattle.wb_station.specs.Account.{Out}
use Rattle.wb_messages.specs.Happening.{Happening, unmarked}
use Rattle.wb_station.specs.RunOfEvents.{Ran}
use Rattle.wb_store.specs.Journal.{StoreView}

module _ {D : Type 0} (g : Ghosts D) (asked : List Happening) (t : TerminalState) (j : StoreView D) (t' : TerminalState) (j' : StoreView D) (w w' : Option (List ℕ)) where
  -- what is asked for, the newest first, led from one station to the other, but for the marks, and what was put out was printed
  pub record Performed : Type 0 where
    pub happenings : List Happening
    pub outs : List Out
    pub as_asked : map unmarked happenings ≡ asked
    pub ran : Ran g happenings t j t' j' outs
    pub written : Appends w w' (printed outs)
