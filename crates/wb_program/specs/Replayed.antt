-- What a replay did.
use Rattle.std.specs.Prelude.{◌≡◌, ℕ, ◌+◌, ◌≤◌, ◌<◌, List, [], length, map, take, reverse, Option, Some, None, IfSome, option_map, slice_get}
use Rattle.std.specs.Io.KnownBytes.{Appends}
use Rattle.std.specs.Str.Lines.{lines}
use Rattle.sqlite.specs.Steps.{over_memory}
use Rattle.sqlite_trees.specs.declared.memory.MemStore.{MemStore}
use Rattle.wb_instrument.specs.Setup.{Setup}
use Rattle.wb_program.specs.declared.replaying.ReplayEnd.{ReplayEnd}
use Rattle.wb_program.specs.declared.replaying.ReplayEnd.TheVariants.{Done, BadLine, TooLong, ReadFault, WriteFault, Memory}
use Rattle.wb_trace.specs.TraceLines.{line_events}
use Rattle.wb_trace.specs.Trace.{trace_events, trace_limit}
use Rattle.wb_program.specs.PrintedOutputs.{printed}
use Rattle.wb_sics.specs.Stands.{TerminalState}
use Rattle.wb_station.specs.Account.{Account, Out, opened}
use Rattle.wb_messages.specs.Happening.{Happening, unmarked}
use Rattle.wb_station.specs.RunOfEvents.{AreOuts, AreReplies, Ran}
use Rattle.wb_station.specs.Stands.{Hears, StationStands}
use Rattle.wb_station.specs.Unmade.{AllMayBeUnmade}
use Rattle.wb_store.specs.Journal.{StoreView}

-- a journal without entries, and a terminal to which nothing has come
abbrev pub at_first : Account
at_first = opened [] []

-- a station over a journal in memory, to which nothing had come, took these, one after the other
pub record RanAtFirst (s : Setup) (happenings : List Happening) (outs : List Out) : Type 0 where
  pub terminal : TerminalState
  pub store : StoreView MemStore
  pub terminal_after : TerminalState
  pub store_after : StoreView MemStore
  pub setup : terminal.scale.setup ≡ s
  pub stands : StationStands over_memory at_first terminal store []
  pub hears : Hears terminal []
  pub ran : Ran over_memory happenings terminal store terminal_after store_after outs

-- lines were understood, and what was written is the printed form of what a station puts out at them: its happenings, the newest
-- first, are those of the lines, but that a request which may want memory or asks the store may count as never made
pub record Replayed (s : Setup) (ls : List (List ℕ)) (w w' : Option (List ℕ)) : Type 0 where
  pub happenings : List Happening
  pub outs : List Out
  pub understood : trace_events ls ≡ Some (reverse (map unmarked happenings))
  pub ran : RanAtFirst s happenings outs
  pub may_be_unmade : AllMayBeUnmade happenings
  pub put_out : AreOuts s at_first happenings [] outs
  pub replies : AreReplies s happenings [] outs
  pub written : Appends w w' (printed outs)

-- line n, counted from 1, is the first that isn't understood, and those before it were replayed
pub record StopsAt (s : Setup) (ls : List (List ℕ)) (n : ℕ) (w w' : Option (List ℕ)) : Type 0 where
  pub before : ℕ
  pub number : n ≡ before + 1
  pub replayed : Replayed s (take before ls) w w'
  pub not_understood : option_map line_events (slice_get ls before) ≡ Some None

-- what an end says of lines that were replayed
abbrev pub ReplaysLines : ReplayEnd → Setup → List (List ℕ) → Option (List ℕ) → Option (List ℕ) → Type 0
ReplaysLines Done s ls w w' = Replayed s ls w w'
ReplaysLines (BadLine n) s ls w w' = StopsAt s ls n w w'
ReplaysLines TooLong s ls w w' = Unit {0}
ReplaysLines ReadFault s ls w w' = Unit {0}
ReplaysLines WriteFault s ls w w' = Unit {0}
ReplaysLines Memory s ls w w' = Unit {0}

-- nothing is written where no line is run
abbrev pub IsUntouched : ReplayEnd → Option (List ℕ) → Option (List ℕ) → Type 0
IsUntouched Done w w' = Unit {0}
IsUntouched (BadLine n) w w' = Unit {0}
IsUntouched TooLong w w' = w' ≡ w
IsUntouched ReadFault w w' = w' ≡ w
IsUntouched WriteFault w w' = Unit {0}
IsUntouched Memory w w' = w' ≡ w

-- what an end says of a trace of these bytes: only a trace that is not too long is run
abbrev pub EndsOn : ReplayEnd → Setup → Option (List ℕ) → Option (List ℕ) → List ℕ → Type 0
EndsOn Done s w w' trace = (length trace ≤ trace_limit) × ReplaysLines Done s (lines trace) w w'
EndsOn (BadLine n) s w w' trace = (length trace ≤ trace_limit) × ReplaysLines (BadLine n) s (lines trace) w w'
EndsOn TooLong s w w' trace = trace_limit < length trace
EndsOn ReadFault s w w' trace = Unit {0}
EndsOn WriteFault s w w' trace = length trace ≤ trace_limit
EndsOn Memory s w w' trace = Unit {0}

-- the same of what the reader has left, where that is known
abbrev pub Ends : ReplayEnd → Setup → Option (List ℕ) → Option (List ℕ) → Option (List ℕ) → Type 0
Ends end s unread w w' = IfSome unread (EndsOn end s w w')
