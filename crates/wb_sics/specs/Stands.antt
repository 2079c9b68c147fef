-- A terminal stands after a history.
use Rattle.std.specs.Prelude.{◌≡◌, ℕ, Bool, false, List, [], ◌∷◌, ◌++◌, take, reverse, Option, None}
use Rattle.wb_instrument.specs.Setup.{Setup}
use Rattle.wb_scale.specs.Call.{stored as stored_call}
use Rattle.wb_scale.specs.Stands.{ScaleStands, ScaleTakes}
use Rattle.wb_scale.specs.State.{State}
use Rattle.wb_sics.specs.declared.waiting.Waiting.{Waiting}
use Rattle.wb_sics.specs.Calls.{calls}
use Rattle.wb_sics.specs.Event.{TerminalEvent, stored}
use Rattle.wb_sics.specs.Lines.{unfinished}
use Rattle.wb_sics.specs.Repetition.{is_repeating}
use Rattle.wb_sics.specs.Replies.{waiting_after}

-- what a terminal keeps
pub record TerminalState : Type 0 where
  pub scale : State
  -- the waiting command, with the readings that it still waits
  pub waiting : Option Waiting
  -- the value is repeated at each reading
  pub repeating : Bool
  -- the first bytes of the unfinished line
  pub line : List ℕ

-- nothing waits, nothing is repeated, and no line is begun
pub record IsIdle (s : TerminalState) : Type 0 where
  pub waiting : s.waiting ≡ None
  pub repeating : s.repeating ≡ false
  pub line : s.line ≡ []

-- what a terminal keeps is what the definitions say of the history
pub record TerminalStandsAt (i : Setup) (s : TerminalState) (h : List TerminalEvent) : Type 0 where
  pub scale : ScaleStands s.scale (calls i h)
  pub waiting : s.waiting ≡ waiting_after i h
  pub repeating : s.repeating ≡ is_repeating h
  pub line : s.line ≡ take 42 (reverse (unfinished h))

-- the terminal stands after the history
pub record TerminalStands (s : TerminalState) (h : List TerminalEvent) : Type 0 where
  pub now : TerminalStandsAt s.scale.setup s h

-- the terminal takes events, the newest first: after whatever history it stood, it stands after that history with the events
pub record TerminalTakesAll (old new : TerminalState) (events : List TerminalEvent) : Type 0 where
  pub setup : new.scale.setup ≡ old.scale.setup
  pub stands : (h : List TerminalEvent) → TerminalStands old h → TerminalStands new (events ++ h)

-- the terminal takes an event
abbrev pub TerminalTakes : TerminalState → TerminalState → TerminalEvent → Type 0
TerminalTakes old new event = TerminalTakesAll old new (event ∷ [])

-- the terminal takes a stored weighing as soon as its scale does
abbrev pub TakesStored : Type 0
TakesStored = (s : TerminalState) (scale : State) → ScaleTakes s.scale scale stored_call → TerminalTakes s (record s { scale = scale }) stored
