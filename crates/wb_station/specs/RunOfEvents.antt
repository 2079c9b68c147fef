-- What a run of events does.
use Rattle.std.specs.Prelude.{◌≡◌, ◌≢◌, ℕ, ◌+◌, true, false, List, [], ◌∷◌, ◌++◌, length, map, reverse}
use Rattle.sqlite.specs.Store.{Ghosts}
use Rattle.wb_sics.specs.Stands.{TerminalState}
use Rattle.wb_store.specs.Journal.{IsHonest, StoreView}
use Rattle.wb_messages.specs.declared.event.Event.{Event}
use Rattle.wb_station.specs.Account.{Account, IsOut, Out, bytes_of_out}
use Rattle.wb_messages.specs.Happening.{Happening, happening, unmarked}
use Rattle.wb_station.specs.Stands.{Hears, IsReplied, MustBeUnmade, StationStands, Took}
use Rattle.wb_station.specs.Unmade.{AllMayBeUnmade}
use Rattle.wb_instrument.specs.Setup.{Setup}

-- bytes with the place of their event; nothing is taken where there are none
abbrev pub at_place : ℕ → List ℕ → List (ℕ × List ℕ)
at_place place [] = []
at_place place (b ∷ bytes) = (place, b ∷ bytes) ∷ []

-- what is put out at each of the happenings after a history, both the newest first, is what the definitions give there
abbrev pub AreOuts : Setup → Account → List Happening → List Happening → List Out → Type 0
AreOuts s opening [] h outs = outs ≡ []
AreOuts s opening (p ∷ ps) h [] = ⊥
AreOuts s opening (p ∷ ps) h (out ∷ outs) = IsOut s opening p (ps ++ h) out × AreOuts s opening ps h outs

-- those of the terminal are the replies to what it heard
abbrev pub AreReplies : Setup → List Happening → List Happening → List Out → Type 0
AreReplies s [] h outs = outs ≡ []
AreReplies s (p ∷ ps) h [] = ⊥
AreReplies s (p ∷ ps) h (out ∷ outs) = IsReplied s p (ps ++ h) out × AreReplies s ps h outs

-- what is taken of these outputs, the newest first
abbrev pub taken_of : List Out → List (ℕ × List ℕ)
taken_of [] = []
taken_of (out ∷ outs) = at_place (length outs + 1) (bytes_of_out out) ++ taken_of outs

module _ {D : Type 0} (g : Ghosts D) where
  -- the happenings, the newest first, were taken one after the other, from here to there, and this was put out at each
  abbrev pub Ran : List Happening → TerminalState → StoreView D → TerminalState → StoreView D → List Out → Type 0
  Ran [] t j t' j' outs = (t' ≡ t) × (j' ≡ j) × (outs ≡ [])
  Ran (p ∷ ps) t j t' j' [] = ⊥
  Ran (p ∷ ps) t j t' j' (out ∷ outs) = (before : TerminalState) × (store : StoreView D) × Ran ps t j before store outs × Took g p out before store t' j'

-- what asks the store counts as never made
abbrev pub AllMustBeUnmade : List Happening → Type 0
AllMustBeUnmade [] = Unit {0}
AllMustBeUnmade (p ∷ ps) = MustBeUnmade p × AllMustBeUnmade ps

module _ {D : Type 0} (g : Ghosts D) (ps : List Happening) (t : TerminalState) (j : StoreView D) (t' : TerminalState) (j' : StoreView D) where
  -- where a run of these leads
  pub record Leads (outs : List Out) : Type 0 where
    pub setup : t'.scale.setup ≡ t.scale.setup
    pub may_be_unmade : AllMayBeUnmade ps
    pub stands : (opening : Account) (h : List Happening) → StationStands g opening t j h → IsHonest g j' → StationStands g opening t' j' (ps ++ h)
    pub put_out : (opening : Account) (h : List Happening) → StationStands g opening t j h → IsHonest g j' → AreOuts t.scale.setup opening ps h outs
    -- after a fault of the disk each request that asks the store is answered 503
    pub still : j.is_closed ≡ true → (j' ≡ j) × AllMustBeUnmade ps
    pub honest : IsHonest g j' → IsHonest g j
    -- the terminal alone, whatever the store is
    pub hears : (h : List Happening) → Hears t h → Hears t' (ps ++ h)
    pub replies : (h : List Happening) → Hears t h → AreReplies t.scale.setup ps h outs

module _ {D : Type 0} (g : Ghosts D) where
  -- some happenings, the newest first, and those before them were taken: there is a station between
  pub record IsParted (later earlier : List Happening) (t : TerminalState) (j : StoreView D) (t' : TerminalState) (j' : StoreView D) (outs : List Out) : Type 0 where
    pub terminal : TerminalState
    pub store : StoreView D
    pub outs_later : List Out
    pub outs_earlier : List Out
    pub is_outs : outs ≡ outs_later ++ outs_earlier
    pub ran_earlier : Ran g earlier t j terminal store outs_earlier
    pub ran_later : Ran g later terminal store t' j' outs_later

  -- a run leads, as a whole and from each of its places on
  pub record RunsLead : Type 0 where
    pub leads : (ps : List Happening) (t : TerminalState) (j : StoreView D) (t' : TerminalState) (j' : StoreView D) (outs : List Out) → Ran g ps t j t' j' outs → Leads g ps t j t' j' outs
    pub parted : (later earlier : List Happening) (t : TerminalState) (j : StoreView D) (t' : TerminalState) (j' : StoreView D) (outs : List Out) → Ran g (later ++ earlier) t j t' j' outs
        → IsParted later earlier t j t' j' outs

-- the happenings are those of the events, but for the marks
abbrev pub AreOf : List Happening → List Event → Type 0
AreOf ps events = map unmarked ps ≡ reverse (map (happening false) events)

module _ {D : Type 0} (g : Ghosts D) (events : List Event) (t : TerminalState) (j : StoreView D) (t' : TerminalState) (j' : StoreView D) (before after : List (ℕ × List ℕ)) where
  -- the events were taken, and all that was put out but perhaps the last was handed on, each at its place
  pub record Went (ps : List Happening) (outs handed_on : List Out) : Type 0 where
    pub of_events : AreOf ps events
    pub ran : Ran g ps t j t' j' outs
    pub taken : after ≡ taken_of handed_on ++ before

  -- all of them, and all was handed on
  pub record WentOn : Type 0 where
    pub happenings : List Happening
    pub outs : List Out
    pub went : Went happenings outs outs

  -- the last was refused
  pub record Stopped : Type 0 where
    pub happenings : List Happening
    pub last : Out
    pub outs : List Out
    pub went : Went happenings (last ∷ outs) outs
    pub some : bytes_of_out last ≢ []
