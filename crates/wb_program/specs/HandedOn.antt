-- The outputs and notices that `serve` passes to its sources.
use Rattle.std.specs.Prelude.{◌≡◌, ◌⊎◌, List, [], ◌∷◌, ◌++◌, Option, Some, None}
use Rattle.sqlite.specs.Store.{Ghosts}
use Rattle.wb_messages.specs.declared.notice.Notice.{Notice}
use Rattle.wb_messages.specs.Happening.{Happening}
use Rattle.wb_program.specs.Turns.{handed_on}
use Rattle.wb_sics.specs.Stands.{TerminalState}
use Rattle.wb_station.specs.Account.{Out}
use Rattle.wb_station.specs.Notices.{IsNoticed}
use Rattle.wb_station.specs.SourceAnswers.{Handed, MayNotice, SourceTells, Told, noticed, to_office, to_terminal}
use Rattle.wb_station.specs.Stands.{Took}
use Rattle.wb_store.specs.Journal.{StoreView}

-- the bytes for the terminal and the office, without the notices
abbrev pub without_notices : List Handed → List Handed
without_notices [] = []
without_notices (to_terminal bytes ∷ hs) = to_terminal bytes ∷ without_notices hs
without_notices (to_office bytes ∷ hs) = to_office bytes ∷ without_notices hs
without_notices (noticed notice ∷ hs) = without_notices hs

-- the output of an event, the newest first; its notice came before, unless the sources drop notices
abbrev pub IsHandedOn : Out → Option Notice → List Handed → Type 0
IsHandedOn out None hs = hs ≡ handed_on out
IsHandedOn out (Some notice) hs = (hs ≡ handed_on out) ⊎ (hs ≡ handed_on out ++ noticed notice ∷ [])

abbrev pub MayNoticeIfAny : Option Notice → Option Told → Option Told → Type 0
MayNoticeIfAny None old new = SourceTells [] [] old new
MayNoticeIfAny (Some notice) old new = MayNotice notice old new

-- the sources got these
abbrev pub HandsOn : Out → Option Notice → Option Told → Option Told → Type 0
HandsOn out notice old new = (hs : List Handed) × IsHandedOn out notice hs × SourceTells [] hs old new

module _ {D : Type 0} (g : Ghosts D) where
  -- the station processed the happenings, the newest first, from here to there. At each it gave an output and the notice of the definitions, and the
  -- sources got the notice, unless they drop notices, and then the output
  abbrev pub RanHandingOn : List Happening → TerminalState → StoreView D → TerminalState → StoreView D → List Out → List Handed → Type 0
  RanHandingOn [] t j t' j' outs hs = (t' ≡ t) × (j' ≡ j) × (outs ≡ []) × (hs ≡ [])
  RanHandingOn (p ∷ ps) t j t' j' [] hs = ⊥
  RanHandingOn (p ∷ ps) t j t' j' (out ∷ outs) hs =
      (before : TerminalState) × (store : StoreView D) × (earlier : List Handed) × (later : List Handed) × (notice : Option Notice)
      × RanHandingOn ps t j before store outs earlier × Took g p out before store t' j' × IsNoticed g p out before store j' notice × IsHandedOn out notice later
      × (hs ≡ later ++ earlier)
