-- The open weighings of a journal, collected from its last entry to its first.
use Rattle.std.specs.Prelude.{◌≡◌, ◌&&◌, ℕ, not, if◌then◌else◌, List, [], ◌∷◌, String}
use Rattle.std.specs.HashSet.{HashSet, contains_text}
use Rattle.std.specs.List.{list_any}
use Rattle.std.specs.List.Sorted.{IsPermutation}
use Rattle.wb_journal.specs.Kind.{is_first_kind}
use Rattle.wb_journal.specs.Pairs.{may_pair_of}
use Rattle.wb_journal.specs.declared.entry.EntryParts.{EntryParts}

-- the Firsts after which no First, Second or Void of their plate comes
abbrev pub last_firsts : List EntryParts → List EntryParts
last_firsts [] = []
last_firsts (e ∷ es) = if is_first_kind e.kind && not (list_any (may_pair_of e.plate) es) then e ∷ last_firsts es else last_firsts es

-- of these entries the open weighings were collected, in any order, and the plates of those that may be paired
pub record HasCollected {A S : Type 0} (found : List EntryParts) (plates : HashSet (String A) S) (es : List EntryParts) : Type 0 where
  pub firsts : IsPermutation found (last_firsts es)
  pub paired : (plate : List ℕ) → contains_text plates plate ≡ list_any (may_pair_of plate) es
