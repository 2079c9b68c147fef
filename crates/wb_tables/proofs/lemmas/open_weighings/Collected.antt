-- One entry more, from the last to the first, and its open weighings.
use Rattle.std.proofs.Common.{◌≡◌, false, List, [], ◌∷◌, ◌++◌, length, refl, ap, ◌∙◌, arith, append_assoc}
use Rattle.wb_tables.proofs.Common.{IsPermutation-cons, IsPermutation-to_front, IsPermutation-trans, HashSet, contains_text, IsPermutation, String, is_first_kind, IsRising, EntryParts, First, HasCollected, open_weighings, HasPut}
use Rattle.wb_tables.proofs.lemmas.open_weighings.WhatIsOpen.{open_weighings_are}

-- an open First before them
pub past_open : {A S : Type 0} (x : EntryParts) (es found : List EntryParts) (plates : HashSet (String A) S) → HasCollected found plates es → x.kind ≡ First → contains_text plates x.plate ≡ false
    → (more : HashSet (String A) S) → HasPut plates more x.plate → HasCollected (found ++ x ∷ []) more (x ∷ es)
past_open x es found plates held first absent more put = record {
  firsts = rw (ap is_first_kind first, ← held.paired x.plate, absent) (IsPermutation-trans _ _ _ (IsPermutation-to_front found x) (IsPermutation-cons x _ _ held.firsts));
  paired = λ plate. rw (put plate, held.paired plate, first) refl;
}

-- ---- the entries, from the last to the first

-- these entries are before those that were gone past
pub record AreParted {A S : Type 0} (entries rest found : List EntryParts) (plates : HashSet (String A) S) : Type 0 where
  pub past : List EntryParts
  pub whole : entries ≡ rest ++ past
  pub collected : HasCollected found plates past

-- the entry before them
pub parted_next : {A S : Type 0} (entries rest : List EntryParts) (e : EntryParts) (found more : List EntryParts) (plates set : HashSet (String A) S)
    → AreParted entries (rest ++ e ∷ []) found plates → ((es : List EntryParts) → HasCollected found plates es → HasCollected more set (e ∷ es)) → AreParted entries rest more set
parted_next entries rest e found more plates set part passed =
    record { past = e ∷ part.past; whole = part.whole ∙ append_assoc rest (e ∷ []) part.past; collected = passed part.past part.collected }

-- all were gone past
pub parted_all : {A S : Type 0} (entries rest found : List EntryParts) (plates : HashSet (String A) S) → length rest ≡ 0 → AreParted entries rest found plates → IsRising entries → IsPermutation found (open_weighings entries)
parted_all entries [] found plates none part rises = rw (open_weighings_are entries rises, part.whole) part.collected.firsts
parted_all entries (e ∷ rest) found plates none part rises = absurd (omega (arith, none))
