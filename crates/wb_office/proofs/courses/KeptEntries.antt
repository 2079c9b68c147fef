-- An entry is kept until a purge at its bound takes it out.
use Rattle.std.proofs.Common.{◌≡◌, ◌∙◌, sym, ap, subst, ◌⊎◌, inl, inr, ℕ, ◌<◌, Bool, true, false, if◌then◌else◌, nat_le, List, [], ◌∷◌, length, Option, Some, None, refl, arith}
use Rattle.wb_office.proofs.Common.{nat_tests, Contains, EntryParts, Sound, finding_in, finding, least_faulty, day_of, IsOfAge, kept, Among, among-contains, SpentKey, Purge, IsBoundAt, Outcome, outcome_of, adds, entries_after, nothing, outcome, purges, spent_by_outcome, spent_by, unless_damaged, AreBounds, Journal, RequestTurn, added_in_turn, added, additions, after, after_turn, left, situation_of_turn, with_one, AreSound, IsTakenOut, KeptForItsTime, TakesOut, HasBound}
use Rattle.wb_office.proofs.FoundEntries.{none_some}
use Rattle.wb_office.proofs.Members.{among_left, among_right, contains, kept_among, spent_among}
use Rattle.wb_office.proofs.courses.AcceptedEntries.{Comes, adding, comes, is_added, purging, stays}

-- a finding of no damage counts the entries
pub all_counted : (es : List EntryParts) (count : ℕ) → finding_in es ≡ Sound count → AreSound es
all_counted es count is = go (least_faulty es) is
  where
    go : (o : Option ℕ) → finding o (length es) ≡ Sound count → finding o (length es) ≡ Sound (length es)
    go None s = refl
    go (Some n) s = absurd (cc)

-- ---- one turn

-- an entry that stands in the journal stands after the turn, or the turn takes it out
turn_keeps : (j : Journal) (t : RequestTurn) (e : EntryParts) → HasBound t.request (situation_of_turn j t) t.bound → Among e j.entries → Among e (after_turn j t).entries ⊎ TakesOut j t e
turn_keeps j t e bound there = go t.is_made refl
  where
    takes_out : t.is_made ≡ true → t.request ≡ Purge → (count : ℕ) → finding_in j.entries ≡ Sound count → e.number < t.bound → TakesOut j t e
    takes_out made ask count sound low =
        let at : IsBoundAt t.setup j.entries j.spent t.at t.bound = subst (λ r. HasBound r (situation_of_turn j t) t.bound) ask bound in
        let found = contains e j.entries there in
        record {
          is_made = made;
          asked = ask;
          sound = all_counted j.entries count sound;
          found = found;
          bound = at;
          below = low;
          of_age = subst (λ x. x.number < t.bound → IsOfAge (day_of t.at) t.setup.retention_days x) found.2 (at.purgeable.aged found.0 e found.1) low;
        }

    by_outcome : {o : Outcome} → t.is_made ≡ true → Comes (situation_of_turn j t) t.bound t.request o → Among e (entries_after o j.entries) ⊎ TakesOut j t e
    by_outcome made (stays none) = inl there
    by_outcome made (adding asked f is one) = inl (among_left e j.entries (f ∷ []) there)
    by_outcome made (purging ask count sound none) = by_bound (nat_le t.bound e.number) refl
      where
        by_bound : (h : Bool) → nat_le t.bound e.number ≡ h → Among e (kept t.bound j.entries) ⊎ TakesOut j t e
        by_bound true high = inl (kept_among t.bound j.entries e there (grind (arith, nat_tests)))
        by_bound false low = inr (takes_out made ask count sound (grind (arith, nat_tests)))

    go : (m : Bool) → t.is_made ≡ m → Among e (if m then left j t else j).entries ⊎ TakesOut j t e
    go true made = by_outcome made (comes (situation_of_turn j t) t.bound t.request)
    go false made = inl there

-- an entry that the turn adds stands after it
turn_adds : (j : Journal) (t : RequestTurn) (e : EntryParts) → added_in_turn j t ≡ Some e → Among e (after_turn j t).entries
turn_adds j t e some = go t.is_made some
  where
    go : (m : Bool) → (if m then added (situation_of_turn j t) t.request else None) ≡ Some e → Among e (if m then left j t else j).entries
    go true s =
        let one = is_added (situation_of_turn j t) t.request e s in
        subst (λ o. Among e (entries_after o j.entries)) (sym (one.asked.outcomes (situation_of_turn j t) t.bound ∙ ap outcome_of one.is)) (among_right e j.entries (e ∷ []) (inl refl))
    go false s = none_some s

-- a spent key stays spent
turn_spends : (j : Journal) (t : RequestTurn) (s : SpentKey) → Among s j.spent → Among s (after_turn j t).spent
turn_spends j t s there = go t.is_made
  where
    by_outcome : (o : Outcome) → Among s (spent_by_outcome o j.entries j.spent)
    by_outcome nothing = there
    by_outcome (adds e) = there
    by_outcome (purges c) = among_left s j.spent _ there

    go : (m : Bool) → Among s (if m then left j t else j).spent
    go true = by_outcome (outcome (situation_of_turn j t) t.bound t.request)
    go false = there

-- an entry that the turn takes out leaves its key
turn_leaves_key : (j : Journal) (t : RequestTurn) (e : EntryParts) → TakesOut j t e → Among (spent_by e) (after_turn j t).spent
turn_leaves_key j t e out = subst (λ m. Among (spent_by e) (if m then left j t else j).spent) (sym out.is_made) made
  where
    is : outcome (situation_of_turn j t) t.bound t.request ≡ purges t.bound
    is = ap (outcome (situation_of_turn j t) t.bound) out.asked ∙ ap (λ f. unless_damaged f t.bound) out.sound

    made : Among (spent_by e) (left j t).spent
    made =
        subst (λ o. Among (spent_by e) (spent_by_outcome o j.entries j.spent)) (sym is)
        (among_right (spent_by e) j.spent _ (spent_among t.bound j.entries e (among-contains e j.entries out.found) out.below))

-- ---- a course

-- a turn after which it stands or was taken out
one_more : (j : Journal) (t : RequestTurn) (ts : List RequestTurn) (e : EntryParts) → HasBound t.request (situation_of_turn (after j ts) t) t.bound → Among e (after j ts).entries ⊎ IsTakenOut j ts e
    → Among e (after j (t ∷ ts)).entries ⊎ IsTakenOut j (t ∷ ts) e
one_more j t ts e bound (inr out) = inr (inr out)
one_more j t ts e bound (inl there) = go (turn_keeps (after j ts) t e bound there)
  where
    go : Among e (after_turn (after j ts) t).entries ⊎ TakesOut (after j ts) t e → Among e (after j (t ∷ ts)).entries ⊎ IsTakenOut j (t ∷ ts) e
    go (inl still) = inl still
    go (inr out) = inr (inl out)

pub stands_or_out : (j : Journal) (ts : List RequestTurn) (e : EntryParts) → AreBounds j ts → Among e j.entries ⊎ Among e (additions j ts) → Among e (after j ts).entries ⊎ IsTakenOut j ts e
stands_or_out j [] e bounds (inl there) = inl there
stands_or_out j [] e bounds (inr none) = absurd none
stands_or_out j (t ∷ ts) e bounds was = go was (λ w. one_more j t ts e bounds.0 (stands_or_out j ts e bounds.1 w))
  where
    by_turn : (o : Option EntryParts) → added_in_turn (after j ts) t ≡ o → Among e (with_one o (additions j ts)) → (Among e j.entries ⊎ Among e (additions j ts) → Among e (after j (t ∷ ts)).entries ⊎ IsTakenOut j (t ∷ ts) e)
        → Among e (after j (t ∷ ts)).entries ⊎ IsTakenOut j (t ∷ ts) e
    by_turn None is m rest = rest (inr m)
    by_turn (Some f) is (inl same) rest = inl (turn_adds (after j ts) t e (is ∙ ap Some (sym same)))
    by_turn (Some f) is (inr m) rest = rest (inr m)

    go : Among e j.entries ⊎ Among e (additions j (t ∷ ts)) → (Among e j.entries ⊎ Among e (additions j ts) → Among e (after j (t ∷ ts)).entries ⊎ IsTakenOut j (t ∷ ts) e)
        → Among e (after j (t ∷ ts)).entries ⊎ IsTakenOut j (t ∷ ts) e
    go (inl there) rest = rest (inl there)
    go (inr m) rest = by_turn (added_in_turn (after j ts) t) refl m rest

key_left : (j : Journal) (ts : List RequestTurn) (e : EntryParts) → IsTakenOut j ts e → Among (spent_by e) (after j ts).spent
key_left j [] e out = absurd out
key_left j (t ∷ ts) e (inl now) = turn_leaves_key (after j ts) t e now
key_left j (t ∷ ts) e (inr before) = turn_spends (after j ts) t (spent_by e) (key_left j ts e before)

pub kept_for_its_time : KeptForItsTime
kept_for_its_time j ts e bounds was = record {
  stands = stands (stands_or_out j ts e bounds (from was));
  spent = λ out. contains (spent_by e) (after j ts).spent (key_left j ts e out);
}
  where
    from : Contains j.entries e ⊎ Contains (additions j ts) e → Among e j.entries ⊎ Among e (additions j ts)
    from (inl there) = inl (among-contains e j.entries there)
    from (inr later) = inr (among-contains e (additions j ts) later)

    stands : Among e (after j ts).entries ⊎ IsTakenOut j ts e → Contains (after j ts).entries e ⊎ IsTakenOut j ts e
    stands (inl there) = inl (contains e (after j ts).entries there)
    stands (inr out) = inr out
