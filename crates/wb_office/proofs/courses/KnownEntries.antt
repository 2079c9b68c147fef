-- An entry that was stored once, after whatever was asked: it is stored still, or was purged.
use Rattle.std.proofs.Common.{◌≡◌, ◌∙◌, sym, ap, subst, ℕ, ◌+◌, ◌<◌, ◌≤◌, ◌==◌, max, ◌⊎◌, Bool, true, false, inl, inr, not, ◌&&◌, ◌||◌, nat_le, if◌then◌else◌, List, [], ◌∷◌, ◌++◌, map, Option, Some, None, refl, arith, true≢false}
use Rattle.wb_office.proofs.Common.{nat_tests, clamps, find-append, list_any-append, bytes_eq-Decides, list_any, is_none, bytes_eq, EntryParts, is_closing_kind, day_of, open_entry, partner_in, kept, IsRising, Among, law_of_closing, AreLists, HaveOwnKeys, entry_by_key, greatest, greatest_spent, has_key, is_spent, number_after, SpentKey, left_rises, next_stays, Request, IsBoundAt, Outcome, outcome_of, entries_below, entries_after, entries_left, spent_by_outcome, spent_by, spent_left, Asking, Situation, AreBounds, Journal, RequestTurn, added, additions, after, left, situation_of_turn, with_one, accepted, of_new, verdict, HasBound}
use Rattle.wb_office.proofs.ConditionsInOrder.{none_holds}
use Rattle.wb_office.proofs.FoundEntries.{find_any, find_none, found_unspent, is_some_same}
use Rattle.wb_office.proofs.courses.AcceptedEntries.{Comes, IsNew, adding, and_true, asking_for, comes, is_added, is_new, purging, stays}
use Rattle.wb_office.proofs.courses.Numbers.{next_more, number_is_next}
use Rattle.wb_office.proofs.courses.Places.{above_greatest, rises}
use Rattle.wb_office.proofs.courses.StoredEntries.{IsPast, IsStored, is_twin, past_kept, past_more, past_stays, stored_kept, stored_more}

-- what holds of a journal, and of what a request leaves if it holds before it, holds after every course
pub kept_after : (P : Journal → Type 0) → ((j : Journal) (t : RequestTurn) → HasBound t.request (situation_of_turn j t) t.bound → P j → P (left j t))
    → (j : Journal) → P j → (ts : List RequestTurn) → AreBounds j ts → P (after j ts)
kept_after P keeps j holds [] bounds = holds
kept_after P keeps j holds (t ∷ ts) bounds = go t.is_made (kept_after P keeps j holds ts bounds.1)
  where
    go : (made : Bool) → P (after j ts) → P (if made then left (after j ts) t else after j ts)
    go true h = keeps (after j ts) t bounds.0 h
    go false h = h

-- an entry is stored or was purged
pub record IsKnown (es : List EntryParts) (ks : List SpentKey) (e : EntryParts) (p : Option EntryParts) : Type 0 where
  pub rising : IsRising es
  pub below_next : e.number < number_after es ks
  pub state : IsStored es ks e p ⊎ IsPast es ks e

-- ---- after one request

-- an entry that is added has another key
other_added : (a : Asking) (e f : EntryParts) (p : Option EntryParts) → verdict a ≡ accepted f → IsStored a.now.entries a.now.spent e p ⊎ IsPast a.now.entries a.now.spent e
    → has_key e.key f ≡ false
other_added a e f p is state = go (bytes_eq f.key e.key) refl state
  where
    new : IsNew a f
    new = is_new a f is

    asked : f.key ≡ a.key
    asked = rw new.made refl

    none : f.key ≡ e.key → entry_by_key a.now.entries e.key ≡ None
    none same = let same' : a.key ≡ e.key = sym asked ∙ same in rw (sym same') new.free

    unspent : f.key ≡ e.key → is_spent a.now.spent e.key ≡ false
    unspent same = let same' : a.key ≡ e.key = sym asked ∙ same in rw (sym same') new.unspent

    go : (c : Bool) → bytes_eq f.key e.key ≡ c → IsStored a.now.entries a.now.spent e p ⊎ IsPast a.now.entries a.now.spent e → bytes_eq f.key e.key ≡ false
    go false t s = t
    go true t (inl stored) = absurd (cc (sym (none ((bytes_eq-Decides f.key e.key).0 t)) ∙ stored.found))
    go true t (inr past) = absurd (true≢false (sym past.spent ∙ unspent ((bytes_eq-Decides f.key e.key).0 t)))

known_more : (a : Asking) (e f : EntryParts) (p : Option EntryParts) → verdict a ≡ accepted f → IsKnown a.now.entries a.now.spent e p → IsKnown (a.now.entries ++ f ∷ []) a.now.spent e p
known_more a e f p is known =
    let number = number_is_next a f is in
    let next = next_more a.now f number in
    let before = known.below_next in
    let above : e.number < f.number = rw number before in
    let other = other_added a e f p is known.state in
    record {
      rising = rises a.now.entries f known.rising (above_greatest a.now.entries (greatest_spent a.now.spent) f.number number);
      below_next = rw next (omega (arith, above));
      state = go known.state above other;
    }
  where
    go : IsStored a.now.entries a.now.spent e p ⊎ IsPast a.now.entries a.now.spent e → e.number < f.number → has_key e.key f ≡ false
        → IsStored (a.now.entries ++ f ∷ []) a.now.spent e p ⊎ IsPast (a.now.entries ++ f ∷ []) a.now.spent e
    go (inl stored) above other = inl (stored_more a.now.entries a.now.spent e f p stored above other)
    go (inr past) above other = inr (past_more a.now.entries a.now.spent e f past other)

known_kept : (w : Situation) (b : ℕ) (e : EntryParts) (p : Option EntryParts) → IsBoundAt w.setup w.entries w.spent w.at b → IsKnown w.entries w.spent e p
    → IsKnown (kept b w.entries) (w.spent ++ map spent_by (entries_below b w.entries)) e p
known_kept w b e p bound known = record {
  rising = left_rises (λ x. nat_le b x.number) w.entries known.rising;
  below_next = rw (next_stays b w.entries w.spent) known.below_next;
  state = go known.state (nat_le b e.number) refl;
}
  where
    go : IsStored w.entries w.spent e p ⊎ IsPast w.entries w.spent e → (c : Bool) → nat_le b e.number ≡ c
        → IsStored (kept b w.entries) (w.spent ++ map spent_by (entries_below b w.entries)) e p ⊎ IsPast (kept b w.entries) (w.spent ++ map spent_by (entries_below b w.entries)) e
    go (inl stored) true t =
        inl (stored_kept w.entries w.spent e p (number_after w.entries w.spent) (day_of w.at) w.setup.retention_days b known.rising bound stored (grind (arith, nat_tests)))
    go (inl stored) false t = inr (past_kept w.entries w.spent e p b stored (grind (arith, nat_tests)))
    go (inr past) c t = inr (past_stays w.entries w.spent (map spent_by (entries_below b w.entries)) e b past)

-- a request leaves it stored, or purged
pub known_left : (w : Situation) (b : ℕ) (request : Request) (e : EntryParts) (p : Option EntryParts) → HasBound request w b → IsKnown w.entries w.spent e p
    → IsKnown (entries_left w b request) (spent_left w b request) e p
known_left w b request e p bound known = go (comes w b request)
  where
    go : {o : Outcome} → Comes w b request o → IsKnown (entries_after o w.entries) (spent_by_outcome o w.entries w.spent) e p
    go (stays none) = known
    go (adding asked f is one) = known_more (asking_for asked w) e f p is known
    go (purging ask count sound none) = known_kept w b e p (subst (λ r. HasBound r w b) ask bound) known

pub known_after : (j : Journal) (e : EntryParts) (p : Option EntryParts) → IsKnown j.entries j.spent e p → (ts : List RequestTurn) → AreBounds j ts → IsKnown (after j ts).entries (after j ts).spent e p
known_after j e p known ts bounds =
    kept_after (λ i. IsKnown i.entries i.spent e p) (λ i t bound k. known_left (situation_of_turn i t) t.bound t.request e p bound k) j known ts bounds

-- ---- where it begins

no_twin : (es : List EntryParts) (e : EntryParts) → list_any (has_key e.key) es ≡ false → list_any (is_twin e) es ≡ false
no_twin [] e none = refl
no_twin (x ∷ xs) e none = go (bytes_eq x.key e.key) refl none (λ n. no_twin xs e n)
  where
    go : (c : Bool) → bytes_eq x.key e.key ≡ c → (c || list_any (has_key e.key) xs) ≡ false → (list_any (has_key e.key) xs ≡ false → list_any (is_twin e) xs ≡ false)
        → list_any (is_twin e) (x ∷ xs) ≡ false
    go true t n rest = absurd (true≢false n)
    go false t n rest = rw t (rest n)

-- an entry that is accepted is known from then on
pub begins : (a : Asking) (e : EntryParts) → verdict a ≡ accepted e → IsRising a.now.entries → IsKnown (a.now.entries ++ e ∷ []) a.now.spent e (partner_in (a.now.entries ++ e ∷ []) e)
begins a e is rising =
    let new = is_new a e is in
    let number = number_is_next a e is in
    let next = next_more a.now e number in
    let key : a.key ≡ e.key = rw new.made refl in
    let free : entry_by_key a.now.entries e.key ≡ None = rw (sym key) new.free in
    let none = find_none (has_key e.key) a.now.entries free in
    record {
      rising = rises a.now.entries e rising (above_greatest a.now.entries (greatest_spent a.now.spent) e.number number);
      below_next = rw next (omega arith);
      state = inl (record {
        found = find-append (has_key e.key) a.now.entries (e ∷ []) ∙ rw (free, (bytes_eq-Decides e.key e.key).1 refl) refl;
        alone = list_any-append (is_twin e) a.now.entries (e ∷ []) ∙ rw (no_twin a.now.entries e none, (bytes_eq-Decides e.key e.key).1 refl, itself) refl;
        unspent = rw (sym key) new.unspent;
        paired = refl;
      });
    }
  where
    itself : (e.number == e.number) ≡ true
    itself = grind (arith, nat_tests)

pub at_most_greatest : (es : List EntryParts) (e : EntryParts) → Among e es → e.number ≤ greatest es
at_most_greatest [] e m = absurd m
at_most_greatest (x ∷ xs) e (inl same) = let number : e.number ≡ x.number = ap (λ z. z.number) same in omega (arith, clamps, number)
at_most_greatest (x ∷ xs) e (inr m) = let below = at_most_greatest xs e m in omega (arith, clamps, below)

-- an entry of the lists is that of its key, alone
by_its_key : (es : List EntryParts) (e : EntryParts) → HaveOwnKeys es → Among e es → entry_by_key es e.key ≡ Some e
by_its_key [] e own m = absurd m
by_its_key (x ∷ xs) e own (inl same) = rw same (rw ((bytes_eq-Decides x.key x.key).1 refl) refl)
by_its_key (x ∷ xs) e own (inr m) = go (bytes_eq x.key e.key) refl (by_its_key xs e own.1 m)
  where
    none : bytes_eq x.key e.key ≡ true → list_any (has_key e.key) xs ≡ false
    none t = subst (λ key. list_any (has_key key) xs ≡ false) ((bytes_eq-Decides x.key e.key).0 t) own.0

    go : (c : Bool) → bytes_eq x.key e.key ≡ c → entry_by_key xs e.key ≡ Some e → (if c then Some x else entry_by_key xs e.key) ≡ Some e
    go true t rest = absurd (true≢false (sym (find_any (has_key e.key) xs e rest) ∙ none t))
    go false t rest = rest

own_twin : (es : List EntryParts) (e : EntryParts) → HaveOwnKeys es → entry_by_key es e.key ≡ Some e → list_any (is_twin e) es ≡ false
own_twin [] e own found = refl
own_twin (x ∷ xs) e own found = go (bytes_eq x.key e.key) refl found (λ f. own_twin xs e own.1 f)
  where
    itself : x ≡ e → (x.number == e.number) ≡ true
    itself same = let number : x.number ≡ e.number = ap (λ z. z.number) same in grind (arith, nat_tests)

    none : bytes_eq x.key e.key ≡ true → list_any (has_key e.key) xs ≡ false
    none t = subst (λ key. list_any (has_key key) xs ≡ false) ((bytes_eq-Decides x.key e.key).0 t) own.0

    go : (c : Bool) → bytes_eq x.key e.key ≡ c → (if c then Some x else entry_by_key xs e.key) ≡ Some e → (entry_by_key xs e.key ≡ Some e → list_any (is_twin e) xs ≡ false)
        → ((c && not (x.number == e.number)) || list_any (is_twin e) xs) ≡ false
    go true t f rest = rw (itself (is_some_same f)) (no_twin xs e (none t))
    go false t f rest = rest f

-- an entry that stands at the opening is known from then on
pub stood : (es : List EntryParts) (ks : List SpentKey) (e : EntryParts) → AreLists es ks → Among e es → IsKnown es ks e (partner_in es e)
stood es ks e lists m =
    let found = by_its_key es e lists.keys m in
    let low = at_most_greatest es e m in
    record {
      rising = lists.rising;
      below_next = under_next (greatest es) (greatest_spent ks) low;
      state = inl (record {
        found = found;
        alone = own_twin es e lists.keys found;
        unspent = found_unspent es ks e.key e lists.apart found;
        paired = refl;
      });
    }
  where
    under_next : (most spent : ℕ) → e.number ≤ most → e.number < max most spent + 1
    under_next most spent low = omega (arith, clamps, low)

-- ---- every entry that a course adds

pub rising_left : (w : Situation) (b : ℕ) (request : Request) → IsRising w.entries → IsRising (entries_left w b request)
rising_left w b request rising = go (comes w b request)
  where
    go : {o : Outcome} → Comes w b request o → IsRising (entries_after o w.entries)
    go (stays none) = rising
    go (adding asked e is one) = rises w.entries e rising (above_greatest w.entries (greatest_spent w.spent) e.number (number_is_next (asking_for asked w) e is))
    go (purging ask count sound none) = left_rises (λ x. nat_le b x.number) w.entries rising

-- the entries after every course are by number
pub rising_after : (j : Journal) → IsRising j.entries → (ts : List RequestTurn) → AreBounds j ts → IsRising (after j ts).entries
rising_after j rising ts bounds = kept_after (λ i. IsRising i.entries) (λ i t bound r. rising_left (situation_of_turn i t) t.bound t.request r) j rising ts bounds

-- an entry that was added is known, with the partner that it had then: a Second or Void had one
pub record IsLasting (j : Journal) (e : EntryParts) : Type 0 where
  pub first : Option EntryParts
  pub known : IsKnown j.entries j.spent e first
  pub closes : is_closing_kind e.kind ≡ true → is_none first ≡ false

-- a plate has an open weighing when a Second or Void of it is accepted
pub has_open : (a : Asking) (e : EntryParts) → verdict a ≡ accepted e → is_closing_kind e.kind ≡ true → is_none (open_entry a.now.entries e.plate) ≡ false
has_open a e is closing =
    let new = is_new a e is in
    let kind : a.kind ≡ e.kind = rw new.made refl in
    let plate : a.plate ≡ e.plate = rw new.made refl in
    let free = none_holds of_new a new.judged in
    let late = free.1.1.1.1.1.1.1.1.1 in
    and_true (is_closing_kind e.kind) (is_none (open_entry a.now.entries e.plate)) closing (rw (kind, plate) at late.1.0)

adds_lasting : (j : Journal) (t : RequestTurn) (e : EntryParts) → IsRising j.entries → added (situation_of_turn j t) t.request ≡ Some e → IsLasting (left j t) e
adds_lasting j t e rising some =
    let one = is_added (situation_of_turn j t) t.request e some in
    let is = one.asked.outcomes (situation_of_turn j t) t.bound ∙ ap outcome_of one.is in
    let a : Asking = asking_for one.asked (situation_of_turn j t) in
    let known = begins a e one.is rising in
    record {
      first = partner_in (j.entries ++ e ∷ []) e;
      known = subst (λ o. IsKnown (entries_after o j.entries) (spent_by_outcome o j.entries j.spent) e (partner_in (j.entries ++ e ∷ []) e)) (sym is) known;
      closes = λ closing. rw (law_of_closing j.entries e known.rising closing) (has_open a e one.is closing);
    }

lasts : (j : Journal) (t : RequestTurn) (e : EntryParts) → HasBound t.request (situation_of_turn j t) t.bound → IsLasting j e → IsLasting (left j t) e
lasts j t e bound last = record { first = last.first; known = known_left (situation_of_turn j t) t.bound t.request e last.first bound last.known; closes = last.closes }

pub added_lasts : (j : Journal) (ts : List RequestTurn) (e : EntryParts) → IsRising j.entries → AreBounds j ts → Among e (additions j ts) → IsLasting (after j ts) e
added_lasts j [] e rising bounds m = absurd m
added_lasts j (t ∷ ts) e rising bounds m = go t.is_made m (λ n. added_lasts j ts e rising bounds.1 n)
  where
    by_turn : (o : Option EntryParts) → added (situation_of_turn (after j ts) t) t.request ≡ o → Among e (with_one o (additions j ts)) → (Among e (additions j ts) → IsLasting (after j ts) e)
        → IsLasting (left (after j ts) t) e
    by_turn None is n rest = lasts (after j ts) t e bounds.0 (rest n)
    by_turn (Some f) is (inl same) rest = adds_lasting (after j ts) t e (rising_after j rising ts bounds.1) (is ∙ ap Some (sym same))
    by_turn (Some f) is (inr n) rest = lasts (after j ts) t e bounds.0 (rest n)

    go : (made : Bool) → Among e (with_one (if made then added (situation_of_turn (after j ts) t) t.request else None) (additions j ts)) → (Among e (additions j ts) → IsLasting (after j ts) e)
        → IsLasting (if made then left (after j ts) t else after j ts) e
    go true n rest = by_turn (added (situation_of_turn (after j ts) t) t.request) refl n rest
    go false n rest = rest n
