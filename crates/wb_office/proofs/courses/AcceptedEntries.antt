-- What an accepted weighing or void was judged on, and what a request makes of the lists.
use Rattle.std.proofs.Common.{◌≡◌, ◌∙◌, sym, ap, subst, ℕ, ◌+◌, ◌<◌, Bool, true, false, ◌&&◌, ◌||◌, if◌then◌else◌, List, [], ◌∷◌, ◌++◌, take, Option, Some, None, refl, arith, true≢false}
use Rattle.wb_office.proofs.Common.{nat_tests, list_any, EntryParts, Finding, Sound, FoundDamaged, Kind, First, Second, Single, Void, finding_in, is_closing_kind, entry_by_key, number_after, Refusal, Request, Weigh, VoidOpen, Purge, Outcome, adds, office_answer, answer_by_verdict, asking, nothing, outcome, outcome_of, purges, unless_damaged, Asking, Situation, key_gone, is_damaged_entry, is_other, journal_full, places, places_needed, added, added_by, answered_with, entry_of, Condition, Verdict, accepted, first_refusal, entry_added, of_new, on, on_new, refused, repeated, verdict}
use Rattle.std.specs.Prelude.{nat_lt}
use Rattle.wb_messages.specs.declared.refusal.Refusal.TheVariants as refusal
use Rattle.wb_office.proofs.FoundEntries.{is_some_same, none_some}
use Rattle.wb_office.proofs.Verdicts.{by_damage, by_newness, by_other, by_repetition, by_spent}

-- ---- the verdict, seen from its end

-- an entry is accepted under a new key, on which no condition holds
pub record IsNew (a : Asking) (e : EntryParts) : Type 0 where
  pub free : entry_by_key a.now.entries a.key ≡ None
  pub unspent : key_gone a ≡ false
  pub judged : first_refusal of_new a ≡ None
  pub made : e ≡ entry_added a

pub and_true : (a b : Bool) → a ≡ true → (a && b) ≡ false → b ≡ false
and_true true b h k = k
and_true false b h k = absurd (true≢false (sym h))

abbrev the_entry : EntryParts → Verdict → EntryParts
the_entry other (refused why) = other
the_entry other (repeated e) = e
the_entry other (accepted e) = e

abbrev the_refusal : Verdict → Refusal
the_refusal (refused why) = why
the_refusal _ = refusal.Gone

abbrev is_full : Refusal → Bool
is_full refusal.JournalFull = true
is_full _ = false

-- how a request is judged: refused by its key, repeated, or judged anew
data Course (a : Asking) : Type 0 where
  by_its_key : (why : Refusal) → is_full why ≡ false → verdict a ≡ refused why → Course a
  as_repeated : (e : EntryParts) → entry_by_key a.now.entries a.key ≡ Some e → is_other a e ≡ false → is_damaged_entry a.now.entries e ≡ false → verdict a ≡ repeated e → Course a
  anew : entry_by_key a.now.entries a.key ≡ None → key_gone a ≡ false → verdict a ≡ on_new a (first_refusal of_new a) → Course a

-- a key that is stored and was spent is refused all the same
by_both : (a : Asking) (e : EntryParts) → entry_by_key a.now.entries a.key ≡ Some e → is_other a e ≡ false → key_gone a ≡ true → verdict a ≡ refused refusal.Gone
unfolding verdict
by_both a e found other spent = rw (found, other, spent) refl

how_judged : (a : Asking) → Course a
how_judged a = go (entry_by_key a.now.entries a.key) refl (key_gone a) refl
  where
    stored : (e : EntryParts) → entry_by_key a.now.entries a.key ≡ Some e → (b c d : Bool) → is_other a e ≡ b → key_gone a ≡ c → is_damaged_entry a.now.entries e ≡ d → Course a
    stored e found true c d o g m = by_its_key refusal.KeyReused refl (by_other a e found o)
    stored e found false true d o g m = by_its_key refusal.Gone refl (by_both a e found o g)
    stored e found false false true o g m = by_its_key refusal.Damaged refl (by_damage a e found o g m)
    stored e found false false false o g m = as_repeated e found o m (by_repetition a e found o g m)

    go : (o : Option EntryParts) → entry_by_key a.now.entries a.key ≡ o → (c : Bool) → key_gone a ≡ c → Course a
    go (Some e) found c g = stored e found (is_other a e) c (is_damaged_entry a.now.entries e) refl g refl
    go None none true g = by_its_key refusal.Gone refl (by_spent a none g)
    go None none false g = anew none g (by_newness a none g)

no_refusal : {C : Type 0} (e : EntryParts) (why : Refusal) → accepted e ≡ refused why → C
no_refusal e why same = absurd (cc)

no_repetition : {C : Type 0} (e f : EntryParts) → accepted e ≡ repeated f → C
no_repetition e f same = absurd (cc)

refused_repetition : {C : Type 0} (e : EntryParts) (why : Refusal) → repeated e ≡ refused why → C
refused_repetition e why same = absurd (cc)

pub is_new : (a : Asking) (e : EntryParts) → verdict a ≡ accepted e → IsNew a e
is_new a e is = go (how_judged a)
  where
    by_conditions : entry_by_key a.now.entries a.key ≡ None → key_gone a ≡ false → (r : Option Refusal) → first_refusal of_new a ≡ r → accepted e ≡ on_new a r → IsNew a e
    by_conditions none free (Some why) holds made = no_refusal e why made
    by_conditions none free None holds made = record { free = none; unspent = free; judged = holds; made = ap (the_entry e) made }

    go : Course a → IsNew a e
    go (by_its_key why other v) = no_refusal e why (sym is ∙ v)
    go (as_repeated f found same whole v) = no_repetition e f (sym is ∙ v)
    go (anew none free v) = by_conditions none free (first_refusal of_new a) refl (sym is ∙ v)

-- an entry is repeated under its key, of its kind and plate
pub record IsRepeated (a : Asking) (e : EntryParts) : Type 0 where
  pub found : entry_by_key a.now.entries a.key ≡ Some e
  pub same : is_other a e ≡ false
  pub whole : is_damaged_entry a.now.entries e ≡ false

pub is_repeated : (a : Asking) (e : EntryParts) → verdict a ≡ repeated e → IsRepeated a e
is_repeated a e is = go (how_judged a)
  where
    by_conditions : {C : Type 0} (r : Option Refusal) → repeated e ≡ on_new a r → C
    by_conditions (Some why) made = refused_repetition e why made
    by_conditions None made = no_repetition (entry_added a) e (sym made)

    go : Course a → IsRepeated a e
    go (by_its_key why other v) = refused_repetition e why (sym is ∙ v)
    go (as_repeated f found same whole v) = subst (IsRepeated a) (ap (the_entry e) (sym v ∙ is)) (record { found = found; same = same; whole = whole })
    go (anew none free v) = by_conditions (first_refusal of_new a) (sym is ∙ v)

-- ---- what a request makes of the lists

-- a weighing or void is asked for, under this key, kind and plate
pub record IsAsked (request : Request) : Type 0 where
  pub key : List ℕ
  pub kind : Kind
  pub plate : List ℕ
  pub answers : (w : Situation) (b : ℕ) → office_answer w b request ≡ answer_by_verdict w.entries (verdict (asking w key kind plate))
  pub outcomes : (w : Situation) (b : ℕ) → outcome w b request ≡ outcome_of (verdict (asking w key kind plate))

abbrev pub asking_for : {request : Request} → IsAsked request → Situation → Asking
asking_for asked w = asking w asked.key asked.kind asked.plate

abbrev by_weighing : (key : List ℕ) (kind : Kind) (plate : List ℕ) → IsAsked (Weigh key kind plate)
by_weighing key kind plate = record { key = key; kind = kind; plate = plate; answers = λ w b. refl; outcomes = λ w b. refl }

abbrev by_void : (key plate : List ℕ) → IsAsked (VoidOpen key plate)
by_void key plate = record { key = key; kind = Void; plate = plate; answers = λ w b. refl; outcomes = λ w b. refl }

-- how an outcome comes about: nothing is added, or the entry of an accepted weighing or void, or a sound journal is purged
pub data Comes (w : Situation) (b : ℕ) (request : Request) : Outcome → Type 0 where
  stays : added w request ≡ None → Comes w b request nothing
  adding : (asked : IsAsked request) (e : EntryParts) → verdict (asking_for asked w) ≡ accepted e → added w request ≡ Some e → Comes w b request (adds e)
  purging : request ≡ Purge → (count : ℕ) → finding_in w.entries ≡ Sound count → added w request ≡ None → Comes w b request (purges b)

by_verdict : (w : Situation) (b : ℕ) (request : Request) (asked : IsAsked request) → Comes w b request (outcome_of (verdict (asking_for asked w)))
by_verdict w b request asked = go (verdict (asking_for asked w)) refl
  where
    now : (v : Verdict) → verdict (asking_for asked w) ≡ v → added w request ≡ added_by (outcome_of v)
    now v is = ap added_by (asked.outcomes w 0 ∙ ap outcome_of is)

    go : (v : Verdict) → verdict (asking_for asked w) ≡ v → Comes w b request (outcome_of v)
    go (refused why) is = stays (now (refused why) is)
    go (repeated e) is = stays (now (repeated e) is)
    go (accepted e) is = adding asked e is (now (accepted e) is)

pub comes : (w : Situation) (b : ℕ) (request : Request) → Comes w b request (outcome w b request)
comes w b (Weigh key kind plate) = by_verdict w b (Weigh key kind plate) (by_weighing key kind plate)
comes w b (VoidOpen key plate) = by_verdict w b (VoidOpen key plate) (by_void key plate)
comes w b Purge = go (finding_in w.entries) refl
  where
    go : (f : Finding) → finding_in w.entries ≡ f → Comes w b Purge (unless_damaged f b)
    go (Sound count) is = purging refl count is (ap (λ f. added_by (unless_damaged f 0)) is)
    go (FoundDamaged number) is = stays (ap (λ f. added_by (unless_damaged f 0)) is)
comes w b _ = stays refl

-- what is added is read off the outcome at every bound
pub added_is : {w : Situation} {b : ℕ} {request : Request} {o : Outcome} → Comes w b request o → added w request ≡ added_by o
added_is (stays none) = none
added_is (adding asked e is one) = one
added_is (purging ask count sound none) = none

-- a request that adds an entry is a weighing or void that is accepted
pub record IsAdded (w : Situation) (request : Request) (e : EntryParts) : Type 0 where
  pub asked : IsAsked request
  pub is : verdict (asking_for asked w) ≡ accepted e

pub is_added : (w : Situation) (request : Request) (e : EntryParts) → added w request ≡ Some e → IsAdded w request e
is_added w request e some = go (comes w 0 request)
  where
    go : {o : Outcome} → Comes w 0 request o → IsAdded w request e
    go (stays none) = none_some (sym none ∙ some)
    go (adding asked f is one) = record { asked = asked; is = is ∙ ap accepted (is_some_same (sym one ∙ some)) }
    go (purging ask count sound none) = none_some (sym none ∙ some)

-- a request that is answered with an entry is a weighing or void
pub is_told : (w : Situation) (request : Request) (e : EntryParts) → answered_with w request ≡ Some e → (asked : IsAsked request) × (entry_of (verdict (asking_for asked w)) ≡ Some e)
is_told w (Weigh key kind plate) e some = (by_weighing key kind plate, some)
is_told w (VoidOpen key plate) e some = (by_void key plate, some)
is_told w _ e some = none_some some

-- ---- the last condition

-- a journal is full for a new key alone
full_is_new : (a : Asking) → verdict a ≡ refused refusal.JournalFull → first_refusal of_new a ≡ Some refusal.JournalFull
full_is_new a is = go (how_judged a)
  where
    by_conditions : (r : Option Refusal) → on_new a r ≡ refused refusal.JournalFull → r ≡ Some refusal.JournalFull
    by_conditions (Some why) same = ap Some (ap the_refusal same)
    by_conditions None same = no_refusal (entry_added a) refusal.JournalFull same

    go : Course a → first_refusal of_new a ≡ Some refusal.JournalFull
    go (by_its_key why other v) = absurd (true≢false (sym (ap is_full (ap the_refusal (sym v ∙ is))) ∙ other))
    go (as_repeated f found same whole v) = refused_repetition f refusal.JournalFull (sym v ∙ is)
    go (anew none free v) = by_conditions (first_refusal of_new a) (sym v ∙ is)

-- the last condition holds, if it alone has the refusal
last_holds : (xs : List Condition) (last : Condition) (a : Asking) → list_any (λ x. is_full x.refusal) xs ≡ false → first_refusal (xs ++ last ∷ []) a ≡ Some refusal.JournalFull → last.holds a ≡ true
last_holds [] last a others some = go (last.holds a) some
  where
    go : (b : Bool) → (if b then Some last.refusal else None) ≡ Some refusal.JournalFull → b ≡ true
    go true s = refl
    go false s = absurd (cc)
last_holds (x ∷ xs) last a others some = go (x.holds a) (is_full x.refusal) refl others some (λ n s. last_holds xs last a n s)
  where
    go : (b full : Bool) → is_full x.refusal ≡ full → (full || list_any (λ y. is_full y.refusal) xs) ≡ false → (if b then Some x.refusal else first_refusal (xs ++ last ∷ []) a) ≡ Some refusal.JournalFull
        → (list_any (λ y. is_full y.refusal) xs ≡ false → first_refusal (xs ++ last ∷ []) a ≡ Some refusal.JournalFull → last.holds a ≡ true) → last.holds a ≡ true
    go b true f n s more = absurd (true≢false n)
    go true false f n s more = absurd (true≢false (sym (ap is_full (is_some_same s)) ∙ f))
    go false false f n s more = more n s

last_given : (k : Kind) (capacity taken next : ℕ) → is_closing_kind k ≡ true → (nat_lt 0 (places_needed k) && nat_lt capacity (taken + places_needed k)) || nat_lt 4294967295 next ≡ true → 4294967295 < next
last_given First capacity taken next closing full = absurd (cc)
last_given Second capacity taken next closing full = grind (arith, nat_tests)
last_given Single capacity taken next closing full = absurd (cc)
last_given Void capacity taken next closing full = grind (arith, nat_tests)

-- a closing entry is refused for a full journal once the last number was given
pub full_for_closing : (a : Asking) → is_closing_kind a.kind ≡ true → verdict a ≡ refused refusal.JournalFull → 4294967295 < number_after a.now.entries a.now.spent
full_for_closing a closing is =
    last_given a.kind a.now.setup.capacity (places a.now.entries) (number_after a.now.entries a.now.spent) closing
    (last_holds (take 12 of_new) (on journal_full refusal.JournalFull) a refl (full_is_new a is))
