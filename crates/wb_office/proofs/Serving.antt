-- How calls of the store serve a weighing or void.
use Rattle.std.proofs.Common.{ℕ, ◌≡◌, ◌≢◌, ◌∙◌, ◌↔◌, inl, inr, subst, sym, ap, Bool, true, false, ◌||◌, not, List, [], ◌∷◌, ◌++◌, IfErr, IfOk, IsOk, OnErr, Option, Some, None, is_some, unwrap_or, Result, Ok, Err, refl, true≢false}
use Rattle.wb_office.proofs.Common.{Ghosts, EntryParts, is_void_kind, open_entry, StoreFault, Closed, Foreign, Memory, is_disk, IsHonest, StoreView, StoreStands, LeavesEither, LeavesOnly, IsNext, SpentKey, Refusal, Request, Content, answer_by_verdict, asking, entries_after, is_marked, nothing, outcome_of, spent_by_outcome, entry_content, Situation, IsOnLists, holds_of, AsksFor, IsAccepted, IsOnScale, IsNow, Marks, Serves, fault_of_refusal, is_of_store, is_store_refusal, content_of, content_or_refusal, Wanted, HasBound, IsWanted, wanted, Verdict, accepted, verdict, IsWeighingWanted, wanted_by}
use Rattle.std.specs.Result.{IsErrAnd}
use Rattle.wb_scale.specs.State.{State}
use Rattle.wb_messages.specs.declared.answer.Answer.{Answer}
use Rattle.wb_office.specs.declared.judging.WeighingRequest.{WeighingRequest}
use Rattle.wb_messages.specs.declared.refusal.Refusal.TheVariants.{Store}
use Rattle.wb_store.specs.Versions.{IsOfCall}
use Rattle.wb_office.specs.Serves.{is_closed_after}
use Rattle.wb_office.proofs.LookUps.{Reads, ok_is_no_fault, stood}

-- ---- what is asked for in a situation

pub asks_now : (asked : WeighingRequest) (scale : State) (w : Situation) → IsNow scale asked.at w → AsksFor asked (asking w asked.key asked.kind asked.plate)
asks_now asked scale w now = record { of_key = refl; of_kind = refl; of_plate = refl; of_moment = now.moment }

pub on_scale_now : (asked : WeighingRequest) (scale : State) (w : Situation) → IsNow scale asked.at w → IsOnScale scale (asking w asked.key asked.kind asked.plate)
on_scale_now asked scale w now = record { setup = now.setup; calls = now.calls; stands = now.stands; history = now.history }

pub on_lists_now : (asked : WeighingRequest) (w : Situation) → IsOnLists w.entries w.spent (asking w asked.key asked.kind asked.plate)
on_lists_now asked w = record { entries = refl; spent = refl }

-- ---- refusals

-- a fault of the store that is handed on
pub handed_on : {X : Type 0} (r : Result X Refusal) (f : StoreFault) → IsErrAnd r (λ why. why ≡ Store f) → r ≡ Err (Store f)
handed_on (Ok x) f h = absurd h
handed_on (Err why) f h = ap Err h

no_disk : (o : Option StoreFault) → is_some o ≡ false → holds_of is_disk o ≡ false
no_disk None plain = refl
no_disk (Some f) plain = absurd (cc)

or_false : (b : Bool) → b || false ≡ b
or_false true = refl
or_false false = refl

pub plain_closes : (was : Bool) (r : Result Answer Refusal) → is_store_refusal r ≡ false → is_closed_after was r ≡ was
plain_closes was (Ok answer) plain = refl
plain_closes was (Err why) plain = ap (λ b. was || b) (no_disk (fault_of_refusal why) plain) ∙ or_false was

pub plain_no_fault : {C : Type 0} (f : StoreFault) (r : Result Answer Refusal) → is_store_refusal r ≡ false → r ≡ Err (Store f) → C
plain_no_fault f r plain same = absurd (true≢false (sym (ap is_store_refusal same) ∙ plain))

the_fault : Result Answer Refusal → StoreFault
the_fault (Ok answer) = Closed
the_fault (Err why) = unwrap_or (fault_of_refusal why) Closed

pub is_same_fault : (f h : StoreFault) → ◌≡◌ {A = Result Answer Refusal} (Err (Store f)) (Err (Store h)) → f ≡ h
unfolding the_fault
is_same_fault f h same = ap the_fault same

ofault : {X : Type 0} → Result X StoreFault → Result Answer Refusal
ofault (Ok x) = Err (Store Closed)
ofault (Err f) = Err (Store f)

pub is_same_refusal : {X : Type 0} (f : StoreFault) → ◌≡◌ {A = Result Answer Refusal} (Err (Store f)) (Err (Store Closed)) → ◌≡◌ {A = Result X StoreFault} (Err f) (Err Closed)
is_same_refusal {X = X} f same = ap (λ h. Err h) (is_same_fault f Closed same)

pub is_that_refusal : {X : Type 0} (f : StoreFault) → ◌≡◌ {A = Result X StoreFault} (Err f) (Err Closed) → ◌≡◌ {A = Result Answer Refusal} (Err (Store f)) (Err (Store Closed))
unfolding ofault
is_that_refusal {X = X} f same = ap (λ r. ofault {X = X} r) same

pub not_false : (b : Bool) → not b ≡ true → b ≡ false
not_false true e = sym e
not_false false e = refl

pub ok_is_plain : (r : Result Answer Refusal) → IsOk r → is_store_refusal r ≡ false
ok_is_plain (Ok answer) ok = refl
ok_is_plain (Err why) ok = absurd (cc ok)

pub ok_tells : (r : Result Answer Refusal) (t : Content) → IsOk r → IfOk r (λ answer. content_of answer ≡ t) → content_or_refusal r ≡ Ok t
ok_tells (Ok answer) t ok is = ap Ok is
ok_tells (Err why) t ok is = absurd (cc ok)

-- ---- serving

-- an answer that leaves the lists and the scale as they are
pub record IsAnswered (IsWanted : Situation → Wanted → Type 0) (w : Situation) (r : Result Answer Refusal) : Type 0 where
  pub want : Wanted
  pub is : IsWanted w want
  pub entries : want.entries ≡ w.entries
  pub spent : want.spent ≡ w.spent
  pub marks : want.marks ≡ false
  pub told_is : content_or_refusal r ≡ want.answer

-- that of a verdict that adds nothing
pub by_verdict : (asked : WeighingRequest) (w : Situation) (r : Result Answer Refusal) (v : Verdict) → verdict (asking w asked.key asked.kind asked.plate) ≡ v → outcome_of v ≡ nothing
    → content_or_refusal r ≡ answer_by_verdict w.entries v → IsAnswered (IsWeighingWanted asked) w r
by_verdict asked w r v is none tells = record {
  want = wanted_by w v;
  is = ap (wanted_by w) (sym is);
  entries = ap (λ o. entries_after o w.entries) none;
  spent = ap (λ o. spent_by_outcome o w.entries w.spent) none;
  marks = ap is_marked none;
  told_is = tells;
}

module _ {D : Type 0} (g : Ghosts D) (at : ℕ) (IsWanted : Situation → Wanted → Type 0) where
  -- the store was read alone
  pub read_serves : {old new : StoreView D} {X : Type 0} {x : X} (before : State) (r : Result Answer Refusal) → Reads g old new {X = X} (Ok x) → is_store_refusal r ≡ false
      → ((w : Situation) → IsNow before at w → StoreStands g old w.entries w.spent → IsHonest g new → IsAnswered IsWanted w r) → Serves g old new before before at r IsWanted
  read_serves {X = X} {x = x} before r reads plain answered = record {
    judged = λ w n s h p. let a = answered w n s h in (
      a.want,
      a.is,
      record {
        answered = a.told_is;
        stands = rw (a.entries, a.spent) (stood g reads s h);
        only = rw (a.entries, a.spent) (reads.keeps.leaves w.entries w.spent s h);
        marked = rw a.marks refl;
      },
    );
    unmarked = λ p. refl;
    kept = λ es ks s h p o. absurd (true≢false (sym p ∙ plain));
    leaves = λ w n s h want is db may. inl (reads.keeps.leaves w.entries w.spent s h db may);
    known = λ es ks s h e. plain_no_fault Foreign r plain e;
    cause = λ f e. plain_no_fault f r plain e;
    closed = ((λ e. plain_no_fault Closed r plain e), λ e. ok_is_no_fault {X = X} x (reads.closes.closed.1 e));
    still = λ e. ok_is_no_fault {X = X} x (reads.closes.closed.1 e);
    closes = reads.closes.closes ∙ sym (plain_closes _ r plain);
    honest = reads.closes.honest;
    scale = (false, refl);
  }

  -- the store refused to be read
  pub stop_serves : {old new : StoreView D} {X : Type 0} (before : State) (f : StoreFault) → Reads g old new {X = X} (Err f) → Serves g old new before before at (Err (Store f)) IsWanted
  stop_serves before f reads = record {
    judged = λ w n s h p. absurd (true≢false p);
    unmarked = λ p. refl;
    kept = λ es ks s h p o. (reads.keeps.stands es ks s h o, reads.keeps.leaves es ks s h);
    leaves = λ w n s h want is db may. inl (reads.keeps.leaves w.entries w.spent s h db may);
    known = λ es ks s h e. reads.keeps.known es ks s h (is_same_fault f Foreign e);
    cause = λ h e. subst IsOfCall (is_same_fault f h e) reads.closes.cause;
    closed = ((λ e. reads.closes.closed.0 (is_same_refusal f e)), λ e. is_that_refusal f (reads.closes.closed.1 e));
    still = reads.closes.still;
    closes = reads.closes.closes;
    honest = reads.closes.honest;
    scale = (false, refl);
  }

module _ {D : Type 0} (g : Ghosts D) (at : ℕ) (IsWanted : Situation → Wanted → Type 0) where
  -- the store was read, and then memory was refused
  memory_serves : {old new : StoreView D} {X : Type 0} {x : X} (before : State) → Reads g old new {X = X} (Ok x) → Serves g old new before before at (Err (Store Memory)) IsWanted
  memory_serves {X = X} {x = x} before reads = record {
    judged = λ w n s h p. absurd (true≢false p);
    unmarked = λ p. refl;
    kept = λ es ks s h p o. (stood g reads s h, reads.keeps.leaves es ks s h);
    leaves = λ w n s h want is db may. inl (reads.keeps.leaves w.entries w.spent s h db may);
    known = λ es ks s h e. absurd (cc (is_same_fault Memory Foreign e));
    cause = λ h e. subst IsOfCall (is_same_fault Memory h e) (inr (inr (inl refl)));
    closed = ((λ e. absurd (cc (is_same_fault Memory Closed e))), λ e. ok_is_no_fault {X = X} x (reads.closes.closed.1 e));
    still = λ e. ok_is_no_fault {X = X} x (reads.closes.closed.1 e);
    closes = reads.closes.closes ∙ sym (or_false _);
    honest = reads.closes.honest;
    scale = (false, refl);
  }

  -- the store was read, and what was read is told unless memory is refused
  pub told_serves : {old new : StoreView D} {X : Type 0} {x : X} (before : State) (r : Result Answer Refusal) → Reads g old new {X = X} (Ok x)
      → (is_store_refusal r ≡ true → r ≡ Err (Store Memory))
      → (is_store_refusal r ≡ false → (w : Situation) → IsNow before at w → StoreStands g old w.entries w.spent → IsHonest g new → IsAnswered IsWanted w r) → Serves g old new before before at r IsWanted
  told_serves {old = old} {new = new} before r reads memory answered = go (is_store_refusal r) refl
    where
      go : (b : Bool) → is_store_refusal r ≡ b → Serves g old new before before at r IsWanted
      go true is = rw (memory is) (memory_serves before reads)
      go false is = read_serves g at IsWanted before r reads is (answered is)

-- what a change makes of the lists where its condition holds, and what it tells
pub record Change : Type 1 where
  pub may : List EntryParts → List SpentKey → Type 0
  pub entries : List EntryParts → List SpentKey → List EntryParts
  pub spent : List EntryParts → List SpentKey → List SpentKey
  pub tells : List EntryParts → List SpentKey → Content

module _ {D : Type 0} (g : Ghosts D) (old new : StoreView D) (change : Change) (r : Result Answer Refusal) where
  -- the clauses of a change
  pub record Changed : Type 0 where
    pub done : (es : List EntryParts) (ks : List SpentKey) → StoreStands g old es ks → change.may es ks → IsHonest g new
        → IfOk r (λ answer. (content_of answer ≡ change.tells es ks) × StoreStands g new (change.entries es ks) (change.spent es ks) × LeavesOnly g new (change.entries es ks) (change.spent es ks))
    pub kept : (es : List EntryParts) (ks : List SpentKey) → StoreStands g old es ks → IsHonest g new → new.is_closed ≡ false → OnErr r (StoreStands g new es ks × LeavesOnly g new es ks)
    pub leaves : (es : List EntryParts) (ks : List SpentKey) → StoreStands g old es ks → change.may es ks → IsHonest g new
        → LeavesEither g new es ks (change.entries es ks) (change.spent es ks)
    pub known : r ≢ Err (Store Foreign)
    pub cause : (f : StoreFault) → r ≡ Err (Store f) → IsOfCall f
    pub closed : (r ≡ Err (Store Closed)) ↔ (old.is_closed ≡ true)
    pub refused : IfErr r (λ why. is_of_store why ≡ true)
    pub still : old.is_closed ≡ true → new ≡ old
    pub closes : new.is_closed ≡ is_closed_after old.is_closed r
    pub honest : IsHonest g new → IsHonest g old

-- the change is what is wanted in a situation
pub record IsChange (change : Change) (marks : Bool) (IsWanted : Situation → Wanted → Type 0) (w : Situation) : Type 0 where
  pub may : change.may w.entries w.spent
  pub want : Wanted
  pub is : IsWanted w want
  pub tells : Ok (change.tells w.entries w.spent) ≡ want.answer
  pub marked : want.marks ≡ marks
  pub all : (other : Wanted) → IsWanted w other → (other.entries ≡ change.entries w.entries w.spent) × (other.spent ≡ change.spent w.entries w.spent)

module _ {D : Type 0} (g : Ghosts D) (at : ℕ) (IsWanted : Situation → Wanted → Type 0) (change : Change) where
  -- it was read, and the change was made
  pub change_serves : {old mid new : StoreView D} {X : Type 0} {x : X} {answer : Answer} (before after : State) (marks : Bool) → Reads g old mid {X = X} (Ok x)
      → ((w : Situation) → IsNow before at w → StoreStands g old w.entries w.spent → IsHonest g mid → IsChange change marks IsWanted w)
      → Changed g mid new change (Ok answer) → Marks before after marks → Serves g old new before after at (Ok answer) IsWanted
  change_serves {X = X} {x = x} before after marks reads changes made marked = record {
    judged = λ w n s h p.
        let is = changes w n s (made.honest h) in
        let all = made.done w.entries w.spent (stood g reads s (made.honest h)) is.may h in
        let lists = is.all is.want is.is in (
          is.want,
          is.is,
          record {
            answered = ap Ok all.0 ∙ is.tells;
            stands = rw (lists.0, lists.1) all.1;
            only = rw (lists.0, lists.1) all.2;
            marked = rw is.marked marked;
          },
        );
    unmarked = λ p. absurd (true≢false (sym p));
    kept = λ es ks s h p o. absurd (true≢false (sym p));
    leaves = λ w n s h want is.
        let this = changes w n s (made.honest h) in
        let lists = this.all want is in
        rw (lists.0, lists.1) (made.leaves w.entries w.spent (stood g reads s (made.honest h)) this.may h);
    known = λ es ks s h e. made.known e;
    cause = λ f e. plain_no_fault f (Ok _) refl e;
    closed = ((λ e. plain_no_fault Closed (Ok _) refl e), λ e. ok_is_no_fault {X = X} x (reads.closes.closed.1 e));
    still = λ e. ok_is_no_fault {X = X} x (reads.closes.closed.1 e);
    closes = made.closes ∙ reads.closes.closes;
    honest = λ h. reads.closes.honest (made.honest h);
    scale = (marks, marked);
  }

  -- it was read, and the change was refused
  pub unchanged_serves : {old mid new : StoreView D} {X : Type 0} {x : X} {why : Refusal} (before : State) (marks : Bool) → Reads g old mid {X = X} (Ok x)
      → ((w : Situation) → IsNow before at w → StoreStands g old w.entries w.spent → IsHonest g mid → IsChange change marks IsWanted w)
      → Changed g mid new change (Err why) → Serves g old new before before at (Err why) IsWanted
  unchanged_serves {X = X} {x = x} {why = why} before marks reads changes made = record {
    judged = λ w n s h p. absurd (true≢false (sym made.refused ∙ p));
    unmarked = λ p. refl;
    kept = λ es ks s h p o. made.kept es ks (stood g reads s (made.honest h)) h o;
    leaves = λ w n s h want is.
        let this = changes w n s (made.honest h) in
        let lists = this.all want is in
        rw (lists.0, lists.1) (made.leaves w.entries w.spent (stood g reads s (made.honest h)) this.may h);
    known = λ es ks s h e. made.known e;
    cause = made.cause;
    closed = ((λ e. sym reads.closes.closes ∙ made.closed.0 e), λ e. made.closed.1 (reads.closes.closes ∙ e));
    still = λ e. ok_is_no_fault {X = X} x (reads.closes.closed.1 e);
    closes = made.closes ∙ ap (λ was. is_closed_after was (Err why)) reads.closes.closes;
    honest = λ h. reads.closes.honest (made.honest h);
    scale = (false, refl);
  }

-- an entry is added, with the First that it closes
abbrev pub adding : EntryParts → Option EntryParts → Change
adding e first = record {
  may = λ es ks. IsNext es ks e × (first ≡ open_entry es e.plate);
  entries = λ es ks. es ++ e ∷ [];
  spent = λ es ks. ks;
  tells = λ es ks. entry_content (es ++ e ∷ []) e e.kind;
}

-- it is what is wanted where it is accepted
pub is_adding : (asked : WeighingRequest) (e : EntryParts) (first : Option EntryParts) (w : Situation) → IsAccepted e first (asking w asked.key asked.kind asked.plate)
    → IsChange (adding e first) (not (is_void_kind e.kind)) (IsWeighingWanted asked) w
is_adding asked e first w is = record {
  may = (is.next, is.paired);
  want = wanted_by w (accepted e);
  is = ap (wanted_by w) (sym is.judged);
  tells = refl;
  marked = refl;
  all = λ other wanted. (ap (λ o. o.entries) (wanted ∙ ap (wanted_by w) is.judged), ap (λ o. o.spent) (wanted ∙ ap (wanted_by w) is.judged));
}

-- a weighing or void that is wanted is what the request wants
pub serves_weighing : {D : Type 0} (g : Ghosts D) {old new : StoreView D} {before after : State} {at : ℕ} {r : Result Answer Refusal} (asked : WeighingRequest) (request : Request)
    → ((w : Situation) (b : ℕ) → wanted request w b ≡ wanted_by w (verdict (asking w asked.key asked.kind asked.plate))) → ((w : Situation) → HasBound request w 0)
    → Serves g old new before after at r (IsWeighingWanted asked) → Serves g old new before after at r (IsWanted request)
serves_weighing g asked request same bound served = record {
  judged = λ w n s h p. let this = served.judged w n s h p in (this.0, record { bound = 0; is_bound = bound w; is = this.1 ∙ sym (same w 0) }, this.2);
  unmarked = served.unmarked;
  kept = served.kept;
  leaves = λ w n s h want is. served.leaves w n s h want (is.is ∙ same w is.bound);
  known = served.known;
  cause = served.cause;
  closed = served.closed;
  still = served.still;
  closes = served.closes;
  honest = served.honest;
  scale = served.scale;
}
