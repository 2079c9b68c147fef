-- Calls of the store that only read it, one after the other.
use Rattle.std.proofs.Common.{◌≡◌, ◌∙◌, inl, inr, ap, sym, refl, Bool, true, false, ◌||◌, List, Result, Ok, Err, MatchResult}
use Rattle.wb_office.proofs.Common.{Ghosts, EntryParts, StoreFault, Closed, Disk, Memory, closed_by, IsHonest, StoreView, StoreStands, Closes, Keeps, SpentKey}
use Rattle.wb_store.specs.Keeping.{LooksUpInStore}

the_fault : {X : Type 0} → Result X StoreFault → StoreFault
the_fault (Ok x) = Disk
the_fault (Err f) = f

is_same_fault : {X : Type 0} (Y : Type 0) (f : StoreFault) → ◌≡◌ {A = Result X StoreFault} (Err f) (Err Closed) → ◌≡◌ {A = Result Y StoreFault} (Err f) (Err Closed)
unfolding the_fault
is_same_fault Y f same = ap Err (ap the_fault same)

pub ok_is_no_fault : {X : Type 0} {C : Type 0} (x : X) → ◌≡◌ {A = Result X StoreFault} (Ok x) (Err Closed) → C
ok_is_no_fault x same = absurd (cc)

or_none : (b : Bool) → b || false ≡ b
or_none true = refl
or_none false = refl

module _ {D : Type 0} (g : Ghosts D) where
  -- a call that keeps the lists, whatever it answers
  pub record Reads (old new : StoreView D) {X : Type 0} (answer : Result X StoreFault) : Type 0 where
    pub keeps : Keeps g old new answer
    pub closes : Closes g old new answer

  pub reads : {old new : StoreView D} {X : Type 0} {r : Result X StoreFault} → Keeps g old new r → Closes g old new r → Reads old new r
  reads keeps closes = record { keeps = keeps; closes = closes }

  -- a fault is the same, whatever was asked for
  pub stop : {old new : StoreView D} {X Y : Type 0} (f : StoreFault) → Reads old new {X = X} (Err f) → Reads old new {X = Y} (Err f)
  stop {X = X} {Y = Y} f l = record {
    keeps = record { stands = l.keeps.stands; leaves = l.keeps.leaves; known = l.keeps.known };
    closes = record {
      closed = ((λ e. l.closes.closed.0 (is_same_fault X f e)), λ e. is_same_fault Y f (l.closes.closed.1 e));
      cause = l.closes.cause;
      still = l.closes.still;
      closes = l.closes.closes;
      honest = l.closes.honest;
      limit = l.closes.limit;
    };
  }

  -- another thing is made of what was found
  pub made : {old new : StoreView D} {X Y : Type 0} (x : X) (y : Y) → Reads old new {X = X} (Ok x) → Reads old new {X = Y} (Ok y)
  made x y l = record {
    keeps = record { stands = l.keeps.stands; leaves = l.keeps.leaves; known = l.keeps.known };
    closes = record {
      closed = ((λ e. ok_is_no_fault y e), λ e. ok_is_no_fault x (l.closes.closed.1 e));
      cause = tt;
      still = l.closes.still;
      closes = l.closes.closes;
      honest = l.closes.honest;
      limit = l.closes.limit;
    };
  }

  -- after it memory was refused
  pub wanting : {old new : StoreView D} {X Y : Type 0} {x : X} → Reads old new {X = X} (Ok x) → Reads old new {X = Y} (Err Memory)
  wanting {X = X} {x = x} l = record {
    keeps = record { stands = l.keeps.stands; leaves = l.keeps.leaves; known = λ es ks s h e. absurd (cc e) };
    closes = record {
      closed = ((λ e. absurd (cc e)), λ e. ok_is_no_fault {X = X} x (l.closes.closed.1 e));
      cause = inr (inr (inl refl));
      still = l.closes.still;
      closes = l.closes.closes ∙ sym (or_none _);
      honest = l.closes.honest;
      limit = l.closes.limit;
    };
  }

  -- after a call that found something the store holds the lists that it held
  pub stood : {old mid : StoreView D} {X : Type 0} {x : X} → Reads old mid {X = X} (Ok x)
      → {es : List EntryParts} {ks : List SpentKey} → StoreStands g old es ks → IsHonest g mid → StoreStands g mid es ks
  stood l {es} {ks} s h = l.keeps.stands es ks s h (l.closes.closes ∙ s.opened)

  -- one call after the other
  pub also : {old mid new : StoreView D} {X Y : Type 0} {x : X} {r : Result Y StoreFault} → Reads old mid {X = X} (Ok x) → Reads mid new r → Reads old new r
  also {X = X} {x = x} {r = r} first next = record {
    keeps = record {
      stands = λ es ks s h. next.keeps.stands es ks (stood first s (next.closes.honest h)) h;
      leaves = λ es ks s h. next.keeps.leaves es ks (stood first s (next.closes.honest h)) h;
      known = λ es ks s h. next.keeps.known es ks (stood first s (next.closes.honest h)) h;
    };
    closes = record {
      closed = ((λ e. sym first.closes.closes ∙ next.closes.closed.0 e), λ e. next.closes.closed.1 (first.closes.closes ∙ e));
      cause = next.closes.cause;
      still = λ e. ok_is_no_fault {X = X} x (first.closes.closed.1 e);
      closes = next.closes.closes ∙ ap (λ was. closed_by was r) first.closes.closes;
      honest = λ h. first.closes.honest (next.closes.honest h);
      limit = next.closes.limit ∙ first.closes.limit;
    };
  }

  -- a refused look-up has told nothing
  pub nothing_told : {old new : StoreView D} {X : Type 0} {f : StoreFault} {P : List EntryParts → List SpentKey → X → Type 0} → Reads old new {X = X} (Err f) → LooksUpInStore g old new (Err f) P
  nothing_told l = record { found = λ es ks s h. _; keeps = l.keeps; closes = l.closes }

  -- what a look-up tells
  pub told : {old new : StoreView D} {X : Type 0} {x : X} {P : List EntryParts → List SpentKey → X → Type 0} → Reads old new {X = X} (Ok x)
      → ((es : List EntryParts) (ks : List SpentKey) → StoreStands g old es ks → IsHonest g new → P es ks x) → LooksUpInStore g old new (Ok x) P
  told l tells = record { found = tells; keeps = l.keeps; closes = l.closes }

  -- something is made of what was found, unless memory is refused
  pub worked_out : {old new : StoreView D} {X Y : Type 0} {x : X} {P : List EntryParts → List SpentKey → Y → Type 0} {Q : Y → Type 0} (r : Result Y StoreFault) → Reads old new {X = X} (Ok x)
      → MatchResult r Q (λ f. f ≡ Memory) → ((y : Y) → Q y → (es : List EntryParts) (ks : List SpentKey) → StoreStands g old es ks → IsHonest g new → P es ks y) → LooksUpInStore g old new r P
  worked_out {x = x} (Ok y) l q tells = told (made x y l) (tells y q)
  worked_out (Err f) l q tells = rw q (nothing_told (wanting l))
