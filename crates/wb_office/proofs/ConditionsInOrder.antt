-- Conditions one after the other.
use Rattle.std.proofs.Common.{◌≡◌, Bool, true, false, if◌then◌else◌, List, [], ◌∷◌, ◌++◌, Some, None, refl}
use Rattle.wb_office.proofs.Common.{Refusal, Asking, of_journal, of_load, of_tare, Condition, first_refusal, of_new}

-- where none of the first conditions holds, those after them decide
pub later : (xs ys : List Condition) (a : Asking) → first_refusal xs a ≡ None → first_refusal (xs ++ ys) a ≡ first_refusal ys a
later [] ys a none = refl
later (x ∷ xs) ys a none = go (x.holds a) none (λ n. later xs ys a n)
  where
    go : (b : Bool) → (if b then Some x.refusal else first_refusal xs a) ≡ None → (first_refusal xs a ≡ None → first_refusal (xs ++ ys) a ≡ first_refusal ys a)
        → (if b then Some x.refusal else first_refusal (xs ++ ys) a) ≡ first_refusal ys a
    go true n more = absurd (cc)
    go false n more = more n

-- where one of the first holds, they decide
pub earlier : (xs ys : List Condition) (a : Asking) (why : Refusal) → first_refusal xs a ≡ Some why → first_refusal (xs ++ ys) a ≡ Some why
earlier [] ys a why some = absurd (cc)
earlier (x ∷ xs) ys a why some = go (x.holds a) some (λ s. earlier xs ys a why s)
  where
    go : (b : Bool) → (if b then Some x.refusal else first_refusal xs a) ≡ Some why → (first_refusal xs a ≡ Some why → first_refusal (xs ++ ys) a ≡ Some why)
        → (if b then Some x.refusal else first_refusal (xs ++ ys) a) ≡ Some why
    go true s more = s
    go false s more = more s

-- none of the conditions holds
abbrev pub NoneHolds : List Condition → Asking → Type 0
NoneHolds [] a = Unit {0}
NoneHolds (x ∷ xs) a = (x.holds a ≡ false) × NoneHolds xs a

pub none_holds : (xs : List Condition) (a : Asking) → first_refusal xs a ≡ None → NoneHolds xs a
none_holds [] a none = _
none_holds (x ∷ xs) a none = go (x.holds a) refl none (λ n. none_holds xs a n)
  where
    go : (b : Bool) → x.holds a ≡ b → (if b then Some x.refusal else first_refusal xs a) ≡ None → (first_refusal xs a ≡ None → NoneHolds xs a)
        → (x.holds a ≡ false) × NoneHolds xs a
    go true e n more = absurd (cc)
    go false e n more = (e, more n)

-- then none of the first does
pub none_earlier : (xs ys : List Condition) (a : Asking) → first_refusal (xs ++ ys) a ≡ None → first_refusal xs a ≡ None
none_earlier [] ys a n = refl
none_earlier (x ∷ xs) ys a n = go (x.holds a) n (λ m. none_earlier xs ys a m)
  where
    go : (b : Bool) → (if b then Some x.refusal else first_refusal (xs ++ ys) a) ≡ None → (first_refusal (xs ++ ys) a ≡ None → first_refusal xs a ≡ None)
        → (if b then Some x.refusal else first_refusal xs a) ≡ None
    go true e more = absurd (cc)
    go false e more = more e

-- where no condition on a new key holds, none on the load does
pub of_new_load : (a : Asking) → first_refusal of_new a ≡ None → first_refusal of_load a ≡ None
of_new_load a none = none_earlier of_load (of_tare ++ of_journal) a (rw (none_holds of_new a none).0 at none)
