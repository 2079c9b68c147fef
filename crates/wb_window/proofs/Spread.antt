-- The least and the greatest load of readings, and when the readings agree.
use Rattle.std.proofs.Common.{◌≡◌, ℕ, ◌+◌, ◌<◌, Bool, true, false, ◌&&◌, cond, List, [], ◌∷◌, ◌++◌, length, get_or, take, Some, ◌⊎◌, inl, inr, refl, sym, ◌∙◌, ap, subst, ℤ, pos, negsuc, ◌+ℤ◌, ◌-ℤ◌, ◌≤ℤ◌, ◌<ℤ◌, arith, FitsSigned, w32}
use Rattle.std.proofs.lemmas.Int.{ints, clamps, by_lt_z}
use Rattle.std.proofs.lemmas.Option.{slice_get_within, get_or_from_slice_get}
use Rattle.std.proofs.lemmas.List.{take_more}
use Rattle.std.proofs.lemmas.List.Folds.{list_all_at}
use Rattle.std.specs.Int.{int_min, int_max}
use Rattle.std.specs.List.{list_all, slice_get}
use Rattle.std.specs.Prelude.{int_lt, int_le}
use Rattle.wb_window.specs.declared.reading.Reading.{Reading}
use Rattle.wb_window.specs.declared.reading.Reading.TheVariants.{Load, Lost}
use Rattle.wb_window.specs.Stability.{near, are_near}

-- each is a load from lo to hi
abbrev pub Within : ℤ → ℤ → List Reading → Type 0
Within lo hi [] = Unit {0}
Within lo hi (Load v ∷ xs) = (lo ≤ℤ v) × (v ≤ℤ hi) × Within lo hi xs
Within lo hi (Lost ∷ xs) = ⊥

-- the load v is among them
abbrev pub Reached : ℤ → List Reading → Type 0
Reached v [] = ⊥
Reached v (x ∷ xs) = (x ≡ Load v) ⊎ Reached v xs

-- lo and hi are the least and the greatest load, or there is none yet
pub record Spread (lo hi : ℤ) (xs : List Reading) : Type 0 where
  pub within : Within lo hi xs
  pub ends : ((xs ≡ []) × (lo ≡ pos 2147483647) × (hi ≡ negsuc 2147483647)) ⊎ (Reached lo xs × Reached hi xs)

Within-wider : (lo hi lo' hi' : ℤ) (xs : List Reading) → lo' ≤ℤ lo → hi ≤ℤ hi' → Within lo hi xs → Within lo' hi' xs
Within-wider lo hi lo' hi' [] l h w = tt
Within-wider lo hi lo' hi' (Load v ∷ xs) l h w = (omega (arith, ints, w.0), omega (arith, ints, w.1), Within-wider lo hi lo' hi' xs l h w.2)
Within-wider lo hi lo' hi' (Lost ∷ xs) l h w = w

Within-push : (lo hi v : ℤ) (xs : List Reading) → Within lo hi xs → lo ≤ℤ v → v ≤ℤ hi → Within lo hi (xs ++ Load v ∷ [])
Within-push lo hi v [] w l h = (l, h, tt)
Within-push lo hi v (Load u ∷ xs) w l h = (w.0, w.1, Within-push lo hi v xs w.2 l h)
Within-push lo hi v (Lost ∷ xs) w l h = w

Reached-old : (u : ℤ) (v : Reading) (xs : List Reading) → Reached u xs → Reached u (xs ++ v ∷ [])
Reached-old u v [] r = absurd r
Reached-old u v (x ∷ xs) r = elim r [ inl e ↦ inl e | inr q ↦ inr (Reached-old u v xs q) ]

Reached-new : (v : ℤ) (xs : List Reading) → Reached v (xs ++ Load v ∷ [])
Reached-new v [] = inl refl
Reached-new v (x ∷ xs) = inr (Reached-new v xs)

Reached-chosen : (b : Bool) (u v : ℤ) (xs : List Reading) → Reached u xs → Reached (cond b v u) (xs ++ Load v ∷ [])
Reached-chosen true u v xs r = Reached-new v xs
Reached-chosen false u v xs r = Reached-old u (Load v) xs r

Reached-kept : (b : Bool) (u v : ℤ) (xs : List Reading) → Reached u xs → Reached (cond b u v) (xs ++ Load v ∷ [])
Reached-kept true u v xs r = Reached-old u (Load v) xs r
Reached-kept false u v xs r = Reached-new v xs

least : (u v : ℤ) → FitsSigned w32 v → u ≡ pos 2147483647 → int_min u v ≡ v
least u v f e = omega (arith, ints, clamps)

greatest : (u v : ℤ) → FitsSigned w32 v → u ≡ negsuc 2147483647 → int_max u v ≡ v
greatest u v f e = omega (arith, ints, clamps)

pub Spread-push : (lo hi v : ℤ) (xs : List Reading) → FitsSigned w32 v → Spread lo hi xs → Spread (int_min lo v) (int_max hi v) (xs ++ Load v ∷ [])
Spread-push lo hi v xs f s =
    record {
      within =
          Within-push (int_min lo v) (int_max hi v) v xs
          (Within-wider lo hi (int_min lo v) (int_max hi v) xs (omega (arith, ints, clamps)) (omega (arith, ints, clamps)) s.within)
          (omega (arith, ints, clamps)) (omega (arith, ints, clamps));
      ends =
          inr
          (elim s.ends [
            | inl e ↦ (
              subst (λ w. Reached w (xs ++ Load v ∷ [])) (sym (least lo v f e.1)) (Reached-new v xs),
              subst (λ w. Reached w (xs ++ Load v ∷ [])) (sym (greatest hi v f e.2)) (Reached-new v xs),
            )
            | inr r ↦ (Reached-chosen (int_lt v lo) lo v xs r.0, Reached-kept (int_lt v hi) hi v xs r.1)
          ]);
    }

-- those within a band agree
near_each : (band : ℕ) (lo hi a : ℤ) (xs : List Reading) → lo ≤ℤ a → a ≤ℤ hi → hi ≤ℤ (lo +ℤ pos band) → Within lo hi xs → list_all (near band (Load a)) xs ≡ true
near_each band lo hi a [] l h d w = refl
near_each band lo hi a (Load v ∷ xs) l h d w =
    let p : int_le a (v +ℤ pos band) ≡ true = close a v l h w.0 w.1 in
    let q : int_le v (a +ℤ pos band) ≡ true = close v a w.0 w.1 l h in
    rw (p, q) (near_each band lo hi a xs l h d w.2)
  where
    close : (x y : ℤ) → lo ≤ℤ x → x ≤ℤ hi → lo ≤ℤ y → y ≤ℤ hi → int_le x (y +ℤ pos band) ≡ true
    close x y a b c e = grind (arith, ints)
near_each band lo hi a (Lost ∷ xs) l h d w = absurd w

agree_each : (band : ℕ) (lo hi : ℤ) (xs ys : List Reading) → hi ≤ℤ (lo +ℤ pos band) → Within lo hi xs → Within lo hi ys → list_all (λ a. list_all (near band a) ys) xs ≡ true
agree_each band lo hi [] ys d w k = refl
agree_each band lo hi (Load v ∷ xs) ys d w k =
    let p = near_each band lo hi v ys w.0 w.1 d k in
    rw p (agree_each band lo hi xs ys d w.2 k)
agree_each band lo hi (Lost ∷ xs) ys d w k = absurd w

not_all : (p : Reading → Bool) (v : ℤ) (xs : List Reading) → Reached v xs → p (Load v) ≡ false → list_all p xs ≡ false
not_all p v [] r e = absurd r
not_all p v (x ∷ xs) r e =
    elim r [
      | inl k ↦ subst (λ (y : Reading). (p y && list_all p xs) ≡ false) (sym k) (ap (λ b. b && list_all p xs) e)
      | inr q ↦ ap (λ b. p x && b) (not_all p v xs q e) ∙ and_false (p x)
    ]
  where
    and_false : (b : Bool) → (b && false) ≡ false
    and_false true = refl
    and_false false = refl

pub agree-within : (band : ℕ) (lo hi : ℤ) (xs : List Reading) → Spread lo hi xs → hi ≤ℤ (lo +ℤ pos band) → are_near band xs ≡ true
agree-within band lo hi xs s d = agree_each band lo hi xs xs d s.within s.within

pub agree-beyond : (band : ℕ) (lo hi : ℤ) (xs : List Reading) → Spread lo hi xs → (lo +ℤ pos band) <ℤ hi → are_near band xs ≡ false
agree-beyond band lo hi xs s d =
    elim s.ends [
      | inl e ↦ absurd (omega (arith, ints, e.1, e.2))
      | inr r ↦
          not_all (λ a. list_all (near band a) xs) hi xs r.1
          (not_all (near band (Load hi)) lo xs r.0 (far hi lo band d))
    ]
  where
    far : (hi lo : ℤ) (band : ℕ) → (lo +ℤ pos band) <ℤ hi → near band (Load hi) (Load lo) ≡ false
    far hi lo band d = let p : int_le hi (lo +ℤ pos band) ≡ false = grind (arith, ints) in rw p

pub agree-lost : (band : ℕ) (xs : List Reading) (i : ℕ) → slice_get xs i ≡ Some Lost → are_near band xs ≡ false
agree-lost band xs i e =
    let l : i < length xs = slice_get_within xs i Lost e in
    let g : get_or xs i Lost ≡ Lost = get_or_from_slice_get xs i Lost Lost e in
    list_all_at (λ a. list_all (near band a) xs) xs i Lost l
    (rw g (list_all_at (near band Lost) xs i Lost l refl))

-- one more item at the end
pub take_next : {X : Type 0} (xs : List X) (i : ℕ) (x : X) → slice_get xs i ≡ Some x → take (i + 1) xs ≡ take i xs ++ x ∷ []
take_next xs i x e =
    let l : i < length xs = slice_get_within xs i x e in
    rw (take_more xs i x l, get_or_from_slice_get xs i x x e)

-- the test of the greatest less the least answers
pub spread_answer : (band : ℕ) (lo hi : ℤ) (xs : List Reading) (d b : ℤ) → Spread lo hi xs → d ≡ hi -ℤ lo → b ≡ pos band → int_le d b ≡ are_near band xs
spread_answer band lo hi xs d b s e k =
    by_lt_z (lo +ℤ pos band) hi
    (λ beyond. let f : int_le d b ≡ false = grind (arith, ints) in f ∙ sym (agree-beyond band lo hi xs s beyond))
    (λ within. let t : int_le d b ≡ true = grind (arith, ints) in t ∙ sym (agree-within band lo hi xs s within))
