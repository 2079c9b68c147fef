-- What the last readings say of all of them.
use Rattle.std.proofs.Common.{◌≡◌, ℕ, suc, zero as nought, ◌≤◌, List, [], ◌∷◌, length, take, refl, ap, arith}
use Rattle.std.specs.Prelude.{nat_le, IfSome, slice_get}
use Rattle.std.proofs.lemmas.List.{take-take, length-take}
use Rattle.std.proofs.lemmas.Grind.{common_steps}
use Rattle.wb_window.specs.Reading.{IsReading}
use Rattle.wb_window.specs.Stability.{is_stable}
use Rattle.wb_window.specs.declared.reading.Reading.{Reading}
use Rattle.wb_scale.specs.State.{AreReadings}
use Rattle.wb_scale.specs.Zero.{last_load}

-- to keep the last n of a reading and the last n is to keep the last n of all
pub take_kept : {A : Type 0} (n : ℕ) (x : A) (xs : List A) → take n (x ∷ take n xs) ≡ take n (x ∷ xs)
take_kept nought x xs = refl
take_kept (suc n) x xs = ap (λ ys. x ∷ ys) (take-take n (suc n) xs (omega arith))

-- stability looks at the last n alone
pub is_stable-take : (n band : ℕ) (rs : List Reading) → is_stable n band (take n rs) ≡ is_stable n band rs
is_stable-take n band rs =
    let l : nat_le n (length (take n rs)) ≡ nat_le n (length rs) = rw length-take (grind (arith, common_steps)) in
    rw (take-take n n rs (omega arith), l)

-- and so does the last load
pub last_load-take : (n : ℕ) (rs : List Reading) → 1 ≤ n → last_load (take n rs) ≡ last_load rs
last_load-take nought rs l = absurd (omega arith)
last_load-take (suc n) [] l = refl
last_load-take (suc n) (r ∷ rs) l = refl

pub AreReadings-take : (n : ℕ) (rs : List Reading) → AreReadings rs → AreReadings (take n rs)
AreReadings-take nought rs a = tt
AreReadings-take (suc n) [] a = tt
AreReadings-take (suc n) (r ∷ rs) a = (a.0, AreReadings-take n rs a.1)

-- the last reading is in range where all are
pub IsReading-last : (rs : List Reading) → AreReadings rs → IfSome (slice_get rs 0) IsReading
IsReading-last [] a = tt
IsReading-last (r ∷ rs) a = a.0
