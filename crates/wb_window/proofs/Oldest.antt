-- The oldest reading of a full ring, and how many readings are lost.
use Rattle.std.proofs.Common.{◌≡◌, ℕ, zero, suc, ◌+◌, ◌-◌, ◌<◌, ◌≤◌, List, [], ◌∷◌, ◌++◌, length, take, Some, None, refl, sym, ◌∙◌, ap, subst, ℤ, arith}
use Rattle.std.proofs.lemmas.List.{take_all}
use Rattle.std.specs.List.{slice_get}
use Rattle.wb_window.proofs.Spread.{take_next}
use Rattle.wb_window.specs.helpers.Queues.{lost_of}
use Rattle.wb_window.specs.declared.reading.Reading.{Reading}
use Rattle.wb_window.specs.declared.reading.Reading.TheVariants.{Load, Lost}

pub lost_of-last_load : (readings : List Reading) (load : ℤ) → lost_of (readings ++ Load load ∷ []) ≡ lost_of readings
lost_of-last_load [] load = refl
lost_of-last_load (Load other ∷ older) load = lost_of-last_load older load
lost_of-last_load (Lost ∷ older) load = ap (λ n. n + 1) (lost_of-last_load older load)

pub lost_of-last_lost : (readings : List Reading) → lost_of (readings ++ Lost ∷ []) ≡ lost_of readings + 1
lost_of-last_lost [] = refl
lost_of-last_lost (Load other ∷ older) = lost_of-last_lost older
lost_of-last_lost (Lost ∷ older) = ap (λ n. n + 1) (lost_of-last_lost older)

pub lost_of-le-length : (readings : List Reading) → lost_of readings ≤ length readings
lost_of-le-length [] = omega arith
lost_of-le-length (Load load ∷ older) = let earlier = lost_of-le-length older in omega arith
lost_of-le-length (Lost ∷ older) = let earlier = lost_of-le-length older in omega arith

-- of a full ring the oldest reading goes
pub oldest_last : (readings : List Reading) (new oldest : Reading) (size : ℕ) → 0 < size → length readings ≤ size → slice_get (new ∷ readings) size ≡ Some oldest → readings ≡ take (size - 1) readings ++ oldest ∷ []
oldest_last readings new oldest size some within e =
    let more : size ≡ suc (size - 1) = omega arith in
    let at : slice_get readings (size - 1) ≡ Some oldest = subst (λ n. slice_get (new ∷ readings) n ≡ Some oldest) more e in
    sym (take_all (size - 1 + 1) readings (omega arith)) ∙ take_next readings (size - 1) oldest at

-- of one that isn't full none goes
past_end : (readings : List Reading) (place : ℕ) → slice_get readings place ≡ None → length readings ≤ place
past_end [] place e = omega arith
past_end (reading ∷ readings) zero e = cc
past_end (reading ∷ readings) (suc place) e = let rest = past_end readings place e in omega arith

pub none_goes : (readings : List Reading) (new : Reading) (size : ℕ) → 0 < size → slice_get (new ∷ readings) size ≡ None → take (size - 1) readings ≡ readings
none_goes readings new size some e =
    let more : size ≡ suc (size - 1) = omega arith in
    let at : slice_get readings (size - 1) ≡ None = subst (λ n. slice_get (new ∷ readings) n ≡ None) more e in
    take_all (size - 1) readings (past_end readings (size - 1) at)
