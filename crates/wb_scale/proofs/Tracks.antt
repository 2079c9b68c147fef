-- The step of zero tracking at a load.
use Rattle.std.proofs.Common.{◌≡◌, Bool, true, false, ◌&&◌, ◌≢◌, Some, refl, ℤ, pos, ◌+ℤ◌, ◌-ℤ◌, ◌≤ℤ◌, neg_ℤ, arith}
use Rattle.std.specs.Prelude.{int_le, if◌then◌else◌}
use Rattle.std.specs.Ordering.{int_eq}
use Rattle.std.proofs.lemmas.Bool.Decides.{Decides-int_eq}
use Rattle.std.proofs.lemmas.Int.{ints}
use Rattle.wb_instrument.specs.Rounding.{round}
use Rattle.wb_scale.specs.Tracking.{is_within_limit, step_to, towards}

pub int_eq-nought : (x : ℤ) → x ≡ pos 0 → int_eq x (pos 0) ≡ true
int_eq-nought x e = (Decides-int_eq x (pos 0)).1 e

pub int_eq-other : (x : ℤ) → x ≢ pos 0 → int_eq x (pos 0) ≡ false
int_eq-other x n = go (int_eq x (pos 0)) refl
  where
    go : (b : Bool) → int_eq x (pos 0) ≡ b → b ≡ false
    go true e = absurd (n ((Decides-int_eq x (pos 0)).0 e))
    go false e = refl

-- the gross isn't 0
pub step_to-gross : (limit zero load : ℤ) → round (load -ℤ zero) ≢ pos 0 → step_to limit zero (Some load) ≡ pos 0
step_to-gross limit zero load n = rw (int_eq-other (round (load -ℤ zero)) n) refl

-- a gross of 0
pub step_to-nought : (limit zero load : ℤ) → round (load -ℤ zero) ≡ pos 0
    → step_to limit zero (Some load) ≡ (if is_within_limit limit (zero +ℤ towards zero load) then towards zero load else pos 0)
step_to-nought limit zero load e = rw (int_eq-nought (round (load -ℤ zero)) e) refl

pub within-true : (limit zero : ℤ) → is_within_limit limit zero ≡ true → (neg_ℤ limit ≤ℤ zero) × (zero ≤ℤ limit)
within-true limit zero e = go (int_le (neg_ℤ limit) zero) (int_le zero limit) refl refl e
  where
    go : (a b : Bool) → int_le (neg_ℤ limit) zero ≡ a → int_le zero limit ≡ b → (a && b) ≡ true → (neg_ℤ limit ≤ℤ zero) × (zero ≤ℤ limit)
    go true true p q f = (grind (arith, ints), grind (arith, ints))
    go true false p q f = absurd (cc)
    go false b p q f = absurd (cc)
