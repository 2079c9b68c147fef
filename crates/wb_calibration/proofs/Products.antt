-- Products and quotients of whole numbers.
use Rattle.std.proofs.Common.{◌≡◌, ℕ, ◌+◌, ◌*◌, ◌<◌, ◌≤◌, ℤ, pos, negsuc, ◌+ℤ◌, ◌*ℤ◌, ◌≤ℤ◌, ◌<ℤ◌, unsigned_abs, ap, arith, mul-le-mul_left, div-le_self}
use Rattle.std.proofs.lemmas.Int.{ints, by_lt_z}
use Rattle.std.specs.Int.{int_div_euclid}
use borrow.Author.Differences.{up, down}

-- a factor that is not negative keeps the order
pub mul_keeps : (k a b : ℤ) → pos 0 ≤ℤ k → a ≤ℤ b → (k *ℤ a) ≤ℤ (k *ℤ b)
mul_keeps (pos n) a b p h =
    let e : up a + down b ≤ up b + down a = omega (arith, ints) in
    omega (arith, ints, mul-le-mul_left n e)
mul_keeps (negsuc n) a b p h = absurd (omega (arith, ints))

-- the product with one more
pub mul-one_more : (k a : ℤ) → k *ℤ (a +ℤ pos 1) ≡ k *ℤ a +ℤ k
mul-one_more k a =
    let e : up (a +ℤ pos 1) + down a ≡ down (a +ℤ pos 1) + up a + 1 = omega (arith, ints) in
    omega (arith, ints, ap (λ x. up k * x) e, ap (λ x. down k * x) e)

-- a product that is less than the factor past another is none of a greater number
pub mul_cancel : (k a b : ℤ) → pos 0 ≤ℤ k → (k *ℤ a) <ℤ (k *ℤ b +ℤ k) → a ≤ℤ b
mul_cancel k a b p h =
    by_lt_z b a
    (λ less. let more : (b +ℤ pos 1) ≤ℤ a = omega (arith, ints) in
    absurd (omega (arith, ints, mul_keeps k (b +ℤ pos 1) a p more, mul-one_more k b)))
    (λ is. is)

-- the quotient is rounded down
quotient_of_natural : (a : ℤ) (n : ℕ) → 0 < n → ((pos n *ℤ int_div_euclid a (pos n)) ≤ℤ a) × (a <ℤ (pos n *ℤ int_div_euclid a (pos n) +ℤ pos n))
quotient_of_natural (pos a) n h = (omega (arith, ints), omega (arith, ints))
quotient_of_natural (negsuc a) n h = (omega (arith, ints), omega (arith, ints))

pub quotient_down : (a d : ℤ) → pos 0 <ℤ d → ((d *ℤ int_div_euclid a d) ≤ℤ a) × (a <ℤ (d *ℤ int_div_euclid a d +ℤ d))
quotient_down a (pos n) h = quotient_of_natural a n (omega (arith, ints))
quotient_down a (negsuc n) h = absurd (omega (arith, ints))

-- and is no further from 0
pub quotient_small : (a d : ℤ) → pos 0 <ℤ d → unsigned_abs (int_div_euclid a d) ≤ unsigned_abs a
quotient_small (pos a) (pos n) h = div-le_self a n
quotient_small (negsuc a) (pos n) h = let k = div-le_self a n in omega arith
quotient_small a (negsuc n) h = absurd (omega (arith, ints))
