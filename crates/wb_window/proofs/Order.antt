-- Which of two or three loads lies beyond another one.
use Rattle.std.proofs.Common.{◌≡◌, Bool, true, false, not, refl, ℤ, arith}
use Rattle.std.proofs.lemmas.Int.{ints}
use Rattle.wb_window.specs.helpers.Candidates.{beyond, stays}
use Rattle.wb_window.specs.declared.candidates.Extreme.{Extreme}
use Rattle.wb_window.specs.declared.candidates.Extreme.TheVariants.{Greatest, Least}

pub stays_on : (extreme : Extreme) (new middle old : ℤ) → stays extreme new middle ≡ true → stays extreme middle old ≡ true → stays extreme new old ≡ true
stays_on Greatest new middle old s t = grind (arith, ints)
stays_on Least new middle old s t = grind (arith, ints)

pub beyond_over : (extreme : Extreme) (new kept gone : ℤ) → beyond extreme new gone ≡ true → stays extreme new kept ≡ true → beyond extreme kept gone ≡ true
beyond_over Greatest new kept gone b s = grind (arith, ints)
beyond_over Least new kept gone b s = grind (arith, ints)

pub beyond_on : (extreme : Extreme) (new middle old : ℤ) → stays extreme new middle ≡ false → beyond extreme middle old ≡ true → beyond extreme new old ≡ true
beyond_on Greatest new middle old s b = grind (arith, ints)
beyond_on Least new middle old s b = grind (arith, ints)

pub beyond_later : (extreme : Extreme) (new later first : ℤ) → stays extreme new first ≡ false → stays extreme later first ≡ true → stays extreme new later ≡ false
beyond_later Greatest new later first b s = grind (arith, ints)
beyond_later Least new later first b s = grind (arith, ints)

pub stays_itself : (extreme : Extreme) (load : ℤ) → stays extreme load load ≡ true
stays_itself Greatest load = grind (arith, ints)
stays_itself Least load = grind (arith, ints)

pub beyond_itself : (extreme : Extreme) (load : ℤ) → beyond extreme load load ≡ true → ⊥
beyond_itself Greatest load b = grind (arith, ints)
beyond_itself Least load b = grind (arith, ints)

pub beyond_of : (b : Bool) → not b ≡ false → b ≡ true
beyond_of true e = refl
beyond_of false e = cc

pub further : (extreme : Extreme) (new first load : ℤ) → stays extreme new first ≡ false → stays extreme load first ≡ true → stays extreme load new ≡ true
further Greatest new first load b s = grind (arith, ints)
further Least new first load b s = grind (arith, ints)
