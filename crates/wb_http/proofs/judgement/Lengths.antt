-- The number that digits write, cut at a limit.
use Rattle.std.proofs.Common.{◌≡◌, ℕ, zero, suc, ◌+◌, ◌-◌, ◌*◌, ◌<◌, List, [], ◌∷◌, Bool, true, false, get_or, length, min, refl, arith}
use Rattle.std.specs.Prelude.{◌&&◌}
use Rattle.std.specs.Char.{digit_value, is_ascii_digit}
use Rattle.std.specs.Int.{IsInRange}
use Rattle.std.specs.List.{list_all}
use Rattle.std.proofs.lemmas.Bool.Decides.{nat_tests}
use Rattle.std.proofs.lemmas.Str.{digit_value_digit}

pub both : (a b : Bool) → (a && b) ≡ true → (a ≡ true) × (b ≡ true)
both true true e = (refl, refl)
both true false e = cc e
both false b e = cc e

in_range : (b : ℕ) → is_ascii_digit b ≡ true → IsInRange 48 57 b
in_range b e = grind (arith, nat_tests, e)

pub digit_at : (text : List ℕ) (i : ℕ) → list_all is_ascii_digit text ≡ true → i < length text → digit_value (get_or text i 0) + 48 ≡ get_or text i 0
digit_at [] i e l = let bad : ⊥ = omega (arith, l) in absurd bad
digit_at (b ∷ text) zero e l = digit_value_digit b (in_range b (both (is_ascii_digit b) (list_all is_ascii_digit text) e).0)
digit_at (b ∷ text) (suc i) e l = digit_at text i (both (is_ascii_digit b) (list_all is_ascii_digit text) e).1 (omega (arith, l))

pub cut : (was number digit byte : ℕ) → number ≡ min was 1025 → digit + 48 ≡ byte → min (number * 10 + (byte - 48)) 1025 ≡ min (was * 10 + digit) 1025
cut was number digit byte n d = omega (arith, n, d)
