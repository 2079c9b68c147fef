-- A serial is ASCII, and so it is text.
use Rattle.std.proofs.Common.{◌≡◌, ℕ, suc, zero as nought, ◌<◌, ◌==◌, Bool, true, false, ◌&&◌, List, [], ◌∷◌, refl, arith}
use Rattle.std.specs.Prelude.{length, nat_le, slice_index}
use Rattle.std.specs.List.{before_first, list_all}
use Rattle.std.specs.Str.{IsUtf8}
use Rattle.std.proofs.lemmas.Bool.Decides.{nat_tests}
use Rattle.std.proofs.lemmas.Str.{IsUtf8-from_ascii}
use Rattle.wb_instrument.specs.Serial.{is_serial_byte, is_serial_text}
use Rattle.wb_terminal_c.specs.Passed.{serial_passed}

left_of : (a b : Bool) → (a && b) ≡ true → a ≡ true
left_of true b e = refl
left_of false b e = e

right_of : (a b : Bool) → (a && b) ≡ true → b ≡ true
right_of true b e = e
right_of false b e = absurd (cc (e))

regrouped : (a b c : Bool) → (a && b && c) ≡ true → ((a && b) && c) ≡ true
regrouped true b c e = e
regrouped false b c e = absurd (cc (e))

is_ascii : (b : ℕ) → is_serial_byte b ≡ true → b < 128
is_ascii b e = grind (arith, nat_tests, e)

are_ascii : (t : List ℕ) → list_all is_serial_byte t ≡ true → (i : ℕ) → slice_index t i < 128
are_ascii [] e i = omega arith
are_ascii (b ∷ t) e nought = is_ascii b (left_of (is_serial_byte b) (list_all is_serial_byte t) e)
are_ascii (b ∷ t) e (suc i) = are_ascii t (right_of (is_serial_byte b) (list_all is_serial_byte t) e) i

is_serial-IsUtf8 : (t : List ℕ) → is_serial_text t ≡ true → IsUtf8 t
is_serial-IsUtf8 t e =
    IsUtf8-from_ascii t (are_ascii t (right_of (nat_le 1 (length t) && nat_le (length t) 16) (list_all is_serial_byte t) (regrouped (nat_le 1 (length t)) (nat_le (length t) 16) (list_all is_serial_byte t) e)))

not_true : (b : Bool) → ¬ (b ≡ true) → b ≡ false
not_true true n = absurd (n refl)
not_true false n = refl

-- what isn't text is no serial
pub none-passed : (text t : List ℕ) → t ≡ before_first (λ b. b == 0) text → ¬ IsUtf8 t → [] ≡ serial_passed text
none-passed text t e not =
    let f : is_serial_text t ≡ false = not_true (is_serial_text t) (λ is. not (is_serial-IsUtf8 t is)) in
    let g : is_serial_text (before_first (λ b. b == 0) text) ≡ false = rw e at f in
    rw g refl
