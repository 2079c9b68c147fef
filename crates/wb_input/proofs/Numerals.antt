-- The number that decimal digits give.
use Rattle.std.proofs.Common.{rules, ◌≡◌, ◌<◌, ◌≤◌, ◌^◌, ℕ, Bool, true, false, List, length, Result, Some, refl, ap, arith}
use Rattle.std.specs.Prelude.{IsUtf8, nat_le}
use Rattle.std.specs.Char.{is_ascii_digit}
use Rattle.std.specs.List.{list_all}
use Rattle.std.specs.Result.{result_ok}
use Rattle.std.specs.Str.Parse.{digits_value, ParsesUnsigned}
use Rattle.std.proofs.lemmas.Bool.Decides.{nat_tests}
use Rattle.std.proofs.lemmas.List.Elements.{All-weaker}
use Rattle.std.proofs.lemmas.List.Sums.{AllPass-from_list_all}
use Rattle.std.proofs.lemmas.Str.{IsUtf8-from_ascii}
use Rattle.std.proofs.lemmas.Str.Ascii.{IsAscii-from_all}
use Rattle.std.proofs.lemmas.Str.Parse.{IsNumeralModel, numerals_by_value, parse_gives, digits_value_short}
use Rattle.wb_input.specs.Digits.{is_numeral}

own : IsNumeralModel (λ ds. list_all is_ascii_digit ds ≡ true) (digits_value 10)
own = numerals_by_value (λ ds. list_all is_ascii_digit ds ≡ true) (search rules)

record Digits (most : ℕ) (text : List ℕ) : Type 0 where
  some : 1 ≤ length text
  few : length text ≤ most
  limit : length text ≤ 18
  digits : list_all is_ascii_digit text ≡ true

digits_from : (most : ℕ) (text : List ℕ) → is_numeral most text ≡ true → Digits most text
digits_from most text e = go (nat_le 1 (length text)) (nat_le (length text) most) (nat_le (length text) 18) refl refl refl
  where
    go : (a b c : Bool) → nat_le 1 (length text) ≡ a → nat_le (length text) most ≡ b → nat_le (length text) 18 ≡ c → Digits most text
    go true true true p q r = record { some = grind (arith, nat_tests); few = grind (arith, nat_tests); limit = grind (arith, nat_tests); digits = rw (p, q, r) at e }
    go true true false p q r = absurd (cc (rw (p, q, r) at e))
    go true false c p q r = absurd (cc (rw (p, q) at e))
    go false b c p q r = absurd (cc (rw p at e))

pub digits-small : (most : ℕ) (text : List ℕ) → is_numeral most text ≡ true → digits_value 10 text < 10 ^ most
digits-small most text e = let d = digits_from most text e in digits_value_short own text most d.digits d.few

pub digits-signed : (most : ℕ) (text : List ℕ) → is_numeral most text ≡ true → digits_value 10 text < 10 ^ 18
digits-signed most text e = let d = digits_from most text e in digits_value_short own text 18 d.digits d.limit

pub digits-few : (most : ℕ) (text : List ℕ) → is_numeral most text ≡ true → length text ≤ most
digits-few most text e = (digits_from most text e).few

pub digits-parsed : {E : Type 0} → (most : ℕ) (text : List ℕ) (r : Result ℕ E) → is_numeral most text ≡ true → ParsesUnsigned 64 10 text r
    → result_ok r ≡ Some (digits_value 10 text)
digits-parsed most text r e h =
    let d = digits_from most text e in
    let small = digits-signed most text e in
    ap result_ok (parse_gives own 64 text r h d.digits d.some (omega arith))

digit_small : (b : ℕ) → is_ascii_digit b ≡ true → b < 128
digit_small b h = search (h, rules)

pub digits-utf8 : (most : ℕ) (text : List ℕ) → is_numeral most text ≡ true → IsUtf8 text
digits-utf8 most text e =
    let d = digits_from most text e in
    IsUtf8-from_ascii text (IsAscii-from_all text (All-weaker (λ b. is_ascii_digit b ≡ true) (λ b. b < 128) digit_small text (AllPass-from_list_all is_ascii_digit text d.digits)))
