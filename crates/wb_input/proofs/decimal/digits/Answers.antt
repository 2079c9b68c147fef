use Rattle.std.proofs.Common.{◌≡◌, true, Some, refl, sym, ◌∙◌}
use Rattle.std.specs.Str.Parse.{digits_value}
use Rattle.wb_input.specs.Digits.{is_numeral}
use Rattle.wb_input.proofs.Numerals.{digits-few, digits-parsed, digits-signed, digits-small, digits-utf8}
use Rattle.wb_input.proofs.decimal.digits.Goals as goal

yes : (c : goal.After-ok) → is_numeral c.args.most c.args.text.now ≡ true
yes c = sym c.are_digits.ensures ∙ c.if-not-are_digits.false

parsed : (c : goal.After-ok) → c.ok.result ≡ Some (digits_value 10 c.args.text.now)
parsed c = c.ok.ensures.value ∙ digits-parsed c.args.most c.args.text.now c.parse.result (yes c) (rw c.in-Ok.ensures.cases.0 at c.parse.ensures.value.0)

pub returns-in-Ok-clause-value : goal.returns-in-Ok-clause-value
returns-in-Ok-clause-value c = parsed c ∙ rw (yes c) refl

pub returns-in-Ok-clause-within : goal.returns-in-Ok-clause-within
returns-in-Ok-clause-within c = rw (parsed c) (digits-few c.args.most c.args.text.now (yes c))

pub returns-in-Ok-clause-small : goal.returns-in-Ok-clause-small
returns-in-Ok-clause-small c = rw (parsed c) (digits-small c.args.most c.args.text.now (yes c))

pub returns-in-Ok-clause-signed : goal.returns-in-Ok-clause-signed
returns-in-Ok-clause-signed c = rw (parsed c) (digits-signed c.args.most c.args.text.now (yes c))

pub returns-in-Err-clause-value : goal.returns-in-Err-clause-value
returns-in-Err-clause-value c =
    let yes : is_numeral c.args.most c.args.text.now ≡ true = sym c.are_digits.ensures ∙ c.if-not-are_digits.false in
    absurd (c.in-Err.ensures.cases.0 (digits-utf8 c.args.most c.args.text.now yes))
