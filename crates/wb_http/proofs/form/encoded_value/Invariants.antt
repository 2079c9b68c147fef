use Rattle.std.proofs.Common.{◌≡◌, ◌++◌, map, filter}
use Rattle.std.specs.Prelude.{IfSome}
use Rattle.form_urlencoded.specs.Form.{IsPlainText, raw_pairs}
use Rattle.form_urlencoded.specs.Parse.{raw_pairs_left}
use Rattle.wb_http.specs.Form.{ArePlain, IsPlain, has_name}
use Rattle.wb_http.specs.helpers.FoundBytes.{bytes_found}
use Rattle.wb_http.proofs.form.encoded_value.Given as goal

abbrev pub invariant-loop-field : goal.invariant-loop-field
invariant-loop-field g l = record {
  next : (goal.iterator-loop-field g).can_next l.field-iterator;
  finite : (goal.iterator-loop-field g).is_finite l.field-iterator;
  values : map (λ pair. pair.1) (filter (has_name l.name) (raw_pairs l.body))
      ≡ bytes_found l.found ++ map (λ pair. pair.1) (filter (has_name l.name) (raw_pairs_left l.field-iterator));
  plain : IsPlain l.body → ArePlain (raw_pairs_left l.field-iterator);
  plain_found : IsPlain l.body → IfSome l.found (λ v. IsPlainText v.now);
}
