use Rattle.std.proofs.Common.{◌≡◌, ◌∙◌, sym, ap, ℤ, List, Option, Some, unwrap_or, to_z-of_z, SFits, w32, rules}
use Rattle.wb_calibration.specs.declared.point.Point.{Point}
use Rattle.wb_calibration.specs.Line.{IsLoadOf}
use Rattle.wb_converter.proofs.answering.answer_to.Goals as goal

none_left : (points : List Point) (read n tenths : ℤ) (counts : Option ℤ) → counts ≡ Some read → counts ≡ Some n → IsLoadOf points read tenths
    → ((any : ℤ) → ¬ IsLoadOf points n any) → ⊥
none_left points read n tenths counts r e is none =
    let same : read ≡ n = ap (λ o. unwrap_or o n) (sym r ∙ e) in
    none tenths (rw same at is)

pub returns-in-Some-load-clause-no_load : goal.returns-in-Some-load-clause-no_load
returns-in-Some-load-clause-no_load c = λ n e none.
    let fits : SFits w32 c.in-Some.counts = search rules in
    let is = (c.load.ensures.value c.in-Some-load.tenths).0 c.in-Some-load.is in
    let k = to_z-of_z fits in
    absurd (none_left c.args.calibration.now c.in-Some.counts n c.in-Some-load.tenths _ c.in-Some.is e (rw k at is) none)
