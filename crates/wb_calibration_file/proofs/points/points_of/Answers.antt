use Rattle.std.proofs.Common.{◌≡◌, ◌∙◌, sym, ap, ℕ, List, [], ◌++◌, append-nil, length, arith}
use Rattle.std.proofs.lemmas.Slice.Eq.{bytes_eq-Decides}
use Rattle.arrayvec.specs.ArrayVec.{array_vec_len}
use Rattle.wb_calibration_file.specs.File.{points_text}
use Rattle.wb_calibration_file.proofs.points.points_of.Goals as goal

pub returns-then-eq-clause-each : goal.returns-then-eq-clause-each
returns-then-eq-clause-each c = λ ps numbers few e.
    let none : array_vec_len c.new-points.result ≡ 0 = ap length c.new-points.ensures in
    c.push_points_of.ensures ps [] numbers tt (omega (arith, none, few)) (e ∙ sym (append-nil (points_text ps))) ∙ ap (λ t. t ++ ps) c.new-points.ensures

pub returns-else-eq-clause-each : goal.returns-else-eq-clause-each
returns-else-eq-clause-each c = λ ps numbers few e.
    let none : array_vec_len c.new-points.result ≡ 0 = ap length c.new-points.ensures in
    let read = c.push_points_of.ensures ps [] numbers tt (omega (arith, none, few)) (e ∙ sym (append-nil (points_text ps))) ∙ ap (λ t. t ++ ps) c.new-points.ensures in
    let written = c.as_bytes.ensures.value ∙ c.as_str.ensures.value ∙ c.text_of.ensures ∙ ap points_text read ∙ sym e in
    absurd (cc (c.eq.ensures ∙ (bytes_eq-Decides _ _).1 written, c.if-eq.false))
