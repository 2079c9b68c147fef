use Rattle.std.proofs.Common.{◌≡◌, ◌∙◌, sym, ◌-◌, ◌≤◌, Bool, false, ℤ, List, [], ◌∷◌, SFits, w32, to_z, of_z, rules, arith, to_z-of_z, get_or, take, drop, length}
use Rattle.std.proofs.lemmas.List.{take_all}
use Rattle.wb_calibration.specs.declared.point.Point.{Point}
use Rattle.wb_calibration.specs.Line.{segment_among, stands_for_less}
use Rattle.wb_calibration.proofs.segment.+segment_from.Goals as goal

-- the next two, where the counts reach the upper point
segment_from-reached : (falling : Bool) (lower upper : Point) (above : List Point) (counts : ℤ) (d : Point) → 1 ≤ length above → stands_for_less falling counts upper.counts ≡ false
    → segment_among falling upper (get_or above 0 d) (take (length above - 1) (drop 1 above)) counts ≡ segment_among falling lower upper above counts
segment_from-reached falling lower upper [] counts d h e = absurd (omega arith)
segment_from-reached falling lower upper (next ∷ rest) counts d h e =
    let all : take (length (next ∷ rest) - 1) (drop 1 (next ∷ rest)) ≡ rest = take_all _ rest (omega arith) in
    rw (all, e)

pub returns-else-is_before : goal.returns-else-is_before
returns-else-is_before t c =
    let a = c.args in
    let counts : to_z w32 (of_z w32 a.counts) ≡ a.counts = to_z-of_z c.ranges.counts in
    let fits : SFits w32 a.upper.counts = search rules in
    let upper : to_z w32 (of_z w32 a.upper.counts) ≡ a.upper.counts = to_z-of_z fits in
    let reached : stands_for_less a.falls a.counts a.upper.counts ≡ false = sym (rw (counts, upper) at c.is_before.ensures) ∙ c.if-is_before.false in
    (rw counts at c.segment_from.ensures) ∙ segment_from-reached a.falls a.lower a.upper a.above.now a.counts _ c.in-len1-up.len_at_least reached
