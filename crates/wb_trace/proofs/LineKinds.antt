-- The events of a line, by its first byte.
use Rattle.std.proofs.Common.{◌≡◌, ℕ, ◌-◌, ◌≤◌, List, [], ◌∷◌, length, take, drop, slice_index_or, refl, ◌∙◌, ap, arith}
use Rattle.std.proofs.Math.Seq.{take-length}
use Rattle.wb_trace.specs.TraceLines.{line_events, of_text, reading_line, without_blank}

-- a line of readings
pub line-readings : (line : List ℕ) → 1 ≤ length line → slice_index_or line 0 0 ≡ 114
    → line_events line ≡ of_text reading_line (without_blank (take (length line - 1) (drop 1 line)))
line-readings [] l e = absurd (omega arith)
line-readings (b ∷ bs) l e =
    let rest : take (length (b ∷ bs) - 1) bs ≡ bs = ap (λ n. take n bs) (omega arith) ∙ take-length bs in
    rw (e, rest) refl
