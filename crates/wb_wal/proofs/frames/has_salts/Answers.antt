use Rattle.std.proofs.Common.{sym, ◌∙◌}
use Rattle.std.proofs.lemmas.Slice.Eq.{bytes_eq-Decides}
use Rattle.wb_wal.proofs.frames.has_salts.Goals as goal

pub returns : goal.returns
unfolding Rattle.sqlite_wal.specs.Format.part
returns c = (
  λ same. (bytes_eq-Decides _ _).0 (sym c.eq.ensures ∙ same),
  λ same. c.eq.ensures ∙ (bytes_eq-Decides _ _).1 same,
)
