use Rattle.std.proofs.Common.{refl, sym, ◌∙◌, arith, inl, inr}
use Rattle.std.proofs.lemmas.Bool.{false≢true, not-true, not_from_false, false_from_ne_true}
use Rattle.wb_wal.proofs.rules.needs_file.Goals as goal

pub returns-then-is_signed : goal.returns-then-is_signed
unfolding Rattle.sqlite_wal.specs.Format.part
returns-then-is_signed c = (
  λ yes'. inr (omega (arith, c.if-log-lt-HEADER.false), c.if-is_signed.ensures.0 refl, λ e. false≢true (sym (not-true _ yes') ∙ c.is_begun.ensures.1 e)),
  λ needs. elim needs [
    | inl long ↦ absurd (omega (arith, long, c.if-log-ge-LEAST.false))
    | inr rest ↦ not_from_false _ (false_from_ne_true _ (λ yes'. rest.2 (c.is_begun.ensures.0 yes')))
  ],
)

pub returns-else-is_signed : goal.returns-else-is_signed
unfolding Rattle.sqlite_wal.specs.Format.part
returns-else-is_signed c = (
  λ yes'. absurd (false≢true (sym c.if-is_signed.false ∙ yes')),
  λ needs. elim needs [
    | inl long ↦ absurd (omega (arith, long, c.if-log-ge-LEAST.false))
    | inr rest ↦ absurd (false≢true (c.if-is_signed.ensures.1 rest.1))
  ],
)
