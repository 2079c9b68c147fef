use Rattle.std.proofs.Common.{refl, sym, subst}
use Rattle.std.proofs.lemmas.Bool.{false≢true}
use Rattle.sqlite_wal.specs.Format.{part}
use Rattle.wb_wal.specs.Look.{AreRightOrLost}
use Rattle.wb_wal.proofs.commit.is_sealed.Goals as goal

pub returns-then-not-are_right_or_lost : goal.returns-then-not-are_right_or_lost
unfolding part
returns-then-not-are_right_or_lost c =
    (λ no'. absurd (false≢true no'), λ sealed. c.if-not-are_right_or_lost.ensures.1 sealed.salts)

pub returns-then-not-are_right_or_lost-2 : goal.returns-then-not-are_right_or_lost-2
unfolding part
returns-then-not-are_right_or_lost-2 c =
    (λ no'. absurd (false≢true no'), λ sealed. c.if-not-are_right_or_lost-2.ensures.1 (subst (AreRightOrLost (part c.args.frame.now 16 4)) (sym c.to_be_bytes.ensures) sealed.first))

pub returns : goal.returns
unfolding part
returns c = (
  λ yes'. record {
    salts = c.if-not-are_right_or_lost.ensures.0 refl;
    first = subst (AreRightOrLost (part c.args.frame.now 16 4)) c.to_be_bytes.ensures (c.if-not-are_right_or_lost-2.ensures.0 refl);
    second = subst (AreRightOrLost (part c.args.frame.now 20 4)) c.to_be_bytes-2.ensures (c.are_right_or_lost-3.ensures.0 yes');
  },
  λ sealed. c.are_right_or_lost-3.ensures.1 (subst (AreRightOrLost (part c.args.frame.now 20 4)) (sym c.to_be_bytes-2.ensures) sealed.second),
)
