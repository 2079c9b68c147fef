use Rattle.std.proofs.Common.{◌≡◌, take}
use Rattle.std.proofs.lemmas.List.{take_all}
use Rattle.std.proofs.lemmas.List.Elements.{All-more}
use Rattle.wb_instrument.specs.declared.setup.PartFault.TheVariants.{Interval}
use Rattle.wb_instrument.specs.Setup.{IsWithinLimits, parts_in_order, setup_of}
use Rattle.wb_instrument.proofs.Setups.{IsSetup-judged}
use Rattle.wb_instrument.proofs.setup.Instrument.new.Goals as goal

pub loop-part-preserved : goal.loop-part-preserved
loop-part-preserved c =
    let s = setup_of c.args.parts in
    All-more (λ part. IsWithinLimits part s) parts_in_order c.loop-part.part-index Interval c.loop-part-test.true c.loop-part.invariant
    (c.is_within.ensures.0 c.if-not-is_within.false)

pub returns-in_default-clause-refused : goal.returns-in_default-clause-refused
returns-in_default-clause-refused c =
    let all : take c.loop-part.part-index parts_in_order ≡ parts_in_order = take_all c.loop-part.part-index parts_in_order c.loop-part-test.false in
    let is = IsSetup-judged (setup_of c.args.parts) (rw all at c.loop-part.invariant) in
    absurd (cc (is.serial, c.in_default.ensures.valid))

pub invariant_of-result : goal.invariant_of-result
invariant_of-result c =
    let all : take c.loop-part.part-index parts_in_order ≡ parts_in_order = take_all c.loop-part.part-index parts_in_order c.loop-part-test.false in
    rw c.in-Some.ensures.value (IsSetup-judged (setup_of c.args.parts) (rw all at c.loop-part.invariant))
