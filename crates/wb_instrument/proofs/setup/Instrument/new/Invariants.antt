use Rattle.std.proofs.Common.{take}
use Rattle.std.specs.Prelude.{All}
use Rattle.wb_instrument.specs.Setup.{IsWithinLimits, parts_in_order, setup_of}
use Rattle.wb_instrument.proofs.setup.Instrument.new.Given as goal

abbrev pub invariant-loop-part : goal.invariant-loop-part
invariant-loop-part l = All (λ part. IsWithinLimits part (setup_of l.parts)) (take l.part-index parts_in_order)
