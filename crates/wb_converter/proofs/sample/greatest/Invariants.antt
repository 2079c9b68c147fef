use Rattle.std.proofs.Common.{◌≡◌, take}
use Rattle.wb_converter.specs.Sample.{greatest_of}
use Rattle.wb_converter.proofs.sample.greatest.Given as goal

abbrev pub invariant-loop-one : goal.invariant-loop-one
invariant-loop-one l = l.greatest ≡ greatest_of (take l.one-index l.counts)
