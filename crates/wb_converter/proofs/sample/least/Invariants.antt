use Rattle.std.proofs.Common.{◌≡◌, take}
use Rattle.wb_converter.specs.Sample.{least_of}
use Rattle.wb_converter.proofs.sample.least.Given as goal

abbrev pub invariant-loop-one : goal.invariant-loop-one
invariant-loop-one l = l.least ≡ least_of (take l.one-index l.counts)
