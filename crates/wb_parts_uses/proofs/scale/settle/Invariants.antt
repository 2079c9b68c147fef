use Rattle.std.proofs.Common.{replicate}
use Rattle.wb_scale.specs.Call.{read}
use Rattle.wb_scale.specs.Stands.{ScaleTakesAll}
use Rattle.wb_parts_uses.proofs.scale.settle.Given as goal

-- it was handed in so often
abbrev pub invariant-loop : goal.invariant-loop
invariant-loop g l = ScaleTakesAll l.fn.scale l.scale (replicate l.counter (read l.reading))
