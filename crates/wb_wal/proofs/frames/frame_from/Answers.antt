use Rattle.std.proofs.Common.{arith, rules}
use Rattle.std.proofs.lemmas.List.{places}
use Rattle.wb_wal.proofs.frames.frame_from.Goals as goal

pub returns-clause-some : goal.returns-clause-some
unfolding Rattle.sqlite_wal.specs.Format.part
returns-clause-some c = grind (arith, rules, places)
