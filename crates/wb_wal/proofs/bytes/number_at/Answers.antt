use Rattle.std.proofs.Common.{refl}
use Rattle.sqlite_wal.specs.Format.{be32}
use Rattle.wb_wal.proofs.bytes.number_at.Goals as goal

pub returns : goal.returns
unfolding be32
returns c = refl
