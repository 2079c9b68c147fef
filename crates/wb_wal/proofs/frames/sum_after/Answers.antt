use Rattle.std.proofs.Common.{◌∙◌, ap₂}
use Rattle.std.proofs.lemmas.List.{take_rest}
use Rattle.sqlite_wal.specs.Format.{checksum}
use Rattle.wb_wal.proofs.frames.sum_after.Goals as goal

pub returns : goal.returns
returns c =
    c.checksum_of-2.ensures ∙ ap₂ (checksum (Rattle.sqlite_wal.specs.Format.is_big c.args.head.now)) c.checksum_of.ensures (take_rest c.args.frame.now 24)
