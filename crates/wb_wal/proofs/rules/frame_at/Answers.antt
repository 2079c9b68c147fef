use Rattle.std.proofs.Common.{◌+◌, ◌∙◌, ap}
use Rattle.sqlite_wal.specs.Format.{part}
use Rattle.wb_wal.proofs.Walk.{cut}
use Rattle.wb_wal.proofs.rules.frame_at.Goals as goal

pub returns-clause-value : goal.returns-clause-value
returns-clause-value c =
    let log = c.args.log.now in
    let page = c.args.page in
    cut log c.args.stop.now.at (24 + page) ∙ ap (λ at. part log at (24 + page)) c.requires.stop.stands.place
