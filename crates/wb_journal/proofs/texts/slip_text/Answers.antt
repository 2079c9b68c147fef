use Rattle.std.proofs.Common.{◌≡◌, ◌++◌, []}
use Rattle.std.specs.Prelude.{codes}
use Rattle.wb_journal.specs.Texts.{block, slip, title}
use Rattle.wb_journal.proofs.Appends.{append-two}
use Rattle.wb_journal.proofs.texts.slip_text.Goals as goal

pub returns-clause-value : goal.returns-clause-value
unfolding slip
returns-clause-value c =
    let e = c.args.entry.now in
    let head : c.push_title.new.text.bytes ≡ [] ++ title (codes "WEIGHING SLIP ") e = rw c.new-text.ensures at c.push_title.ensures.bytes in
    append-two [] c.push_title.new.text.bytes c.push_block.new.text.bytes (title (codes "WEIGHING SLIP ") e) (block e) head c.in_ok-push_block.ensures.bytes
