use Rattle.std.proofs.Common.{◌≡◌, ◌++◌}
use Rattle.std.specs.Prelude.{codes, decimal}
use Rattle.wb_journal.specs.EntryText.{line}
use Rattle.wb_journal.specs.Kind.{kind_capitals}
use Rattle.wb_journal.specs.Texts.{block_head, moment_text}
use Rattle.wb_journal.proofs.Appends.{append-three}
use Rattle.wb_journal.proofs.block.push_head.Goals as goal

pub returns-clause-bytes : goal.returns-clause-bytes
unfolding block_head
returns-clause-bytes c =
    let e = c.args.entry.now in
    let kind : c.push_str.new.self.bytes ≡ c.args.text.now.bytes ++ kind_capitals e.kind = rw (c.capitals.ensures.value, c.kind.ensures.value) at c.push_str.ensures.bytes in
    let number : c.push_number_line.new.text.bytes ≡ c.push_str.new.self.bytes ++ line (codes " NO ") (decimal e.number) = rw c.number.ensures.value at c.push_number_line.ensures.bytes in
    append-three c.args.text.now.bytes c.push_str.new.self.bytes c.push_number_line.new.text.bytes c.push_line.new.text.bytes (kind_capitals e.kind)
    (line (codes " NO ") (decimal e.number)) (line (codes "AT ") (moment_text e.moment)) kind number
    (rw (c.as_str.ensures.value, c.in_ok-at.ensures.value, c.moment.ensures.value) at c.push_line.ensures.bytes)
