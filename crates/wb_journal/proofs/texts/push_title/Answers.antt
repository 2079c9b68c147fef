use Rattle.std.specs.Prelude.{codes, decimal}
use Rattle.wb_journal.specs.EntryText.{line}
use Rattle.wb_journal.specs.Texts.{title}
use Rattle.wb_journal.proofs.Appends.{append-two}
use Rattle.wb_journal.proofs.texts.push_title.Goals as goal

pub returns-clause-bytes : goal.returns-clause-bytes
unfolding title
returns-clause-bytes c =
    let e = c.args.entry.now in
    append-two c.args.text.now.bytes c.push_number_line.new.text.bytes c.push_line.new.text.bytes (line c.args.name.now (decimal e.number)) (line (codes "PLATE ") e.plate)
    (rw c.number.ensures.value at c.push_number_line.ensures.bytes) (rw (c.as_str.ensures.value, c.plate.ensures.value) at c.push_line.ensures.bytes)
