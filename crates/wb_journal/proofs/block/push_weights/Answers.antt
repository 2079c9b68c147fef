use Rattle.std.specs.Prelude.{codes}
use Rattle.wb_journal.specs.Texts.{block_weights, kilogram_line}
use Rattle.wb_journal.proofs.Appends.{append-two}
use Rattle.wb_journal.proofs.block.push_weights.Goals as goal

pub returns-clause-bytes : goal.returns-clause-bytes
unfolding block_weights
returns-clause-bytes c =
    let e = c.args.entry.now in
    append-two c.args.text.now.bytes c.push_kilogram_line.new.text.bytes c.push_kilogram_line-2.new.text.bytes (kilogram_line (codes "G ") e.gross_kg) (kilogram_line (codes "PT ") e.preset_kg)
    (rw c.gross_kg.ensures.value at c.push_kilogram_line.ensures.bytes) (rw c.preset_kg.ensures.value at c.push_kilogram_line-2.ensures.bytes)
