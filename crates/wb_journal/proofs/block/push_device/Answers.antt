use Rattle.std.proofs.Common.{◌≡◌, ◌++◌}
use Rattle.std.specs.Prelude.{codes, decimal}
use Rattle.wb_journal.specs.EntryText.{line}
use Rattle.wb_journal.specs.Texts.{block_device}
use Rattle.wb_journal.proofs.Appends.{append-six}
use Rattle.wb_journal.proofs.block.push_device.Goals as goal

pub returns-clause-bytes : goal.returns-clause-bytes
unfolding block_device
returns-clause-bytes c =
    let e = c.args.entry.now in
    let t2 = c.push_number.new.text.bytes in
    let t4 = c.push_number-2.new.text.bytes in
    let interval : t2 ≡ c.push_str.new.self.bytes ++ decimal e.interval_kg = rw c.interval_kg.ensures.value at c.push_number.ensures.bytes in
    let max : t4 ≡ c.push_str-2.new.self.bytes ++ decimal e.max_kg = rw c.max_kg.ensures.value at c.push_number-2.ensures.bytes in
    let serial : c.push_line.new.text.bytes ≡ t4 ++ line (codes " kg SERIAL ") e.serial = rw (c.as_str.ensures.value, c.serial.ensures.value) at c.push_line.ensures.bytes in
    let shown : c.push_line-2.new.text.bytes ≡ c.push_line.new.text.bytes ++ line (codes "DIGEST ") e.digest = rw (c.as_str-2.ensures.value, c.digest.ensures.value) at c.push_line-2.ensures.bytes in
    append-six c.args.text.now.bytes c.push_str.new.self.bytes t2 c.push_str-2.new.self.bytes t4 c.push_line.new.text.bytes c.push_line-2.new.text.bytes
    (codes "E ") (decimal e.interval_kg) (codes " kg MAX ") (decimal e.max_kg) (line (codes " kg SERIAL ") e.serial) (line (codes "DIGEST ") e.digest)
    c.push_str.ensures.bytes interval c.push_str-2.ensures.bytes max serial shown
