use Rattle.std.proofs.Common.{◌/◌, ◌%◌}
use Rattle.std.specs.Prelude.{codes}
use Rattle.wb_journal.specs.Texts.{date_text, two_digits}
use Rattle.wb_journal.proofs.Appends.{append-six}
use Rattle.wb_journal.proofs.moment_text.push_date.Goals as goal

pub returns-clause-bytes : goal.returns-clause-bytes
unfolding date_text
returns-clause-bytes c =
    let at = c.args.at.now in
    append-six c.args.text.now.bytes c.push_two.new.text.bytes c.push_two-2.new.text.bytes c.push_str.new.self.bytes c.push_two-3.new.text.bytes
    c.push_str-2.new.self.bytes c.push_two-4.new.text.bytes (two_digits (at.year / 100)) (two_digits (at.year % 100)) (codes "-") (two_digits at.month)
    (codes "-") (two_digits at.day) c.push_two.ensures.bytes c.push_two-2.ensures.bytes c.push_str.ensures.bytes c.push_two-3.ensures.bytes
    c.push_str-2.ensures.bytes c.push_two-4.ensures.bytes
