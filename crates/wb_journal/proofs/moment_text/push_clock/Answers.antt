use Rattle.std.specs.Prelude.{codes}
use Rattle.wb_journal.specs.Texts.{clock_text, two_digits}
use Rattle.wb_journal.proofs.Appends.{append-five}
use Rattle.wb_journal.proofs.moment_text.push_clock.Goals as goal

pub returns-clause-bytes : goal.returns-clause-bytes
unfolding clock_text
returns-clause-bytes c =
    let at = c.args.at.now in
    append-five c.args.text.now.bytes c.push_two.new.text.bytes c.push_str.new.self.bytes c.push_two-2.new.text.bytes c.push_str-2.new.self.bytes
    c.push_two-3.new.text.bytes (two_digits at.hour) (codes ":") (two_digits at.minute) (codes ":") (two_digits at.second) c.push_two.ensures.bytes
    c.push_str.ensures.bytes c.push_two-2.ensures.bytes c.push_str-2.ensures.bytes c.push_two-3.ensures.bytes
