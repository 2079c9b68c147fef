use Rattle.std.proofs.Common.{◌≡◌, ◌++◌, []}
use Rattle.std.specs.Prelude.{codes}
use Rattle.wb_journal.specs.Civil.{civil}
use Rattle.wb_journal.specs.Texts.{clock_text, date_text, moment_text}
use Rattle.wb_journal.proofs.Appends.{append-three}
use Rattle.wb_journal.proofs.moment_text.text_of_moment.Goals as goal

pub returns-clause-value : goal.returns-clause-value
unfolding moment_text
returns-clause-value c =
    let at = civil c.args.moment in
    let date : c.push_date.new.text.bytes ≡ [] ++ date_text at = rw (c.new-text.ensures, c.in_ok-at.ensures.value) at c.push_date.ensures.bytes in
    let clock : c.push_clock.new.text.bytes ≡ c.push_str.new.self.bytes ++ clock_text at = rw c.in_ok-at.ensures.value at c.push_clock.ensures.bytes in
    append-three [] c.push_date.new.text.bytes c.push_str.new.self.bytes c.push_clock.new.text.bytes (date_text at) (codes " ") (clock_text at)
    date c.push_str.ensures.bytes clock
