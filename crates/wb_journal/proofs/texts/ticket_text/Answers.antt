use Rattle.std.proofs.Common.{◌≡◌, ◌++◌, []}
use Rattle.std.specs.Option.{option_copied}
use Rattle.std.specs.Prelude.{codes}
use Rattle.wb_journal.specs.Texts.{block, net_line, partner_block, ticket, title}
use Rattle.wb_journal.specs.Net.{net_of_entry}
use Rattle.wb_journal.proofs.Appends.{append-four}
use Rattle.wb_journal.proofs.texts.ticket_text.Goals as goal

pub returns-clause-value : goal.returns-clause-value
unfolding ticket
returns-clause-value c =
    let e = c.args.entry.now in
    let p = option_copied c.args.partner in
    let head : c.push_title.new.text.bytes ≡ [] ++ title (codes "WEIGHING TICKET ") e = rw c.new-text.ensures at c.push_title.ensures.bytes in
    let shown : c.push_net.new.text.bytes ≡ c.push_block.new.text.bytes ++ net_line (net_of_entry e p) = rw c.net.ensures at c.push_net.ensures.bytes in
    append-four [] c.push_title.new.text.bytes c.push_partner.new.text.bytes c.push_block.new.text.bytes c.push_net.new.text.bytes
    (title (codes "WEIGHING TICKET ") e) (partner_block p) (block e) (net_line (net_of_entry e p)) head c.in_ok-push_partner.ensures.bytes c.in_ok-push_block.ensures.bytes shown
