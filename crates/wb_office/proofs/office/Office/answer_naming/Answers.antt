use Rattle.std.proofs.Common.{sym, refl, ap, ◌∙◌}
use Rattle.wb_office.proofs.Common.{text_of_indication}
use Rattle.wb_journal.specs.declared.kind.Kind.TheVariants as kind
use Rattle.wb_messages.specs.declared.request.Request.TheVariants as request
use Rattle.wb_office.proofs.Serving.{serves_weighing}
use Rattle.wb_office.proofs.office.Office.answer_naming.Goals as goal

pub returns-in-Weigh-clause-serves : goal.returns-in-Weigh-clause-serves
returns-in-Weigh-clause-serves g c = λ asks.
    rw (sym c.self.view_is, c.in-Weigh.is)
    (serves_weighing g.D.Store (record { at = c.args.at; key = c.in-Weigh.key; kind = c.in-Weigh.kind; plate = c.in-Weigh.plate }) (request.Weigh c.in-Weigh.key c.in-Weigh.kind c.in-Weigh.plate)
    (λ w b. refl) (λ w. tt) c.answer_weighing.ensures.serves)

pub returns-in-VoidOpen-clause-serves : goal.returns-in-VoidOpen-clause-serves
returns-in-VoidOpen-clause-serves g c = λ asks.
    rw (sym c.self.view_is, c.in-VoidOpen.is)
    (serves_weighing g.D.Store (record { at = c.args.at; key = c.in-VoidOpen.key; kind = kind.Void; plate = c.in-VoidOpen.plate }) (request.VoidOpen c.in-VoidOpen.key c.in-VoidOpen.plate)
    (λ w b. refl) (λ w. tt) c.answer_weighing-in-VoidOpen.ensures.serves)

pub returns-in-Ticket-clause-serves : goal.returns-in-Ticket-clause-serves
returns-in-Ticket-clause-serves g c = λ asks. rw (sym c.self.view_is, c.in-Ticket.is) (c.answer_ticket.ensures c.args.scale.now c.args.at)

pub returns-in-JournalCsv-clause-serves : goal.returns-in-JournalCsv-clause-serves
returns-in-JournalCsv-clause-serves g c = λ asks. rw (sym c.self.view_is, c.in-JournalCsv.is) (c.answer_journal.ensures c.args.scale.now c.args.at)

pub returns-in-TicketsCsv-clause-serves : goal.returns-in-TicketsCsv-clause-serves
returns-in-TicketsCsv-clause-serves g c = λ asks. rw (sym c.self.view_is, c.in-TicketsCsv.is) (c.answer_tickets.ensures c.args.scale.now c.args.at)

pub returns-in-Purge-clause-serves : goal.returns-in-Purge-clause-serves
returns-in-Purge-clause-serves g c = λ asks. rw (sym c.self.view_is, c.in-Purge.is) (c.answer_purge.ensures c.args.scale.now (sym c.instrument-in-Purge.ensures.value))

pub returns-in-Check-clause-serves : goal.returns-in-Check-clause-serves
returns-in-Check-clause-serves g c = λ asks. rw (sym c.self.view_is, c.in-Check.is) (c.answer_check.ensures c.args.scale.now c.args.at)

pub returns-in-Indication-clause-outright : goal.returns-in-Indication-clause-outright
returns-in-Indication-clause-outright g c = λ asks.
    rw c.in-Indication.is (
      refl,
      refl,
      (
        c.indication_text.result.bytes,
        refl,
        λ calls stood. c.indication_text.ensures ∙ ap (λ s. text_of_indication s c.indicated.result) c.instrument.ensures.value
            ∙ ap (text_of_indication c.args.scale.now.setup) (c.indicated.ensures.value calls stood),
      ),
    )
