use Rattle.std.proofs.Common.{◌∙◌, ap, refl}
use Rattle.wb_office.proofs.Common.{ticket_of, IsWanted, wanted}
use Rattle.wb_messages.specs.declared.request.Request.TheVariants as request
use Rattle.wb_office.proofs.LookUps.{reads}
use Rattle.wb_office.proofs.Serving.{handed_on, read_serves, stop_serves}
use Rattle.wb_office.proofs.tickets.answer_ticket.Goals as goal

pub returns : goal.returns
returns g c = λ scale at.
    let l = c.in_ok-found.ensures in
    read_serves g.D.Store at (IsWanted (request.Ticket c.args.number)) scale c.ticket.result (reads g.D.Store l.keeps l.closes) c.ticket.ensures.plain (λ w n s h.
    let pair = l.found w.entries w.spent s h in
    record {
      want = wanted (request.Ticket c.args.number) w 0;
      is = record { bound = 0; is_bound = tt; is = refl };
      entries = refl;
      spent = refl;
      marks = refl;
      told_is = c.ticket.ensures.value w.entries pair.paired ∙ ap (ticket_of w.entries) pair.entry;
    })

pub returns-in_err-found : goal.returns-in_err-found
returns-in_err-found g c = λ scale at.
    let l = c.in_err-found.ensures in
    rw (handed_on c.from_residual.result _ c.from_residual.ensures.1) (stop_serves g.D.Store at (IsWanted (request.Ticket c.args.number)) scale _ (reads g.D.Store l.keeps l.closes))
