use Rattle.std.proofs.Common.{◌∙◌, ap, refl}
use Rattle.wb_office.proofs.Common.{tickets_answer, IsWanted, wanted}
use Rattle.wb_messages.specs.declared.request.Request.TheVariants as request
use Rattle.wb_office.proofs.LookUps.{reads}
use Rattle.wb_office.proofs.Serving.{handed_on, stop_serves, told_serves}
use Rattle.wb_office.proofs.export_answers.answer_tickets.Goals as goal

pub returns : goal.returns
returns g c = λ scale at.
    let l = c.in_ok-entries.ensures in
    told_serves g.D.Store at (IsWanted request.TicketsCsv) scale c.tickets_if_sound.result (reads g.D.Store l.keeps l.closes) c.tickets_if_sound.ensures.memory (λ plain w n s h.
    let items = c.deref.ensures.value ∙ l.found w.entries w.spent s h in
    record {
      want = wanted request.TicketsCsv w 0;
      is = record { bound = 0; is_bound = tt; is = refl };
      entries = refl;
      spent = refl;
      marks = refl;
      told_is = c.tickets_if_sound.ensures.tells (rw items s.rests.holds.lists.rising) plain ∙ ap tickets_answer items;
    })

pub returns-in_err-entries : goal.returns-in_err-entries
returns-in_err-entries g c = λ scale at.
    let l = c.in_err-entries.ensures in
    rw (handed_on c.from_residual.result _ c.from_residual.ensures.1) (stop_serves g.D.Store at (IsWanted request.TicketsCsv) scale _ (reads g.D.Store l.keeps l.closes))
