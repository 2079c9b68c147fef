use Rattle.std.proofs.Common.{◌≡◌, ◌∙◌, sym}
use Rattle.wb_office.proofs.Common.{finding_in, Sound, tickets_csv}
use Rattle.wb_office.proofs.export_answers.tickets_if_sound.Goals as goal

pub returns-in-Sound-clause-tells : goal.returns-in-Sound-clause-tells
returns-in-Sound-clause-tells c = λ rising plain.
    let sound : finding_in c.args.entries.now ≡ Sound c.in-Sound.field-0 = sym (c.in_ok-finding_of.ensures rising) ∙ c.in-Sound.is in
    rw sound (c.exported.ensures.tells (tickets_csv c.args.entries.now) (c.tickets_text-text.ensures rising) plain)
