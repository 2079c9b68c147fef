-- What is answered without asking the store.
use Rattle.std.specs.Prelude.{◌≡◌, ℕ, List, Result, Ok, Err}
use Rattle.wb_scale.specs.Call.{Call}
use Rattle.wb_scale.specs.History.{moments}
use Rattle.wb_scale.specs.Indication.{indicated}
use Rattle.wb_scale.specs.Stands.{ScaleStands}
use Rattle.wb_scale.specs.State.{State}
use Rattle.wb_messages.specs.declared.answer.Answer.{Answer}
use Rattle.wb_messages.specs.declared.refusal.Refusal.{Refusal}
use Rattle.wb_messages.specs.declared.refusal.Refusal.TheVariants.{NoTicket}
use Rattle.wb_messages.specs.declared.request.Request.{Request}
use Rattle.wb_messages.specs.declared.request.Request.TheVariants.{Ticket, Indication}
use Rattle.wb_messages.specs.Content.{text_content}
use Rattle.wb_office.specs.Answer.{text_of_indication}
use Rattle.wb_messages.specs.Content.{content_or_refusal}

-- an indication is that of the scale, and no ticket has the number 0; the other requests ask the store
abbrev pub Outright : State → Request → Result Answer Refusal → Type 0
Outright scale (Ticket number) result = result ≡ Err NoTicket
Outright scale Indication result =
    (text : List ℕ) × (content_or_refusal result ≡ Ok (text_content text))
    × ((calls : List Call) → ScaleStands scale calls → text ≡ text_of_indication scale.setup (indicated scale.setup (moments scale.setup calls)))
Outright scale _ result = Unit {0}
