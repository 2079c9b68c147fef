-- What a history makes of a station: the events of its terminal, the entries and the spent keys, and what it puts out at each place.
use Rattle.std.specs.Prelude.{◌≡◌, ℕ, true, false, List, [], ◌∷◌, ◌++◌, if◌then◌else◌, Result, Ok, Err}
use Rattle.wb_instrument.specs.Setup.{Setup}
use Rattle.wb_journal.specs.declared.entry.EntryParts.{EntryParts}
use Rattle.wb_messages.specs.declared.request.Request.{Request}
use Rattle.wb_office.specs.Situation.{Situation}
use Rattle.wb_office.specs.Wanted.{Wanted, IsWanted}
use Rattle.wb_scale.specs.History.{moments}
use Rattle.wb_sics.specs.Calls.{calls}
use Rattle.wb_sics.specs.declared.reply.Reply.{Reply}
use Rattle.wb_sics.specs.Event as terminal
use Rattle.wb_sics.specs.Event.{TerminalEvent}
use Rattle.wb_sics.specs.Replies.{replies}
use Rattle.wb_sics.specs.ReplyText.{reply_bytes}
use Rattle.wb_tables.specs.Rows.{SpentKey}
use Rattle.wb_http.specs.declared.fault.HttpFault.{HttpFault}
use Rattle.wb_http.specs.declared.fault.HttpFault.TheVariants.{Memory}
use Rattle.wb_messages.specs.Happening.{Happening, reading, byte, hang_up, office}
use Rattle.wb_http.specs.HttpJudgement.{IsJudged}
use Rattle.wb_http.specs.Response.{IsDateOf, ResponseContent, response_text, response_to_fault, response_to_result}

-- the events of the terminal, the newest first, and the two lists of the store
pub record Account : Type 0 where
  pub terminal : List TerminalEvent
  pub entries : List EntryParts
  pub spent : List SpentKey

-- at the opening: nothing has come to the terminal
abbrev pub opened : List EntryParts → List SpentKey → Account
opened entries spent = record { terminal = []; entries = entries; spent = spent }

-- what is put out: the replies of the terminal, the response of the office, or nothing
pub data Out : Type 0 where
  replied : List Reply → Out
  responded : List ℕ → Out
  nothing : Out

abbrev pub bytes_of_replies : List Reply → List ℕ
bytes_of_replies [] = []
bytes_of_replies (reply ∷ more) = reply_bytes reply ++ bytes_of_replies more

abbrev pub bytes_of_out : Out → List ℕ
bytes_of_out (replied rs) = bytes_of_replies rs
bytes_of_out (responded bytes) = bytes
bytes_of_out nothing = []

-- something comes to the terminal
abbrev pub hears : TerminalEvent → Account → Account
hears e a = record { terminal = e ∷ a.terminal; entries = a.entries; spent = a.spent }

-- what the office is asked on, at a moment
abbrev pub situation_at : Setup → ℕ → Account → Situation
situation_at s at a = record { setup = s; history = moments s (calls s a.terminal); entries = a.entries; spent = a.spent; at = at }

-- what a request leaves; a stored weighing comes to the terminal too
abbrev pub account_left : Wanted → Account → Account
account_left want a =
    record { terminal = if want.marks then terminal.stored ∷ a.terminal else a.terminal; entries = want.entries; spent = want.spent }

-- the response at a moment
abbrev pub IsResponseOut : ℕ → ResponseContent → Out → Type 0
IsResponseOut at content out = (date : List ℕ) × IsDateOf at date × (out ≡ responded (response_text content date))

-- what comes of a request: of a fault of HTTP nothing but its response; else what the office answers, and what it leaves
abbrev pub ComesOf : Setup → ℕ → Result Request HttpFault → Account → Account → Out → Type 0
ComesOf s at (Err fault) before after out = (after ≡ before) × IsResponseOut at (response_to_fault fault) out
ComesOf s at (Ok request) before after out =
    (want : Wanted) × IsWanted request (situation_at s at before) want × (after ≡ account_left want before) × IsResponseOut at (response_to_result request want.answer) out

-- what comes of a happening: the account after it, and what is put out; a request that counts as never made is answered 503
abbrev pub Comes : Setup → Happening → Account → Account → Out → Type 0
Comes s (reading r) before after out = (after ≡ hears (terminal.reading r) before) × (out ≡ replied (replies s (terminal.reading r ∷ before.terminal)))
Comes s (byte b) before after out = (after ≡ hears (terminal.byte b) before) × (out ≡ replied (replies s (terminal.byte b ∷ before.terminal)))
Comes s hang_up before after out = (after ≡ hears terminal.hang_up before) × (out ≡ nothing)
Comes s (office at bytes true) before after out = (after ≡ before) × IsResponseOut at (response_to_fault Memory) out
Comes s (office at bytes false) before after out = (r : Result Request HttpFault) × IsJudged bytes r × ComesOf s at r before after out

-- the account of a history that began with this one
abbrev pub IsAccount : Setup → Account → List Happening → Account → Type 0
IsAccount s opening [] a = a ≡ opening
IsAccount s opening (p ∷ h) a = (before : Account) × IsAccount s opening h before × ((out : Out) × Comes s p before a out)

-- what is put out at the newest happening
abbrev pub IsOut : Setup → Account → Happening → List Happening → Out → Type 0
IsOut s opening p h out = (before : Account) × IsAccount s opening h before × ((after : Account) × Comes s p before after out)
