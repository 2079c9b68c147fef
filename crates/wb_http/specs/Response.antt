-- Responses: what is told of an outcome, and its text.
use Rattle.std.specs.Prelude.{◌≡◌, ℕ, Bool, true, false, List, [], ◌++◌, codes, decimal, length, unwrap_or, if◌then◌else◌, Option, Some, None, Result, Ok, Err}
use Rattle.http.specs.StatusCode.{reason_phrase}
use Rattle.httpdate.specs.Date.{date_text, unix_secs}
use Rattle.httpdate.specs.declared.date.HttpDate.{HttpDate}
use Rattle.wb_messages.specs.declared.refusal.Refusal.{Refusal}
use Rattle.wb_messages.specs.declared.refusal.Refusal.TheVariants as refusal
use Rattle.wb_messages.specs.declared.request.Request.{Request}
use Rattle.wb_messages.specs.declared.request.Request.TheVariants as request
use Rattle.wb_messages.specs.Content.{Content, csv_content, damaged_content, purged_content, slip_content, sound_content, text_content, ticket_content}
use Rattle.wb_messages.specs.RefusalText as refusal_text
use Rattle.wb_messages.specs.Content.{content_or_refusal}
use Rattle.wb_http.specs.declared.fault.HttpFault.{HttpFault}
use Rattle.wb_http.specs.declared.fault.HttpFault.TheVariants.{BadField, HeadTooLarge, Malformed, Memory, NoLength, NoRoute, TooLarge, WrongMethod}
use Rattle.wb_http.specs.declared.fault.Method.{Method}
use Rattle.wb_http.specs.declared.outcome.Outcome.{Outcome}
use Rattle.wb_http.specs.declared.outcome.Outcome.TheVariants.{Fault, Office}
use Rattle.wb_http.specs.Faults as fault_text
use Rattle.wb_http.specs.Routes.{method_text}

-- what a response tells
pub record ResponseContent : Type 0 where
  pub status : ℕ
  pub csv : Bool
  pub allow : Option Method
  pub body : List ℕ

-- ---- the body of each outcome, and its status

-- 201 for an accepted or repeated weighing or void, 200 for every other answer
abbrev pub status_of_answer : Request → ℕ
status_of_answer (request.Weigh key kind plate) = 201
status_of_answer (request.VoidOpen key plate) = 201
status_of_answer (request.Ticket number) = 200
status_of_answer request.Indication = 200
status_of_answer request.JournalCsv = 200
status_of_answer request.TicketsCsv = 200
status_of_answer request.Purge = 200
status_of_answer request.Check = 200

abbrev pub status_of_refusal : Refusal → ℕ
status_of_refusal refusal.KeyReused = 409
status_of_refusal refusal.Gone = 410
status_of_refusal refusal.ClockBack = 409
status_of_refusal refusal.NoLoad = 409
status_of_refusal refusal.Overload = 409
status_of_refusal refusal.Underload = 409
status_of_refusal refusal.Unstable = 409
status_of_refusal refusal.BelowMin = 409
status_of_refusal refusal.TareActive = 409
status_of_refusal refusal.NoPreset = 409
status_of_refusal refusal.NotCleared = 409
status_of_refusal refusal.AlreadyOpen = 409
status_of_refusal refusal.NoOpen = 409
status_of_refusal refusal.JournalFull = 409
status_of_refusal (refusal.Store fault) = 503
status_of_refusal refusal.NoTicket = 404
status_of_refusal refusal.Damaged = 409

-- the bytes of an answer
abbrev pub answer_body : Content → List ℕ
answer_body (slip_content text) = text
answer_body (ticket_content text) = text
answer_body (text_content text) = text ++ codes "\n"
answer_body (csv_content text) = text
answer_body (purged_content count) = codes "PURGED " ++ decimal count ++ codes "\n"
answer_body (sound_content count) = codes "SOUND " ++ decimal count ++ codes "\n"
answer_body (damaged_content number) = codes "DAMAGED " ++ decimal number ++ codes "\n"

abbrev pub is_csv : Content → Bool
is_csv (slip_content text) = false
is_csv (ticket_content text) = false
is_csv (text_content text) = false
is_csv (csv_content text) = true
is_csv (purged_content count) = false
is_csv (sound_content count) = false
is_csv (damaged_content number) = false

abbrev pub refused_line_text : ℕ → List ℕ → List ℕ
refused_line_text number name = codes "refused " ++ decimal number ++ codes " " ++ name ++ codes "\n"

abbrev pub fault_line_text : HttpFault → List ℕ
fault_line_text fault = codes "fault " ++ decimal (fault_text.fault_status fault) ++ codes " " ++ fault_text.fault_name fault ++ codes "\n"

-- want of memory is told as the office's refusal for it
abbrev pub fault_body : HttpFault → List ℕ
fault_body HeadTooLarge = fault_line_text HeadTooLarge
fault_body Malformed = fault_line_text Malformed
fault_body NoRoute = fault_line_text NoRoute
fault_body (WrongMethod method) = fault_line_text (WrongMethod method)
fault_body NoLength = fault_line_text NoLength
fault_body TooLarge = fault_line_text TooLarge
fault_body BadField = fault_line_text BadField
fault_body Memory = refused_line_text 15 (codes "store")

-- the method that a route allows
abbrev pub allowed_method : HttpFault → Option Method
allowed_method HeadTooLarge = None
allowed_method Malformed = None
allowed_method NoRoute = None
allowed_method (WrongMethod method) = Some method
allowed_method NoLength = None
allowed_method TooLarge = None
allowed_method BadField = None
allowed_method Memory = None

abbrev pub response_to_answer : ℕ → Content → ResponseContent
response_to_answer status answer = record { status = status; csv = is_csv answer; allow = None; body = answer_body answer }

abbrev pub response_to_result : Request → Result Content Refusal → ResponseContent
response_to_result r (Ok answer) = response_to_answer (status_of_answer r) answer
response_to_result r (Err why) = record { status = status_of_refusal why; csv = false; allow = None; body = refused_line_text (refusal_text.refusal_number why) (refusal_text.refusal_name why) }

abbrev pub response_to_fault : HttpFault → ResponseContent
response_to_fault fault = record { status = fault_text.fault_status fault; csv = false; allow = allowed_method fault; body = fault_body fault }

abbrev pub response_content : Outcome → ResponseContent
response_content (Office request result) = response_to_result request.now (content_or_refusal result.now)
response_content (Fault fault) = response_to_fault fault

-- ---- the text of a response

-- the phrase of a status, as `http` gives it
abbrev pub phrase_of_status : ℕ → List ℕ
phrase_of_status status = unwrap_or (reason_phrase status) []

-- the date of a moment, as `httpdate` writes it
abbrev pub IsDateOf : ℕ → List ℕ → Type 0
IsDateOf moment text = (date : HttpDate) × (unix_secs date ≡ moment) × (text ≡ date_text date)

abbrev pub media_type_text : Bool → List ℕ
media_type_text csv = if csv then codes "text/csv; charset=utf-8" else codes "text/plain; charset=utf-8"

abbrev pub allow_line_text : Option Method → List ℕ
allow_line_text None = []
allow_line_text (Some method) = codes "Allow: " ++ method_text method ++ codes "\r\n"

unfoldable pub status_line : ℕ → List ℕ
status_line status = codes "HTTP/1.1 " ++ decimal status ++ codes " " ++ phrase_of_status status ++ codes "\r\n"

unfoldable pub type_lines : Bool → List ℕ → List ℕ
type_lines csv date = codes "Date: " ++ date ++ codes "\r\nContent-Type: " ++ media_type_text csv ++ codes "\r\n"

unfoldable pub length_lines : ℕ → Option Method → List ℕ
length_lines size allow = codes "Content-Length: " ++ decimal size ++ codes "\r\n" ++ allow_line_text allow ++ codes "Connection: close\r\n\r\n"

unfoldable pub response_text : ResponseContent → List ℕ → List ℕ
response_text t date = status_line t.status ++ type_lines t.csv date ++ length_lines (length t.body) t.allow ++ t.body

-- an export, which alone may be longer than the room from the start
abbrev pub is_export : Result Content Refusal → Bool
is_export (Ok answer) = is_csv answer
is_export (Err why) = false

abbrev pub has_export : Outcome → Bool
has_export (Office request result) = is_export (content_or_refusal result.now)
has_export (Fault fault) = false

-- the response to an outcome at a moment
abbrev pub IsResponse : ℕ → Outcome → List ℕ → Type 0
IsResponse moment outcome bytes = (date : List ℕ) × IsDateOf moment date × (bytes ≡ response_text (response_content outcome) date)

-- an outcome at a moment has one response
abbrev pub OneResponse : Type 0
OneResponse = (moment : ℕ) (outcome : Outcome) (a b : List ℕ) → IsResponse moment outcome a → IsResponse moment outcome b → a ≡ b
