-- How a request's bytes are judged: of the faults in their order the first that holds answers; else what is asked.
use Rattle.std.specs.Prelude.{◌≡◌, ℕ, Bool, true, false, ◌&&◌, ◌||◌, not, nat_lt, List, [], ◌∷◌, bytes_eq, find, length, if◌then◌else◌, Option, Some, None, is_none, option_map, ok_or, Result, Err}
use Rattle.std.specs.Option.{option_and_then, option_or}
use Rattle.wb_messages.specs.declared.request.Request.{Request}
use Rattle.wb_messages.specs.declared.request.Request.TheVariants as request
use Rattle.wb_http.specs.declared.fault.HttpFault.{HttpFault}
use Rattle.wb_http.specs.declared.fault.HttpFault.TheVariants.{BadField, HeadTooLarge, Malformed, NoLength, NoRoute, TooLarge, WrongMethod}
use Rattle.wb_http.specs.declared.fault.Method.{Method}
use Rattle.wb_http.specs.declared.fault.Method.TheVariants.{Get, Post}
use Rattle.wb_http.specs.declared.routes.Route.{Route}
use Rattle.wb_http.specs.declared.routes.Route.TheVariants.{Check, Indication, JournalCsv, Purge, Ticket, TicketsCsv, Voids, Weighings}
use Rattle.wb_http.specs.BodyLength.{are_wrong, body_of, has_transfer_encoding, length_of, lengths}
use Rattle.wb_http.specs.Form.{IsPlain, void_in, weighing_in}
use Rattle.wb_http.specs.RequestBytes.{IsRead, ReadsAs, Received, is_post}
use Rattle.wb_http.specs.Routes.{method_of, method_text, path_of_target, route_of_target, same_method, number_of_ticket_path}

-- ---- without a head

-- 1: of more than 8,192 bytes; 2: of not more
abbrev pub fault_without_head : List ℕ → HttpFault
fault_without_head bytes = if nat_lt 8192 (length bytes) then HeadTooLarge else Malformed

-- ---- with a head

-- 3: the target is no route
abbrev pub no_route : Received → Bool
no_route x = is_none (route_of_target x.head.target)

abbrev pub allows : Method → Option Route → Bool
allows method None = false
allows method (Some route) = same_method method (method_of route)

-- 4: the route has this method, and the request another
abbrev pub wrong_method : Method → Received → Bool
wrong_method method x = allows method (route_of_target x.head.target) && not (bytes_eq x.head.method (method_text method))

-- 5: a POST with a Transfer-Encoding, or with two or more lengths, or with one that isn't a number
abbrev pub malformed_length : Received → Bool
malformed_length x = is_post x && (has_transfer_encoding x || are_wrong (lengths x))

-- 6: a POST without a length
abbrev pub no_length : Received → Bool
no_length x = is_post x && not (nat_lt 0 (length (lengths x)))

-- 7: a POST with a length over 1,024
abbrev pub too_large : Received → Bool
too_large x = is_post x && nat_lt 1024 (length_of x)

-- 8: a POST with fewer bytes after the head than its length
abbrev pub cut_short : Received → Bool
cut_short x = is_post x && nat_lt (length x.rest) (length_of x)

-- a fault, with the condition on which it comes
pub record FaultCondition : Type 0 where
  pub fault : HttpFault
  pub holds : Received → Bool

abbrev pub fault_on : (Received → Bool) → HttpFault → FaultCondition
fault_on holds fault = record { fault = fault; holds = holds }

-- the conditions on a head, in the order in which they are judged
abbrev pub of_head : List FaultCondition
of_head =
    fault_on no_route NoRoute ∷ fault_on (wrong_method Get) (WrongMethod Get) ∷ fault_on (wrong_method Post) (WrongMethod Post)
    ∷ fault_on malformed_length Malformed ∷ fault_on no_length NoLength ∷ fault_on too_large TooLarge ∷ []

-- the condition on what follows the head
abbrev pub of_body : List FaultCondition
of_body = fault_on cut_short Malformed ∷ []

-- the fault of the first condition that holds
abbrev pub first_fault : List FaultCondition → Received → Option HttpFault
first_fault conditions x = option_map (λ c. c.fault) (find (λ c. c.holds x) conditions)

-- what a body and a target ask by a route: of a form that lacks a field, or has one that isn't valid, nothing
abbrev pub asked_by : List ℕ → List ℕ → Route → Option Request
asked_by body target Weighings = weighing_in body
asked_by body target Voids = void_in body
asked_by body target Purge = Some request.Purge
asked_by body target Ticket = Some (request.Ticket (number_of_ticket_path (path_of_target target)))
asked_by body target Indication = Some request.Indication
asked_by body target JournalCsv = Some request.JournalCsv
asked_by body target TicketsCsv = Some request.TicketsCsv
asked_by body target Check = Some request.Check

abbrev pub request_asked : Received → Option Request
request_asked x = option_and_then (asked_by (body_of x) x.head.target) (route_of_target x.head.target)

-- 9: no fault, and nothing is asked
abbrev pub unless_faulty : Option HttpFault → Option Request → Result Request HttpFault
unless_faulty (Some fault) request = Err fault
unless_faulty None request = ok_or request BadField

-- ---- the judgement

abbrev pub judgement_of : Received → Result Request HttpFault
judgement_of x = unless_faulty (option_or (first_fault of_head x) (first_fault of_body x)) (request_asked x)

-- the judgement of bytes of which this is read
abbrev pub judgement : List ℕ → Option Received → Result Request HttpFault
judgement bytes None = Err (fault_without_head bytes)
judgement bytes (Some x) = judgement_of x

-- the bytes are judged so
abbrev pub IsJudged : List ℕ → Result Request HttpFault → Type 0
IsJudged bytes result = (x : Option Received) × IsRead bytes x × (result ≡ judgement bytes x)

-- ---- memory

-- a route whose request is asked for by the fields of a form
abbrev pub has_form : Route → Bool
has_form Weighings = true
has_form Voids = true
has_form Purge = false
has_form Ticket = false
has_form Indication = false
has_form JournalCsv = false
has_form TicketsCsv = false
has_form Check = false

-- memory is asked for a form alone, after all other faults, and only if something in it is to be decoded
pub record MayWantMemory (bytes : List ℕ) : Type 0 where
  pub received : Received
  pub reads : ReadsAs bytes received
  pub passed : option_or (first_fault of_head received) (first_fault of_body received) ≡ None
  pub route : Route
  pub target : route_of_target received.head.target ≡ Some route
  pub form : has_form route ≡ true
  pub encoded : ¬ (IsPlain (body_of received))
