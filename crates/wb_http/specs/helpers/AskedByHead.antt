-- What a head asks, step by step: its route, and how many bytes the body has.
use Rattle.std.specs.Prelude.{◌≡◌, ℕ, Bool, true, false, not, nat_lt, List, bytes_eq, length, take, if◌then◌else◌, Option, Some, None, ok_or, Result, Ok, Err}
use Rattle.wb_messages.specs.declared.request.Request.{Request}
use Rattle.wb_http.specs.declared.fault.HttpFault.{HttpFault}
use Rattle.wb_http.specs.declared.fault.HttpFault.TheVariants.{BadField, Malformed, NoRoute, WrongMethod}
use Rattle.wb_http.specs.declared.fault.Method.{Method}
use Rattle.wb_http.specs.declared.fault.Method.TheVariants.{Get, Post}
use Rattle.wb_http.specs.declared.head.Head.{Head}
use Rattle.wb_http.specs.declared.request.Sought.{Sought}
use Rattle.wb_http.specs.declared.routes.Route.{Route}
use Rattle.wb_http.specs.Form.{IsPlain}
use Rattle.wb_http.specs.HttpJudgement.{asked_by, has_form}
use Rattle.wb_http.specs.RequestBytes.{Received, fields}
use Rattle.wb_http.specs.Routes.{method_of, method_text, route_of_target}
use Rattle.wb_http.specs.helpers.LengthSaid.{pairs, said}

abbrev pub with_length : Route → Result ℕ HttpFault → Result Sought HttpFault
with_length route (Ok number) = Ok (record { route = route; length = number })
with_length route (Err fault) = Err fault

-- a GET has no body
abbrev pub sought_with : Method → Route → Result ℕ HttpFault → Result Sought HttpFault
sought_with Get route length = Ok (record { route = route; length = 0 })
sought_with Post route length = with_length route length

abbrev pub sought_at : Method → Route → List ℕ → Result ℕ HttpFault → Result Sought HttpFault
sought_at allowed route method length =
    if bytes_eq method (method_text allowed) then sought_with allowed route length else Err (WrongMethod allowed)

-- what is sought by a method on a route, with this length
abbrev pub sought_on : Option Route → List ℕ → Result ℕ HttpFault → Result Sought HttpFault
sought_on None method length = Err NoRoute
sought_on (Some route) method length = sought_at (method_of route) route method length

abbrev pub sought : Received → Result Sought HttpFault
sought x = sought_on (route_of_target x.head.target) x.head.method (said (fields x))

-- the same of a head that is given by its parts
abbrev pub sought_in : Head → Result Sought HttpFault
sought_in h = sought_on (route_of_target h.target.now) h.method.now (said (pairs h))

-- the answer to what is sought, of a target and what follows the head
abbrev pub answer_to_sought : Sought → List ℕ → List ℕ → Result Request HttpFault
answer_to_sought s target rest =
    if nat_lt (length rest) s.length then Err Malformed else ok_or (asked_by (take s.length rest) target s.route) BadField

abbrev pub answered_by : Result Sought HttpFault → List ℕ → List ℕ → Result Request HttpFault
answered_by (Ok s) target rest = answer_to_sought s target rest
answered_by (Err fault) target rest = Err fault

-- nothing of it is cut short
abbrev pub whole_by : Result Sought HttpFault → List ℕ → Bool
whole_by (Ok s) rest = not (nat_lt (length rest) s.length)
whole_by (Err fault) rest = true

-- a form whose bytes all came, and that has something to decode
pub record IsFormToDecode (s : Sought) (rest : List ℕ) : Type 0 where
  pub form : has_form s.route ≡ true
  pub whole : nat_lt (length rest) s.length ≡ false
  pub encoded : ¬ (IsPlain (take s.length rest))

-- what is sought is such a form
abbrev pub IsDecoded : Result Sought HttpFault → List ℕ → Type 0
IsDecoded (Ok s) rest = IsFormToDecode s rest
IsDecoded (Err fault) rest = ⊥
