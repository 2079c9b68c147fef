-- The routes of the office.
use Rattle.std.specs.Prelude.{ℕ, Bool, true, false, ◌&&◌, ◌==◌, not, nat_lt, nat_le, List, [], ◌∷◌, bytes_eq, codes, drop, length, take, if◌then◌else◌, Option, Some, None}
use Rattle.std.specs.List.{before_first, list_any}
use Rattle.wb_input.specs.Digits.{numeral_value}
use Rattle.wb_http.specs.declared.fault.Method.{Method}
use Rattle.wb_http.specs.declared.fault.Method.TheVariants.{Get, Post}
use Rattle.wb_http.specs.declared.routes.Route.{Route}
use Rattle.wb_http.specs.declared.routes.Route.TheVariants.{Check, Indication, JournalCsv, Purge, Ticket, TicketsCsv, Voids, Weighings}

-- the routes without a number, each by its path
abbrev pub fixed_routes : List (List ℕ × Route)
fixed_routes =
    (codes "/weighings", Weighings) ∷ (codes "/voids", Voids) ∷ (codes "/purge", Purge) ∷ (codes "/indication", Indication)
    ∷ (codes "/journal.csv", JournalCsv) ∷ (codes "/tickets.csv", TicketsCsv) ∷ (codes "/check", Check) ∷ []

-- the route of the path in such a list
abbrev pub fixed_route : List (List ℕ × Route) → List ℕ → Option Route
fixed_route [] path = None
fixed_route ((fixed, route) ∷ rest) path = if bytes_eq path fixed then Some route else fixed_route rest path

-- one or more bytes, none of them a slash
abbrev pub is_segment : List ℕ → Bool
is_segment text = nat_lt 0 (length text) && not (list_any (λ b. b == 47) text)

-- `/tickets/` and a segment
abbrev pub is_ticket_path : List ℕ → Bool
is_ticket_path path = bytes_eq (take 9 path) (codes "/tickets/") && is_segment (drop 9 path)

-- the route of a path
abbrev pub route_of_path : List ℕ → Option Route
route_of_path path = if is_ticket_path path then Some Ticket else fixed_route fixed_routes path

-- the path of a target: what comes before its first `?`
abbrev pub path_of_target : List ℕ → List ℕ
path_of_target target = before_first (λ b. b == 63) target

-- the route of a target, which isn't percent-decoded
abbrev pub route_of_target : List ℕ → Option Route
route_of_target target = route_of_path (path_of_target target)

-- the route's method
abbrev pub method_of : Route → Method
method_of Weighings = Post
method_of Voids = Post
method_of Purge = Post
method_of Ticket = Get
method_of Indication = Get
method_of JournalCsv = Get
method_of TicketsCsv = Get
method_of Check = Get

abbrev pub same_method : Method → Method → Bool
same_method Get Get = true
same_method Get Post = false
same_method Post Get = false
same_method Post Post = true

abbrev pub method_text : Method → List ℕ
method_text Get = codes "GET"
method_text Post = codes "POST"

-- no ticket has the number 0: it stands for every text that isn't a number of an entry
abbrev pub number_or_zero : Option ℕ → ℕ
number_or_zero None = 0
number_or_zero (Some number) = if nat_le number 4294967295 then number else 0

-- the number of a ticket's path: 1 to 10 digits, up to the greatest number of an entry
abbrev pub number_of_ticket_path : List ℕ → ℕ
number_of_ticket_path path = number_or_zero (numeral_value 10 (drop 9 path))
