-- What is sought step by step is what the judgement says.
use Rattle.std.proofs.Common.{◌≡◌, ℕ, List, [], ◌∷◌, length, take, codes, Option, Some, None, Bool, true, false, Result, Ok, Err, refl, sym, ◌∙◌, ap, cond, nat_lt, bytes_eq, arith}
use Rattle.std.specs.Prelude.{◌&&◌, ◌||◌, not, is_none, option_map, if◌then◌else◌}
use Rattle.std.specs.Option.{option_and_then, option_or}
use Rattle.std.specs.Str.Parse.{digits_value}
use Rattle.std.proofs.lemmas.Bool.Decides.{nat_tests}
use Rattle.std.proofs.lemmas.Slice.Eq.{bytes_eq-Decides}
use Rattle.wb_messages.specs.declared.request.Request.{Request}
use Rattle.wb_http.specs.declared.fault.HttpFault.{HttpFault}
use Rattle.wb_http.specs.declared.fault.HttpFault.TheVariants.{Malformed, NoLength, NoRoute, TooLarge, WrongMethod}
use Rattle.wb_http.specs.declared.fault.Method.{Method}
use Rattle.wb_http.specs.declared.fault.Method.TheVariants.{Get, Post}
use Rattle.wb_http.specs.declared.request.Sought.{Sought}
use Rattle.wb_http.specs.declared.routes.Route.{Route}
use Rattle.wb_http.specs.declared.routes.Route.TheVariants.{Check, Indication, JournalCsv, Purge, Ticket, TicketsCsv, Voids, Weighings}
use Rattle.wb_http.specs.BodyLength.{are_wrong, first_number, has_transfer_encoding, is_number_text, lengths}
use Rattle.wb_http.specs.HttpJudgement.{FaultCondition, allows, asked_by, cut_short, fault_on, first_fault, judgement_of, malformed_length, no_length, no_route, of_body, request_asked, too_large, unless_faulty, wrong_method}
use Rattle.wb_http.specs.RequestBytes.{Received, fields}
use Rattle.wb_http.specs.Routes.{method_of, route_of_target}
use Rattle.wb_http.specs.helpers.LengthSaid.{said, said_values}
use Rattle.wb_http.specs.helpers.AskedByHead.{answer_to_sought, answered_by, sought, sought_at, sought_on, with_length}

-- the first fault of a head, by what its conditions say
abbrev pub first_of : Bool → Bool → Bool → Bool → Bool → Bool → Option HttpFault
first_of a b c d e f =
    cond a (Some NoRoute) (cond b (Some (WrongMethod Get)) (cond c (Some (WrongMethod Post))
    (cond d (Some Malformed) (cond e (Some NoLength) (cond f (Some TooLarge) None)))))

abbrev pub said_with : Bool → List (List ℕ) → Result ℕ HttpFault
said_with encoded vs = if encoded then Err Malformed else said_values vs

-- the judgement, by what is known of a head
abbrev known : Option Route → Bool → Bool → Bool → List (List ℕ) → List ℕ → List ℕ → Result Request HttpFault
known o get post encoded vs target rest =
    unless_faulty (option_or (first_of (is_none o) (allows Get o && not get) (allows Post o && not post)
    (post && (encoded || are_wrong vs)) (post && not (nat_lt 0 (length vs))) (post && nat_lt 1024 (first_number vs)))
    (cond (post && nat_lt (length rest) (first_number vs)) (Some Malformed) None))
    (option_and_then (asked_by (take (first_number vs) rest) target) o)

-- what is sought, by the same
abbrev pub steps : Method → Route → Bool → Bool → Result ℕ HttpFault → Result Sought HttpFault
steps Get route get post length = if get then Ok (record { route = route; length = 0 }) else Err (WrongMethod Get)
steps Post route get post length = if post then with_length route length else Err (WrongMethod Post)

in_time : (route : Route) (target rest : List ℕ) (n : ℕ) (late : Bool) → nat_lt (length rest) n ≡ late
    → unless_faulty (cond late (Some Malformed) None) (asked_by (take n rest) target route) ≡ answer_to_sought (record { route = route; length = n }) target rest
in_time route target rest n true e = rw e refl
in_time route target rest n false e = rw e refl

one_length : (route : Route) (target rest text : List ℕ) (number large : Bool)
    → unless_faulty (option_or (first_of false false false (not number) false large) (cond (nat_lt (length rest) (digits_value 10 text)) (Some Malformed) None)) (asked_by (take (digits_value 10 text) rest) target route)
    ≡ answered_by (with_length route (if number then (if large then Err TooLarge else Ok (digits_value 10 text)) else Err Malformed)) target rest
one_length route target rest text false large = refl
one_length route target rest text true true = refl
one_length route target rest text true false = in_time route target rest (digits_value 10 text) (nat_lt (length rest) (digits_value 10 text)) refl

posted : (route : Route) (encoded : Bool) (vs : List (List ℕ)) (target rest : List ℕ)
    → unless_faulty (option_or (first_of false false false (encoded || are_wrong vs) (not (nat_lt 0 (length vs))) (nat_lt 1024 (first_number vs)))
    (cond (nat_lt (length rest) (first_number vs)) (Some Malformed) None)) (asked_by (take (first_number vs) rest) target route)
    ≡ answered_by (with_length route (said_with encoded vs)) target rest
posted route true vs target rest = refl
posted route false [] target rest = refl
posted route false (one ∷ []) target rest = one_length route target rest one (is_number_text one) (nat_lt 1024 (digits_value 10 one))
posted route false (one ∷ two ∷ more) target rest = refl

by_post : (route : Route) → method_of route ≡ Post → (get post encoded : Bool) (vs : List (List ℕ)) (target rest : List ℕ)
    → known (Some route) get post encoded vs target rest ≡ answered_by (steps Post route get post (said_with encoded vs)) target rest
by_post route m get false encoded vs target rest = rw m refl
by_post route m get true encoded vs target rest = rw m (posted route encoded vs target rest)

pub not_below : (n : ℕ) → nat_lt n 0 ≡ false
not_below n = grind (arith, nat_tests)

by_get : (route : Route) → method_of route ≡ Get → (get post encoded : Bool) (vs : List (List ℕ)) (target rest : List ℕ) → (get ≡ true → post ≡ false)
    → asked_by (take (first_number vs) rest) target route ≡ asked_by [] target route
    → known (Some route) get post encoded vs target rest ≡ answered_by (steps Get route get post (said_with encoded vs)) target rest
by_get route m false post encoded vs target rest other same = rw m refl
by_get route m true true encoded vs target rest other same = cc (other refl)
by_get route m true false encoded vs target rest other same = rw (m, same, not_below (length rest)) refl

by_route : (route : Route) (get post encoded : Bool) (vs : List (List ℕ)) (target rest : List ℕ) → (get ≡ true → post ≡ false)
    → known (Some route) get post encoded vs target rest ≡ answered_by (steps (method_of route) route get post (said_with encoded vs)) target rest
by_route Weighings get post encoded vs target rest other = by_post Weighings refl get post encoded vs target rest
by_route Voids get post encoded vs target rest other = by_post Voids refl get post encoded vs target rest
by_route Purge get post encoded vs target rest other = by_post Purge refl get post encoded vs target rest
by_route Ticket get post encoded vs target rest other = by_get Ticket refl get post encoded vs target rest other refl
by_route Indication get post encoded vs target rest other = by_get Indication refl get post encoded vs target rest other refl
by_route JournalCsv get post encoded vs target rest other = by_get JournalCsv refl get post encoded vs target rest other refl
by_route TicketsCsv get post encoded vs target rest other = by_get TicketsCsv refl get post encoded vs target rest other refl
by_route Check get post encoded vs target rest other = by_get Check refl get post encoded vs target rest other refl

pub steps_at : (m : Method) (route : Route) (method : List ℕ) (length : Result ℕ HttpFault)
    → steps m route (bytes_eq method (codes "GET")) (bytes_eq method (codes "POST")) length ≡ sought_at m route method length
steps_at Get route method length = refl
steps_at Post route method length = refl

pub not_both : (method : List ℕ) → bytes_eq method (codes "GET") ≡ true → bytes_eq method (codes "POST") ≡ false
not_both method e = rw ((bytes_eq-Decides method (codes "GET")).0 e) refl

by_option : (o : Option Route) (method target rest : List ℕ) (encoded : Bool) (vs : List (List ℕ))
    → known o (bytes_eq method (codes "GET")) (bytes_eq method (codes "POST")) encoded vs target rest
    ≡ answered_by (sought_on o method (said_with encoded vs)) target rest
by_option None method target rest encoded vs = refl
by_option (Some route) method target rest encoded vs =
    by_route route _ _ encoded vs target rest (not_both method)
    ∙ ap (λ (s : Result Sought HttpFault). answered_by s target rest) (steps_at (method_of route) route method (said_with encoded vs))

-- the first fault is the fault of the first condition
pub mapped : (x : Received) (a b c d e f : Bool)
    → option_map (λ (k : FaultCondition). k.fault) (cond a (Some (fault_on no_route NoRoute)) (cond b (Some (fault_on (wrong_method Get) (WrongMethod Get))) (cond c (Some (fault_on (wrong_method Post) (WrongMethod Post)))
    (cond d (Some (fault_on malformed_length Malformed)) (cond e (Some (fault_on no_length NoLength)) (cond f (Some (fault_on too_large TooLarge)) None))))))
    ≡ first_of a b c d e f
mapped x true b c d e f = refl
mapped x false true c d e f = refl
mapped x false false true d e f = refl
mapped x false false false true e f = refl
mapped x false false false false true f = refl
mapped x false false false false false true = refl
mapped x false false false false false false = refl

pub last_mapped : (a : Bool) → option_map (λ (k : FaultCondition). k.fault) (cond a (Some (fault_on cut_short Malformed)) None) ≡ cond a (Some Malformed) None
last_mapped true = refl
last_mapped false = refl

pub judged_by_steps : (x : Received) → judgement_of x ≡ answered_by (sought x) x.head.target x.rest
judged_by_steps x =
    ap (λ (o : Option HttpFault). unless_faulty (option_or o (first_fault of_body x)) (request_asked x))
    (mapped x (no_route x) (wrong_method Get x) (wrong_method Post x) (malformed_length x) (no_length x) (too_large x))
    ∙ ap (λ (o : Option HttpFault). unless_faulty (option_or (first_of (no_route x) (wrong_method Get x) (wrong_method Post x) (malformed_length x) (no_length x) (too_large x)) o) (request_asked x)) (last_mapped (cut_short x))
    ∙ by_option (route_of_target x.head.target) x.head.method x.head.target x.rest (has_transfer_encoding x) (lengths x)

pub judged_by_parts : (x : Received) (method target rest : List ℕ) (ps : List (List ℕ × List ℕ))
    → method ≡ x.head.method → target ≡ x.head.target → ps ≡ fields x → rest ≡ x.rest
    → answered_by (sought_on (route_of_target target) method (said ps)) target rest ≡ judgement_of x
judged_by_parts x method target rest ps m t p r =
    ap (λ (w : List ℕ). answered_by (sought_on (route_of_target w) method (said ps)) w rest) t
    ∙ ap (λ (w : List ℕ). answered_by (sought_on (route_of_target x.head.target) w (said ps)) x.head.target rest) m
    ∙ ap (λ (w : List (List ℕ × List ℕ)). answered_by (sought_on (route_of_target x.head.target) x.head.method (said w)) x.head.target rest) p
    ∙ ap (λ (w : List ℕ). answered_by (sought_on (route_of_target x.head.target) x.head.method (said (fields x))) x.head.target w) r
    ∙ sym (judged_by_steps x)
