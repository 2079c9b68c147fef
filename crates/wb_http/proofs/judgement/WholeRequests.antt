-- Whole requests, and that bytes are read in one way.
use Rattle.std.proofs.Common.{◌≡◌, ℕ, ◌≤◌, List, [], ◌∷◌, ◌++◌, length, take, drop, codes, Option, Some, None, Bool, true, false, Result, Ok, Err, refl, sym, ◌∙◌, ap, subst, cond, nat_lt, bytes_eq, append_assoc, length-append, arith}
use Rattle.std.specs.Prelude.{◌||◌, not, is_some, if◌then◌else◌}
use Rattle.std.specs.Option.{option_or}
use Rattle.std.specs.Str.Parse.{digits_value}
use Rattle.std.proofs.lemmas.Bool.Decides.{nat_tests}
use Rattle.std.proofs.lemmas.List.{take-append-drop, take-append-le}
use Rattle.std.proofs.Math.Seq.{take-append_seam}
use Rattle.httparse.proofs.GrammarLemmas.{request_unique}
use Rattle.httparse.specs.Grammar.{print_request}
use Rattle.wb_http.specs.declared.fault.HttpFault.{HttpFault}
use Rattle.wb_http.specs.declared.fault.HttpFault.TheVariants.{Malformed, TooLarge}
use Rattle.wb_http.specs.declared.fault.Method.{Method}
use Rattle.wb_http.specs.declared.fault.Method.TheVariants.{Get, Post}
use Rattle.wb_http.specs.declared.request.Sought.{Sought}
use Rattle.wb_http.specs.declared.routes.Route.{Route}
use Rattle.wb_http.specs.BodyLength.{are_wrong, first_number, has_transfer_encoding, is_number_text, lengths}
use Rattle.wb_http.specs.HttpJudgement.{IsJudged, cut_short, fault_without_head, first_fault, judgement, judgement_of, malformed_length, no_length, no_route, of_body, of_head, too_large, wrong_method}
use Rattle.wb_http.specs.RequestBytes.{IsRead, ReadsAs, Received, fields}
use Rattle.wb_http.specs.Routes.{method_of, route_of_target}
use Rattle.wb_http.specs.helpers.LengthSaid.{said}
use Rattle.wb_http.specs.helpers.AskedByHead.{answer_to_sought, answered_by, sought, sought_on, whole_by, with_length}
use Rattle.wb_http.specs.WholeRequests.{OneJudgement, WholeStays, is_whole}
use Rattle.wb_http.proofs.judgement.AskedByHead.{first_of, judged_by_steps, last_mapped, mapped, not_both, said_with, steps, steps_at}
use Rattle.wb_http.proofs.judgement.FirstFaults.{fault_by_steps, fault_in, fault_with, known_fault}

-- ---- the fault of a head alone

one_length : (route : Route) (text : List ℕ) (number large : Bool)
    → first_of false false false (not number) false large ≡ fault_in (with_length route (if number then (if large then Err TooLarge else Ok (digits_value 10 text)) else Err Malformed))
one_length route text false large = refl
one_length route text true true = refl
one_length route text true false = refl

posted : (route : Route) (encoded : Bool) (vs : List (List ℕ))
    → first_of false false false (encoded || are_wrong vs) (not (nat_lt 0 (length vs))) (nat_lt 1024 (first_number vs)) ≡ fault_in (with_length route (said_with encoded vs))
posted route true vs = refl
posted route false [] = refl
posted route false (one ∷ []) = one_length route one (is_number_text one) (nat_lt 1024 (digits_value 10 one))
posted route false (one ∷ two ∷ more) = refl

by_method : (m : Method) (route : Route) → method_of route ≡ m → (get post encoded : Bool) (vs : List (List ℕ)) → (get ≡ true → post ≡ false)
    → known_fault (Some route) get post encoded vs ≡ fault_in (steps m route get post (said_with encoded vs))
by_method Post route m get false encoded vs other = rw m refl
by_method Post route m get true encoded vs other = rw m (posted route encoded vs)
by_method Get route m false post encoded vs other = rw m refl
by_method Get route m true true encoded vs other = cc (other refl)
by_method Get route m true false encoded vs other = rw m refl

by_option : (o : Option Route) (method : List ℕ) (encoded : Bool) (vs : List (List ℕ))
    → known_fault o (bytes_eq method (codes "GET")) (bytes_eq method (codes "POST")) encoded vs ≡ fault_in (sought_on o method (said_with encoded vs))
by_option None method encoded vs = refl
by_option (Some route) method encoded vs =
    by_method (method_of route) route refl _ _ encoded vs (not_both method)
    ∙ ap fault_in (steps_at (method_of route) route method (said_with encoded vs))

head_fault : (x : Received) → first_fault of_head x ≡ fault_in (sought x)
head_fault x =
    mapped x (no_route x) (wrong_method Get x) (wrong_method Post x) (malformed_length x) (no_length x) (too_large x)
    ∙ by_option (route_of_target x.head.target) x.head.method (has_transfer_encoding x) (lengths x)

-- ---- whole by steps

same_cut : (a b : Bool) → cond {A = Option HttpFault} a (Some Malformed) None ≡ cond b (Some Malformed) None → a ≡ b
same_cut true true e = refl
same_cut true false e = cc e
same_cut false true e = cc e
same_cut false false e = refl

by_sought : (x : Received) (r : Result Sought HttpFault) → sought x ≡ r → (is_some (first_fault of_head x) || not (cut_short x)) ≡ whole_by r x.rest
by_sought x (Err fault) e = rw (head_fault x, e) refl
by_sought x (Ok s) e =
    let none : first_fault of_head x ≡ None = head_fault x ∙ ap fault_in e in
    let both = ap (λ (o : Option HttpFault). option_or o (first_fault of_body x)) (sym none) ∙ fault_by_steps x ∙ ap (λ (k : Result Sought HttpFault). fault_with k x.rest) e in
    let cut = same_cut (cut_short x) (nat_lt (length x.rest) s.length) (sym (last_mapped (cut_short x)) ∙ both) in
    rw (none, cut) refl

pub whole_by_steps : (bytes : List ℕ) (x : Received) → is_whole bytes (Some x) ≡ whole_by (sought x) x.rest
whole_by_steps bytes x = by_sought x (sought x) refl

-- ---- one reading

pub one_reading : (bytes : List ℕ) (x y : Option Received) → IsRead bytes x → IsRead bytes y → x ≡ y
one_reading bytes None None h k = refl
one_reading bytes None (Some y) h k = absurd (h y k)
one_reading bytes (Some x) None h k = absurd (k x h)
one_reading bytes (Some x) (Some y) h k =
    let same = request_unique bytes x.head y.head x.rest y.rest (h.0.head, h.1) (k.0.head, k.1) in
    λ i. Some (record { head = same.0 i; rest = same.1 i })

pub one_judgement : OneJudgement
one_judgement bytes r s h k = h.2 ∙ ap (judgement bytes) (one_reading bytes h.0 k.0 h.1 k.1) ∙ sym k.2

-- ---- more bytes

longer : (rest more : List ℕ) (n : ℕ) (target : List ℕ) (route : Route) → not (nat_lt (length rest) n) ≡ true
    → answer_to_sought (record { route = route; length = n }) target (rest ++ more) ≡ answer_to_sought (record { route = route; length = n }) target rest
longer rest more n target route e =
    let enough : n ≤ length rest = grind (arith, nat_tests, e) in
    let first : nat_lt (length rest) n ≡ false = grind (arith, nat_tests, enough) in
    let all : nat_lt (length (rest ++ more)) n ≡ false = grind (arith, nat_tests, enough, length-append rest more) in
    rw (all, first, take-append-le n rest more enough) refl

answered_on : (r : Result Sought HttpFault) (target rest more : List ℕ) → whole_by r rest ≡ true → answered_by r target (rest ++ more) ≡ answered_by r target rest
answered_on (Ok s) target rest more e = longer rest more s.length target s.route e
answered_on (Err fault) target rest more e = refl

abbrev followed : Received → List ℕ → Received
followed x more = record { head = x.head; rest = x.rest ++ more }

reads_more : (bytes more : List ℕ) (x : Received) → ReadsAs bytes x → ReadsAs (bytes ++ more) (followed x more)
reads_more bytes more x h = (h.0, ap (λ (b : List ℕ). b ++ more) h.1 ∙ append_assoc (print_request x.head) x.rest more)

judged_more : (x : Received) (more : List ℕ) → whole_by (sought x) x.rest ≡ true → judgement_of x ≡ judgement_of (followed x more)
judged_more x more e = judged_by_steps x ∙ sym (answered_on (sought x) x.head.target x.rest more e) ∙ sym (judged_by_steps (followed x more))

-- a head within the first bytes of more is one of the first bytes
shorter : (text rest bytes more : List ℕ) → bytes ++ more ≡ text ++ rest → length text ≤ length bytes → bytes ≡ text ++ drop (length text) bytes
shorter text rest bytes more e l =
    let front : take (length text) bytes ≡ text =
    sym (take-append-le (length text) bytes more l) ∙ ap (take (length text)) e ∙ take-append_seam text rest in
    sym (take-append-drop (length text) bytes) ∙ ap (λ (w : List ℕ). w ++ drop (length text) bytes) front

no_head_more : (bytes more : List ℕ) → nat_lt 8192 (length bytes) ≡ true → IsRead bytes None → IsRead (bytes ++ more) None
no_head_more bytes more e none = λ (x : Received). λ (h : ReadsAs (bytes ++ more) x).
    let size = h.0.size in
    let within : length (print_request x.head) ≤ length bytes = grind (arith, nat_tests, e, size) in
    none (record { head = x.head; rest = drop (length (print_request x.head)) bytes }) (h.0, shorter (print_request x.head) x.rest bytes more h.1 within)

headless_more : (bytes more : List ℕ) → nat_lt 8192 (length bytes) ≡ true → fault_without_head bytes ≡ fault_without_head (bytes ++ more)
headless_more bytes more e =
    let longer : nat_lt 8192 (length (bytes ++ more)) ≡ true = grind (arith, nat_tests, e, length-append bytes more) in
    rw (e, longer) refl

stays : (bytes more : List ℕ) (x : Option Received) → IsRead bytes x → is_whole bytes x ≡ true → IsJudged (bytes ++ more) (judgement bytes x)
stays bytes more None none e = (None, no_head_more bytes more e none, ap Err (headless_more bytes more e))
stays bytes more (Some x) h e =
    (Some (followed x more), reads_more bytes more x h, judged_more x more (sym (whole_by_steps bytes x) ∙ e))

pub whole_stays : WholeStays
whole_stays bytes more r w j =
    let same : r ≡ judgement bytes w.0 = j.2 ∙ ap (judgement bytes) (one_reading bytes j.0 w.0 j.1 w.1) in
    subst (IsJudged (bytes ++ more)) (sym same) (stays bytes more w.0 w.1 (sym w.2))

-- ---- by the parts of a head

pub whole_by_parts : (x : Received) (method target rest : List ℕ) (ps : List (List ℕ × List ℕ))
    → method ≡ x.head.method → target ≡ x.head.target → ps ≡ fields x → rest ≡ x.rest
    → whole_by (sought_on (route_of_target target) method (said ps)) rest ≡ whole_by (sought x) x.rest
whole_by_parts x method target rest ps m t p r =
    ap (λ (w : List ℕ). whole_by (sought_on (route_of_target w) method (said ps)) rest) t
    ∙ ap (λ (w : List ℕ). whole_by (sought_on (route_of_target x.head.target) w (said ps)) rest) m
    ∙ ap (λ (w : List (List ℕ × List ℕ)). whole_by (sought_on (route_of_target x.head.target) x.head.method (said w)) rest) p
    ∙ ap (whole_by (sought x)) r
