-- Which fault is found before a form is read, and what is read of it.
use Rattle.std.proofs.Common.{◌≡◌, ℕ, List, [], ◌∷◌, length, take, codes, Option, Some, None, Bool, true, false, Result, Ok, Err, refl, sym, ◌∙◌, ap, subst, cond, nat_lt, bytes_eq}
use Rattle.std.specs.Prelude.{◌&&◌, ◌||◌, not, is_none, if◌then◌else◌}
use Rattle.std.specs.Option.{option_or}
use Rattle.std.specs.Str.Parse.{digits_value}
use Rattle.wb_http.specs.declared.fault.HttpFault.{HttpFault}
use Rattle.wb_http.specs.declared.fault.HttpFault.TheVariants.{Malformed, TooLarge}
use Rattle.wb_http.specs.declared.fault.Method.{Method}
use Rattle.wb_http.specs.declared.fault.Method.TheVariants.{Get, Post}
use Rattle.wb_http.specs.declared.request.Sought.{Sought}
use Rattle.wb_http.specs.declared.routes.Route.{Route}
use Rattle.wb_http.specs.declared.routes.Route.TheVariants.{Check, Indication, JournalCsv, Purge, Ticket, TicketsCsv, Voids, Weighings}
use Rattle.wb_http.specs.BodyLength.{are_wrong, first_number, has_transfer_encoding, is_number_text, lengths}
use Rattle.wb_http.specs.Form.{IsPlain}
use Rattle.wb_http.specs.HttpJudgement.{MayWantMemory, allows, cut_short, first_fault, has_form, malformed_length, no_length, no_route, of_body, of_head, too_large, wrong_method}
use Rattle.wb_http.specs.RequestBytes.{ReadsAs, Received, fields}
use Rattle.wb_http.specs.Routes.{method_of, route_of_target}
use Rattle.wb_http.specs.helpers.LengthSaid.{said}
use Rattle.wb_http.specs.helpers.AskedByHead.{IsDecoded, sought, sought_on, with_length}
use Rattle.wb_http.proofs.judgement.AskedByHead.{first_of, last_mapped, mapped, not_below, not_both, said_with, steps, steps_at}

-- the first fault, by what is known of a head
abbrev pub known_fault : Option Route → Bool → Bool → Bool → List (List ℕ) → Option HttpFault
known_fault o get post encoded vs =
    first_of (is_none o) (allows Get o && not get) (allows Post o && not post)
    (post && (encoded || are_wrong vs)) (post && not (nat_lt 0 (length vs))) (post && nat_lt 1024 (first_number vs))

-- the fault of what is sought
abbrev pub fault_in : Result Sought HttpFault → Option HttpFault
fault_in (Ok s) = None
fault_in (Err fault) = Some fault

-- with the fault of a body that is cut short
abbrev pub fault_with : Result Sought HttpFault → List ℕ → Option HttpFault
fault_with (Ok s) rest = cond (nat_lt (length rest) s.length) (Some Malformed) None
fault_with (Err fault) rest = Some fault

one_length : (route : Route) (text rest : List ℕ) (number large : Bool)
    → option_or (first_of false false false (not number) false large) (cond (nat_lt (length rest) (digits_value 10 text)) (Some Malformed) None)
    ≡ fault_with (with_length route (if number then (if large then Err TooLarge else Ok (digits_value 10 text)) else Err Malformed)) rest
one_length route text rest false large = refl
one_length route text rest true true = refl
one_length route text rest true false = refl

posted : (route : Route) (encoded : Bool) (vs : List (List ℕ)) (rest : List ℕ)
    → option_or (first_of false false false (encoded || are_wrong vs) (not (nat_lt 0 (length vs))) (nat_lt 1024 (first_number vs))) (cond (nat_lt (length rest) (first_number vs)) (Some Malformed) None)
    ≡ fault_with (with_length route (said_with encoded vs)) rest
posted route true vs rest = refl
posted route false [] rest = refl
posted route false (one ∷ []) rest = one_length route one rest (is_number_text one) (nat_lt 1024 (digits_value 10 one))
posted route false (one ∷ two ∷ more) rest = refl

by_method : (m : Method) (route : Route) → method_of route ≡ m → (get post encoded : Bool) (vs : List (List ℕ)) (rest : List ℕ) → (get ≡ true → post ≡ false)
    → option_or (known_fault (Some route) get post encoded vs) (cond (post && nat_lt (length rest) (first_number vs)) (Some Malformed) None)
    ≡ fault_with (steps m route get post (said_with encoded vs)) rest
by_method Post route m get false encoded vs rest other = rw m refl
by_method Post route m get true encoded vs rest other = rw m (posted route encoded vs rest)
by_method Get route m false post encoded vs rest other = rw m refl
by_method Get route m true true encoded vs rest other = cc (other refl)
by_method Get route m true false encoded vs rest other = rw (m, not_below (length rest)) refl

by_option : (o : Option Route) (method rest : List ℕ) (encoded : Bool) (vs : List (List ℕ))
    → option_or (known_fault o (bytes_eq method (codes "GET")) (bytes_eq method (codes "POST")) encoded vs) (cond (bytes_eq method (codes "POST") && nat_lt (length rest) (first_number vs)) (Some Malformed) None)
    ≡ fault_with (sought_on o method (said_with encoded vs)) rest
by_option None method rest encoded vs = refl
by_option (Some route) method rest encoded vs =
    by_method (method_of route) route refl _ _ encoded vs rest (not_both method)
    ∙ ap (λ (s : Result Sought HttpFault). fault_with s rest) (steps_at (method_of route) route method (said_with encoded vs))

pub fault_by_steps : (x : Received) → option_or (first_fault of_head x) (first_fault of_body x) ≡ fault_with (sought x) x.rest
fault_by_steps x =
    ap (λ (o : Option HttpFault). option_or o (first_fault of_body x)) (mapped x (no_route x) (wrong_method Get x) (wrong_method Post x) (malformed_length x) (no_length x) (too_large x))
    ∙ ap (option_or (first_of (no_route x) (wrong_method Get x) (wrong_method Post x) (malformed_length x) (no_length x) (too_large x))) (last_mapped (cut_short x))
    ∙ by_option (route_of_target x.head.target) x.head.method x.rest (has_transfer_encoding x) (lengths x)

-- ---- a form

has_post : (route : Route) → has_form route ≡ true → method_of route ≡ Post
has_post Weighings e = refl
has_post Voids e = refl
has_post Purge e = cc e
has_post Ticket e = cc e
has_post Indication e = cc e
has_post JournalCsv e = cc e
has_post TicketsCsv e = cc e
has_post Check e = cc e

-- what is sought has the route and, for a form, the length
record IsSoughtOf (o : Option Route) (encoded : Bool) (vs : List (List ℕ)) (s : Sought) : Type 0 where
  route : o ≡ Some s.route
  length : has_form s.route ≡ true → first_number vs ≡ s.length

same_length : (encoded : Bool) (vs : List (List ℕ)) (n : ℕ) → said_with encoded vs ≡ Ok n → first_number vs ≡ n
same_length true vs n e = cc e
same_length false [] n e = cc e
same_length false (one ∷ []) n e = by (is_number_text one) (nat_lt 1024 (digits_value 10 one)) e
  where
    by : (b d : Bool) → (if b then (if d then Err TooLarge else Ok (digits_value 10 one)) else Err Malformed) ≡ Ok n → digits_value 10 one ≡ n
    by true true e = cc e
    by true false e = cc e
    by false d e = cc e
same_length false (one ∷ two ∷ more) n e = cc e

with_said : (route : Route) (r : Result ℕ HttpFault) (s : Sought) → with_length route r ≡ Ok s → (route ≡ s.route) × (r ≡ Ok s.length)
with_said route (Ok n) s e = let h : record { route = route; length = n } ≡ s = cc e in (ap (λ (k : Sought). k.route) h, ap (λ (k : Sought). Ok k.length) h)
with_said route (Err fault) s e = cc e

sought_of : (m : Method) (route : Route) → method_of route ≡ m → (get post encoded : Bool) (vs : List (List ℕ)) (s : Sought)
    → steps m route get post (said_with encoded vs) ≡ Ok s → IsSoughtOf (Some route) encoded vs s
sought_of Get route m true post encoded vs s e =
    let h : record { route = route; length = 0 } ≡ s = cc e in
    let same : route ≡ s.route = ap (λ (k : Sought). k.route) h in
    record { route = ap Some same; length = λ f. let bad = sym m ∙ ap method_of same ∙ has_post s.route f in cc bad }
sought_of Get route m false post encoded vs s e = cc e
sought_of Post route m get true encoded vs s e =
    let h = with_said route (said_with encoded vs) s e in
    record { route = ap Some h.0; length = λ f. same_length encoded vs s.length h.1 }
sought_of Post route m get false encoded vs s e = cc e

sought_on_of : (o : Option Route) (method : List ℕ) (encoded : Bool) (vs : List (List ℕ)) (s : Sought)
    → sought_on o method (said_with encoded vs) ≡ Ok s → IsSoughtOf o encoded vs s
sought_on_of None method encoded vs s e = cc e
sought_on_of (Some route) method encoded vs s e =
    sought_of (method_of route) route refl _ _ encoded vs s (steps_at (method_of route) route method (said_with encoded vs) ∙ e)

wants : (bytes : List ℕ) (x : Received) (r : Result Sought HttpFault) → ReadsAs bytes x → sought x ≡ r → IsDecoded r x.rest → MayWantMemory bytes
wants bytes x (Err fault) reads e d = absurd d
wants bytes x (Ok s) reads e d =
    let of = sought_on_of (route_of_target x.head.target) x.head.method (has_transfer_encoding x) (lengths x) s e in
    record {
      received = x;
      reads = reads;
      passed = fault_by_steps x ∙ ap (λ (k : Result Sought HttpFault). fault_with k x.rest) e ∙ (rw d.whole refl);
      route = s.route;
      target = of.route;
      form = d.form;
      encoded = subst (λ (n : ℕ). ¬ (IsPlain (take n x.rest))) (sym (of.length d.form)) d.encoded;
    }

pub wanted : (bytes : List ℕ) (x : Received) (method target rest : List ℕ) (ps : List (List ℕ × List ℕ)) → ReadsAs bytes x
    → method ≡ x.head.method → target ≡ x.head.target → ps ≡ fields x → rest ≡ x.rest
    → IsDecoded (sought_on (route_of_target target) method (said ps)) rest → MayWantMemory bytes
wanted bytes x method target rest ps reads m t p r d = wants bytes x (sought x) reads refl (subst (λ (k : List ℕ). IsDecoded (sought x) k) r (subst (λ (k : Result Sought HttpFault). IsDecoded k rest) same d))
  where
    same : sought_on (route_of_target target) method (said ps) ≡ sought x
    same = ap (λ (w : List ℕ). sought_on (route_of_target w) method (said ps)) t ∙ ap (λ (w : List ℕ). sought_on (route_of_target x.head.target) w (said ps)) m
        ∙ ap (λ (w : List (List ℕ × List ℕ)). sought_on (route_of_target x.head.target) x.head.method (said w)) p
