-- What the router finds of a path is the route of the path.
use Rattle.std.proofs.Common.{◌≡◌, ℕ, suc, ◌<◌, List, [], ◌∷◌, ◌++◌, length, codes, Some, None, Bool, false, true, refl, sym, ◌∙◌, ap, subst, inl, inr, arith, get_or, take, drop, bytes_eq, cond, nat_lt, Fits, w8}
use Rattle.std.specs.Prelude.{◌||◌, not, ◌==◌}
use Rattle.std.specs.List.{list_any}
use Rattle.std.proofs.lemmas.Bool.Decides.{nat_tests}
use Rattle.std.proofs.lemmas.List.{take-append-drop}
use Rattle.std.proofs.lemmas.Slice.Eq.{bytes_eq-Decides}
use Rattle.matchit.specs.Router.{RouteOf}
use Rattle.matchit.specs.Seek.{first, has_slash}
use Rattle.matchit.proofs.OnLiterals.{matchit_on_literals}
use Rattle.wb_http.specs.Router.{table, ticket_pattern}
use Rattle.wb_http.specs.Routes.{fixed_route, fixed_routes, is_segment, is_ticket_path, route_of_path}
use Rattle.wb_http.specs.declared.routes.Route.{Route}
use Rattle.wb_http.specs.declared.routes.Route.TheVariants.{Ticket}
use Rattle.wb_http.proofs.judgement.PatternRows.{Bytes, Hit, Simple, both, down_all, fits-param, fits-plain, not_true, seek-param, sound}

fits_byte : (n : ℕ) → Fits w8 n → n < 256
fits_byte n h = h.fits

bytes_from : (p : List ℕ) → ((i : ℕ) → get_or p i 0 < 256) → Bytes p
bytes_from [] h = tt
bytes_from (b ∷ p) h = (h 0, bytes_from p (λ i. h (suc i)))

pub bytes_of : (p : List ℕ) → ((i : ℕ) → Fits w8 (get_or p i 0)) → Bytes p
bytes_of p h = bytes_from p (λ i. fits_byte _ (h i))

bytes_after : (w n : List ℕ) → Bytes (w ++ n) → Bytes n
bytes_after [] n y = y
bytes_after (x ∷ w) n y = bytes_after w n y.1

slash_any : (n : List ℕ) → list_any (λ b. b == 47) n ≡ has_slash n
slash_any [] = refl
slash_any (b ∷ n) = by (b == 47) (slash_any n)
  where
    by : (v : Bool) → list_any (λ c. c == 47) n ≡ has_slash n → (v || list_any (λ c. c == 47) n) ≡ cond v true (has_slash n)
    by true e = refl
    by false e = e

simple_table : Simple table
simple_table = (refl, (refl, (refl, (refl, (refl, (refl, (refl, (refl, tt))))))))

segment : (n : List ℕ) → 0 < length n → has_slash n ≡ false → is_segment n ≡ true
segment n l s =
    let some : nat_lt 0 (length n) ≡ true = grind (arith, nat_tests, l) in
    rw (some, slash_any n, s) refl

ticket_route : (path n : List ℕ) → path ≡ codes "/tickets/" ++ n → 0 < length n → has_slash n ≡ false → route_of_path path ≡ Some Ticket
ticket_route path n e l s = rw (e, segment n l s) refl

-- a row that fits the path has its route
pub route_of_hit : (row : RouteOf Route) (path : List ℕ) → Hit row table path → route_of_path path ≡ Some row.value
route_of_hit row path h = let P : RouteOf Route → Type 0 = λ r. route_of_path path ≡ Some r.value in
    elim h [
      | inl y ↦ subst P y.0 (rw (fits-plain (codes "/check") path refl y.1) refl)
      | inr (inl y) ↦ subst P y.0 (rw (fits-plain (codes "/indication") path refl y.1) refl)
      | inr (inr (inl y)) ↦ subst P y.0 (rw (fits-plain (codes "/journal.csv") path refl y.1) refl)
      | inr (inr (inr (inl y))) ↦ subst P y.0 (rw (fits-plain (codes "/purge") path refl y.1) refl)
      | inr (inr (inr (inr (inl y)))) ↦ subst P y.0 (rw (fits-plain (codes "/tickets.csv") path refl y.1) refl)
      | inr (inr (inr (inr (inr (inl y))))) ↦ subst P y.0 (let n = fits-param (codes "/tickets/") path refl y.1 in ticket_route path n.0 n.1 n.2 n.3)
      | inr (inr (inr (inr (inr (inr (inl y)))))) ↦ subst P y.0 (rw (fits-plain (codes "/voids") path refl y.1) refl)
      | inr (inr (inr (inr (inr (inr (inr (inl y))))))) ↦ subst P y.0 (rw (fits-plain (codes "/weighings") path refl y.1) refl)
      | inr (inr (inr (inr (inr (inr (inr (inr y))))))) ↦ absurd y
    ]

pub found : (path : List ℕ) (row : RouteOf Route) → Bytes path → first table path ≡ Some row → route_of_path path ≡ Some row.value
found path row y e = route_of_hit row path (sound path table row simple_table y e)

-- ---- no route

ticket : RouteOf Route
ticket = record { pattern = ticket_pattern; text = codes "/tickets/{number}"; names = (10, 16) ∷ []; value = Ticket }

ticket_found : (n : List ℕ) → Bytes n → 0 < length n → has_slash n ≡ false → first table (codes "/tickets/" ++ n) ≡ Some ticket
unfolding ticket
ticket_found [] y l s = let bad : ⊥ = omega (arith, l) in absurd bad
ticket_found (b ∷ p) y l s = down_all (codes "/tickets/") table (b ∷ p) ticket simple_table refl (seek-param ticket b p y.0 s)

no_ticket : (path : List ℕ) → Bytes path → first table path ≡ None → is_ticket_path path ≡ true → ⊥
no_ticket path y e t =
    let parts = both (bytes_eq (take 9 path) (codes "/tickets/")) (is_segment (drop 9 path)) t in
    let text = both (nat_lt 0 (length (drop 9 path))) (not (list_any (λ b. b == 47) (drop 9 path))) parts.1 in
    let some = text.0 in
    let more : 0 < length (drop 9 path) = grind (arith, nat_tests, some) in
    let clear = sym (slash_any (drop 9 path)) ∙ not_true (list_any (λ b. b == 47) (drop 9 path)) text.1 in
    let front = (bytes_eq-Decides (take 9 path) (codes "/tickets/")).0 parts.0 in
    let whole : path ≡ codes "/tickets/" ++ drop 9 path = sym (take-append-drop 9 path) ∙ ap (λ w. w ++ drop 9 path) front in
    let rest = bytes_after (codes "/tickets/") (drop 9 path) (subst Bytes whole y) in
    let there = ticket_found (drop 9 path) rest more clear in
    let both_ways = sym there ∙ sym (ap (first table) whole) ∙ e in cc both_ways

-- the router finds each of these paths
abbrev AreFound : List (List ℕ × Route) → Type 0
AreFound [] = Unit {0}
AreFound ((fixed, route) ∷ rest) = ((first table fixed ≡ None) → ⊥) × AreFound rest

not_fixed : (rows : List (List ℕ × Route)) (path : List ℕ) → AreFound rows → first table path ≡ None → fixed_route rows path ≡ None
not_fixed [] path h e = refl
not_fixed ((fixed, route) ∷ rest) path h e = by (bytes_eq path fixed) refl (not_fixed rest path h.1 e)
  where
    by : (v : Bool) → bytes_eq path fixed ≡ v → fixed_route rest path ≡ None → fixed_route ((fixed, route) ∷ rest) path ≡ None
    by true d more = absurd (h.0 (sym (ap (first table) ((bytes_eq-Decides path fixed).0 d)) ∙ e))
    by false d more = rw d more

fixed_found : AreFound fixed_routes
unfolding matchit_on_literals
fixed_found = ((λ e. cc e), ((λ e. cc e), ((λ e. cc e), ((λ e. cc e), ((λ e. cc e), ((λ e. cc e), ((λ e. cc e), tt)))))))

pub missing : (path : List ℕ) → Bytes path → first table path ≡ None → route_of_path path ≡ None
missing path y e = by (is_ticket_path path) refl
  where
    by : (v : Bool) → is_ticket_path path ≡ v → route_of_path path ≡ None
    by true d = absurd (no_ticket path y e d)
    by false d = rw d (not_fixed fixed_routes path fixed_found e)
