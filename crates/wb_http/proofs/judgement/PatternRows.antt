-- Which rows a path can match, where a parameter stands only at a route's end.
use Rattle.std.proofs.Common.{◌≡◌, ℕ, zero, suc, ◌-◌, ◌<◌, List, [], ◌∷◌, ◌++◌, length, Option, Some, None, Bool, true, false, cond, refl, sym, ap, ◌∙◌, arith, ◌==◌, inl, inr}
use Rattle.std.specs.Prelude.{◌⊎◌, ◌&&◌, not, ltb}
use Rattle.std.proofs.lemmas.Bool.Decides.{nat_tests}
use Rattle.matchit.specs.Rows.{RowsOf}
use Rattle.matchit.specs.Seek.{own, step, or_else, seek, first, param_step, has_slash, longest_from, segment}

abbrev pub is_nil : {A : Type 0} → List A → Bool
is_nil [] = true
is_nil (x ∷ xs) = false

-- the pattern is this path, where a last parameter takes the rest of its segment
abbrev pub fits : List ℕ → List ℕ → Bool
fits [] [] = true
fits [] (b ∷ p) = false
fits (x ∷ t) [] = false
fits (x ∷ t) (b ∷ p) = cond (x == 256) (is_nil t && not (has_slash (b ∷ p))) ((x == b) && fits t p)

-- bytes, and perhaps a parameter at the end
abbrev pub simple : List ℕ → Bool
simple [] = true
simple (x ∷ t) = cond (x == 256) (is_nil t) (ltb x 256 && simple t)

abbrev pub Bytes : List ℕ → Type 0
Bytes [] = Unit {0}
Bytes (b ∷ p) = (b < 256) × Bytes p

module _ {K : Type 0} where
  abbrev pub Simple : RowsOf K → Type 0
  Simple [] = Unit {0}
  Simple ((t, k) ∷ rest) = (simple t ≡ true) × Simple rest

  abbrev pub AllEnds : RowsOf K → Type 0
  AllEnds [] = Unit {0}
  AllEnds ((t, k) ∷ rest) = (t ≡ []) × AllEnds rest

  -- a row with this value fits the path
  abbrev pub Hit : K → RowsOf K → List ℕ → Type 0
  Hit k [] path = ⊥
  Hit k ((t, j) ∷ rest) path = ((j ≡ k) × (fits t path ≡ true)) ⊎ Hit k rest path

pub nil_from : {A : Type 0} (t : List A) → is_nil t ≡ true → t ≡ []
nil_from [] e = refl
nil_from (x ∷ t) e = cc e

pub seek-nil : {K : Type 0} (n : ℕ) (p : List ℕ) → seek {K = K} n [] p ≡ None
unfolding seek param_step
seek-nil n [] = refl
seek-nil {K} zero (b ∷ p) =
    elim (has_slash (b ∷ p)) as (λ v. or_else {K = K} (seek 0 [] p) (or_else (seek ((cond {A = ℕ × RowsOf K} v (0, []) (length (b ∷ p), [])).0 - 1) (cond {A = ℕ × RowsOf K} v (0, []) (length (b ∷ p), [])).1 p) None) ≡ None) [
      | true ↦ rw (seek-nil {K = K} 0 p) refl
      | false ↦ rw (seek-nil {K = K} 0 p, seek-nil {K = K} (length (b ∷ p) - 1) p) refl
    ]
seek-nil (suc n) (b ∷ p) = seek-nil n p

pub seek-all : {K : Type 0} (rs : RowsOf K) (p : List ℕ) → seek (length p) rs p ≡ own rs
unfolding seek
seek-all rs [] = refl
seek-all rs (b ∷ p) = seek-all rs p

pub longest-ends : {K : Type 0} (seg : List ℕ) (rs : RowsOf K) → AllEnds rs → longest_from seg [] rs ≡ []
longest-ends seg [] h = refl
longest-ends seg ((t, k) ∷ rest) h = rw h.0 (longest-ends seg rest h.1)

pub param-ends : {K : Type 0} (rs : RowsOf K) (path : List ℕ) → AllEnds rs → param_step rs path ≡ cond (has_slash path) (0, []) (length path, rs)
unfolding param_step
param-ends rs path h = rw (longest-ends (segment path) rs h) refl

pub ends-step : {K : Type 0} (rs : RowsOf K) → Simple rs → AllEnds (step 256 rs)
ends-step [] h = tt
ends-step (([], k) ∷ rest) h = ends-step rest h.1
ends-step {K} ((x ∷ t, k) ∷ rest) h = ends-at x t k rest h.0 (ends-step rest h.1) (x == 256) refl
  where
    ends-at : (x : ℕ) (t : List ℕ) (k : K) (rest : RowsOf K) → simple (x ∷ t) ≡ true → AllEnds (step 256 rest) → (v : Bool) → (x == 256) ≡ v → AllEnds (step 256 ((x ∷ t, k) ∷ rest))
    ends-at x t k rest s r true e = rw e ((nil_from t (rw e at s)), r)
    ends-at x t k rest s r false e = rw e r

pub no_catch : {K : Type 0} (rs : RowsOf K) → Simple rs → step 257 rs ≡ []
no_catch [] h = refl
no_catch (([], k) ∷ rest) h = no_catch rest h.1
no_catch {K} ((x ∷ t, k) ∷ rest) h = at x t k rest h.0 (no_catch rest h.1) (x == 256) refl (x == 257) refl
  where
    at : (x : ℕ) (t : List ℕ) (k : K) (rest : RowsOf K) → simple (x ∷ t) ≡ true → step 257 rest ≡ []
        → (v : Bool) → (x == 256) ≡ v → (w : Bool) → (x == 257) ≡ w → step 257 ((x ∷ t, k) ∷ rest) ≡ []
    at x t k rest s r v e false d = rw d r
    at x t k rest s r true e true d = let bad : ⊥ = grind (arith, nat_tests, e, d) in absurd bad
    at x t k rest s r false e true d = let small = rw e at s in let bad : ⊥ = grind (arith, nat_tests, d, small) in absurd bad

pub simple-step : {K : Type 0} (b : ℕ) (rs : RowsOf K) → b < 256 → Simple rs → Simple (step b rs)
simple-step b [] l h = tt
simple-step b (([], k) ∷ rest) l h = simple-step b rest l h.1
simple-step {K} b ((x ∷ t, k) ∷ rest) l h = at x t k rest h.0 (simple-step b rest l h.1) (x == b) refl (x == 256) refl (ltb x 256) refl
  where
    at : (x : ℕ) (t : List ℕ) (k : K) (rest : RowsOf K) → simple (x ∷ t) ≡ true → Simple (step b rest)
        → (v : Bool) → (x == b) ≡ v → (w : Bool) → (x == 256) ≡ w → (u : Bool) → ltb x 256 ≡ u → Simple (step b ((x ∷ t, k) ∷ rest))
    at x t k rest s r false e w d u c = rw e r
    at x t k rest s r true e true d u c = let bad : ⊥ = grind (arith, nat_tests, e, d, l) in absurd bad
    at x t k rest s r true e false d true c = rw e ((rw (d, c) at s), r)
    at x t k rest s r true e false d false c = let bad : false ≡ true = rw (d, c) at s in cc bad

pub seek-cons : {K : Type 0} (rs : RowsOf K) (b : ℕ) (p : List ℕ) → Simple rs
    → seek 0 rs (b ∷ p) ≡ or_else (seek 0 (step b rs) p) (cond (has_slash (b ∷ p)) None (own (step 256 rs)))
unfolding seek
seek-cons {K} rs b p h = rw (param-ends (step 256 rs) (b ∷ p) (ends-step rs h), no_catch rs h) (by (has_slash (b ∷ p)))
  where
    last : (o : Option K) → or_else o None ≡ o
    last None = refl
    last (Some k) = refl

    by : (v : Bool) → or_else (seek 0 (step b rs) p) (or_else (seek ((cond {A = ℕ × RowsOf K} v (0, []) (length (b ∷ p), step 256 rs)).0 - 1) (cond {A = ℕ × RowsOf K} v (0, []) (length (b ∷ p), step 256 rs)).1 p) None)
        ≡ or_else (seek 0 (step b rs) p) (cond v None (own (step 256 rs)))
    by true = rw (seek-nil {K = K} 0 p) refl
    by false = let one : length (b ∷ p) - 1 ≡ length p = omega arith in rw (one, seek-all (step 256 rs) p) (ap (or_else (seek 0 (step b rs) p)) (last _))

pub split_answer : {K : Type 0} (a : Option K) (s : Bool) (o : Option K) (k : K) → or_else a (cond s None o) ≡ Some k
    → (a ≡ Some k) ⊎ ((s ≡ false) × (o ≡ Some k))
split_answer (Some x) s o k e = inl e
split_answer None true o k e = cc e
split_answer None false o k e = inr (refl, e)

pub own-hit : {K : Type 0} (rs : RowsOf K) (k : K) → own rs ≡ Some k → Hit k rs []
own-hit [] k e = cc e
own-hit (([], j) ∷ rest) k e = inl (cc e, refl)
own-hit ((x ∷ t, j) ∷ rest) k e = inr (own-hit rest k e)

pub param-hit : {K : Type 0} (rs : RowsOf K) (k : K) (b : ℕ) (p : List ℕ) → has_slash (b ∷ p) ≡ false → Simple rs
    → own (step 256 rs) ≡ Some k → Hit k rs (b ∷ p)
param-hit [] k b p n h e = cc e
param-hit (([], j) ∷ rest) k b p n h e = inr (param-hit rest k b p n h.1 e)
param-hit {K} ((x ∷ t, j) ∷ rest) k b p n h e = at x t j rest h.0 (λ d. param-hit rest k b p n h.1 d) (x == 256) refl e
  where
    at : (x : ℕ) (t : List ℕ) (j : K) (rest : RowsOf K) → simple (x ∷ t) ≡ true → (own (step 256 rest) ≡ Some k → Hit k rest (b ∷ p))
        → (v : Bool) → (x == 256) ≡ v → own (cond v ((t, j) ∷ step 256 rest) (step 256 rest)) ≡ Some k → Hit k ((x ∷ t, j) ∷ rest) (b ∷ p)
    at x t j rest s r false d e = inr (r e)
    at x [] j rest s r true d e = inl (cc e, rw (d, n) refl)
    at x (y ∷ t) j rest s r true d e = let bad : false ≡ true = rw d at s in cc bad

pub step-hit : {K : Type 0} (rs : RowsOf K) (k : K) (b : ℕ) (p : List ℕ) → b < 256 → Hit k (step b rs) p → Hit k rs (b ∷ p)
step-hit [] k b p l h = h
step-hit (([], j) ∷ rest) k b p l h = inr (step-hit rest k b p l h)
step-hit {K} ((x ∷ t, j) ∷ rest) k b p l h = at (λ y. step-hit rest k b p l y) (x == b) refl (x == 256) refl h
  where
    at : (Hit k (step b rest) p → Hit k rest (b ∷ p)) → (v : Bool) → (x == b) ≡ v → (w : Bool) → (x == 256) ≡ w → Hit k (cond v ((t, j) ∷ step b rest) (step b rest)) p → Hit k ((x ∷ t, j) ∷ rest) (b ∷ p)
    at more false e w d h = inr (more h)
    at more true e true d h = let bad : ⊥ = grind (arith, nat_tests, e, d, l) in absurd bad
    at more true e false d (inl y) = inl (y.0, rw (d, e) y.1)
    at more true e false d (inr y) = inr (more y)

pub sound : {K : Type 0} (path : List ℕ) (rs : RowsOf K) (k : K) → Simple rs → Bytes path → first rs path ≡ Some k → Hit k rs path
unfolding seek
sound [] rs k h y e = own-hit rs k e
sound (b ∷ p) rs k h y e =
    elim (split_answer (seek 0 (step b rs) p) (has_slash (b ∷ p)) (own (step 256 rs)) k (sym (seek-cons rs b p h) ∙ e)) [
      | inl a ↦ step-hit rs k b p y.0 (sound p (step b rs) k (simple-step b rs y.0 h) y.1 a)
      | inr a ↦ param-hit rs k b p a.0 h a.1
    ]

abbrev pub plain_text : List ℕ → Bool
plain_text [] = true
plain_text (x ∷ t) = ltb x 256 && plain_text t

pub both : (a b : Bool) → (a && b) ≡ true → (a ≡ true) × (b ≡ true)
both true true e = (refl, refl)
both true false e = cc e
both false b e = cc e

pub fits-byte : (x b : ℕ) (t p : List ℕ) → ltb x 256 ≡ true → fits (x ∷ t) (b ∷ p) ≡ true → (b ≡ x) × (fits t p ≡ true)
fits-byte x b t p l e =
    let d : (x == 256) ≡ false = grind (arith, nat_tests, l) in
    let parts = both (x == b) (fits t p) (rw d at e) in
    let first = parts.0 in
    let same : b ≡ x = grind (arith, nat_tests, first) in
    (same, parts.1)

pub fits-plain : (t path : List ℕ) → plain_text t ≡ true → fits t path ≡ true → path ≡ t
fits-plain [] [] y e = refl
fits-plain [] (b ∷ p) y e = cc e
fits-plain (x ∷ t) [] y e = cc e
fits-plain (x ∷ t) (b ∷ p) y e =
    let small = both (ltb x 256) (plain_text t) y in
    let here = fits-byte x b t p small.0 e in
    rw (here.0, fits-plain t p small.1 here.1) refl

pub not_true : (v : Bool) → not v ≡ true → v ≡ false
not_true true e = cc e
not_true false e = refl

pub fits-param : (w path : List ℕ) → plain_text w ≡ true → fits (w ++ 256 ∷ []) path ≡ true
    → (n : List ℕ) × (path ≡ w ++ n) × (0 < length n) × (has_slash n ≡ false)
fits-param [] [] y e = cc e
fits-param [] (b ∷ p) y e = (b ∷ p, refl, omega arith, not_true (has_slash (b ∷ p)) e)
fits-param (x ∷ w) [] y e = cc e
fits-param (x ∷ w) (b ∷ p) y e =
    let small = both (ltb x 256) (plain_text w) y in
    let here = fits-byte x b (w ++ 256 ∷ []) p small.0 e in
    let rest = fits-param w p small.1 here.1 in
    (rest.0, ap (λ z. z ∷ p) here.0 ∙ ap (λ q. x ∷ q) rest.1, rest.2, rest.3)

pub down : {K : Type 0} (rs : RowsOf K) (x : ℕ) (p : List ℕ) (k : K) → Simple rs → first (step x rs) p ≡ Some k → first rs (x ∷ p) ≡ Some k
down rs x p k h e = seek-cons rs x p h ∙ rw e refl

-- a lone parameter takes what has no slash
pub seek-param : {K : Type 0} (k : K) (b : ℕ) (p : List ℕ) → b < 256 → has_slash (b ∷ p) ≡ false → first (((256 ∷ [], k)) ∷ []) (b ∷ p) ≡ Some k
seek-param {K} k b p l n =
    let d : (256 == b) ≡ false = grind (arith, nat_tests, l) in
    seek-cons ((256 ∷ [], k) ∷ []) b p (refl, tt) ∙ (rw (d, n, seek-nil {K = K} 0 p) refl)

abbrev pub walks : {K : Type 0} → RowsOf K → List ℕ → RowsOf K
walks rs [] = rs
walks rs (x ∷ w) = walks (step x rs) w

pub down_all : {K : Type 0} (w : List ℕ) (rs : RowsOf K) (path : List ℕ) (k : K) → Simple rs → plain_text w ≡ true
    → first (walks rs w) path ≡ Some k → first rs (w ++ path) ≡ Some k
down_all [] rs path k h y e = e
down_all (x ∷ w) rs path k h y e =
    let small = both (ltb x 256) (plain_text w) y in
    let c = small.0 in
    let l : x < 256 = grind (arith, nat_tests, c) in
    down rs x (w ++ path) k h (down_all w (step x rs) path k (simple-step x rs l h) small.1 e)
