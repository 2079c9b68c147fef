-- What a new load makes of a queue.
use Rattle.circular_buffer.specs.Buffer.{buffer, last_item, keep_last}
use Rattle.std.proofs.Common.{◌≡◌, ℕ, suc, ◌+◌, ◌-◌, ◌<◌, ◌≤◌, Bool, true, false, not, cond, List, [], ◌∷◌, ◌++◌, length, take, drop, Option, Some, None, refl, sym, ◌∙◌, ap, subst, ℤ, append_assoc, length-append, arith}
use Rattle.std.proofs.lemmas.List.{append-nil, take_all}
use Rattle.std.proofs.lemmas.List.Elements.{filter-append}
use Rattle.std.proofs.lemmas.List.Sums.{length-filter, count_by-le-length}
use Rattle.std.proofs.lemmas.Option.{slice_get_within}
use Rattle.std.specs.List.{filter, slice_get}
use Rattle.wb_window.proofs.Order.{stays_on}
use Rattle.wb_window.proofs.Spread.{take_next}
use Rattle.wb_window.specs.helpers.Candidates.{beyond, stays, candidates, queue_of, beyond_last}
use Rattle.wb_window.specs.declared.candidates.Extreme.{Extreme}
use Rattle.wb_window.specs.declared.reading.Reading.{Reading}
use Rattle.wb_window.specs.declared.reading.Reading.TheVariants.{Load, Lost}

-- no later load lies beyond this one
abbrev pub NoneBeyond : Extreme → ℤ → List ℤ → Type 0
NoneBeyond extreme load [] = Unit {0}
NoneBeyond extreme load (later ∷ loads) = (stays extreme later load ≡ true) × NoneBeyond extreme load loads

-- none lies beyond an earlier one
abbrev pub Falling : Extreme → List ℤ → Type 0
Falling extreme [] = Unit {0}
Falling extreme (load ∷ loads) = NoneBeyond extreme load loads × Falling extreme loads

NoneBeyond-enter : (extreme : Extreme) (new load : ℤ) (loads : List ℤ) → stays extreme new load ≡ true → NoneBeyond extreme load loads → NoneBeyond extreme load (filter (stays extreme new) loads ++ new ∷ [])
NoneBeyond-enter extreme new load [] s n = (s, tt)
NoneBeyond-enter extreme new load (later ∷ loads) s n =
    let rest = NoneBeyond-enter extreme new load loads s n.1 in
    elim (stays extreme new later) as (λ b. NoneBeyond extreme load (cond b (later ∷ filter (stays extreme new) loads) (filter (stays extreme new) loads) ++ new ∷ [])) [
      | true ↦ (n.0, rest)
      | false ↦ rest
    ]

Falling-enter : (extreme : Extreme) (new : ℤ) (loads : List ℤ) → Falling extreme loads → Falling extreme (filter (stays extreme new) loads ++ new ∷ [])
Falling-enter extreme new [] f = (tt, tt)
Falling-enter extreme new (load ∷ loads) f = on (stays extreme new load) refl (Falling-enter extreme new loads f.1)
  where
    on : (b : Bool) → stays extreme new load ≡ b → Falling extreme (filter (stays extreme new) loads ++ new ∷ [])
        → Falling extreme (cond b (load ∷ filter (stays extreme new) loads) (filter (stays extreme new) loads) ++ new ∷ [])
    on true s rest = (NoneBeyond-enter extreme new load loads s f.0, rest)
    on false s rest = rest

pub Falling-candidates : (extreme : Extreme) (readings : List Reading) → Falling extreme (candidates extreme readings)
Falling-candidates extreme [] = tt
Falling-candidates extreme (Load load ∷ older) = Falling-enter extreme load (candidates extreme older) (Falling-candidates extreme older)
Falling-candidates extreme (Lost ∷ older) = Falling-candidates extreme older

NoneBeyond-first : (extreme : Extreme) (load : ℤ) (loads gone : List ℤ) → NoneBeyond extreme load (loads ++ gone) → NoneBeyond extreme load loads
NoneBeyond-first extreme load [] gone n = tt
NoneBeyond-first extreme load (later ∷ loads) gone n = (n.0, NoneBeyond-first extreme load loads gone n.1)

Falling-first : (extreme : Extreme) (loads gone : List ℤ) → Falling extreme (loads ++ gone) → Falling extreme loads
Falling-first extreme [] gone f = tt
Falling-first extreme (load ∷ loads) gone f = (NoneBeyond-first extreme load loads gone f.0, Falling-first extreme loads gone f.1)

-- each stays beside the new load
abbrev Stay : Extreme → ℤ → List ℤ → Type 0
Stay extreme new [] = Unit {0}
Stay extreme new (load ∷ loads) = (stays extreme new load ≡ true) × Stay extreme new loads

filter-Stay : (extreme : Extreme) (new : ℤ) (loads : List ℤ) → Stay extreme new loads → filter (stays extreme new) loads ≡ loads
filter-Stay extreme new [] s = refl
filter-Stay extreme new (load ∷ loads) s = rw s.0 (ap (λ rest. load ∷ rest) (filter-Stay extreme new loads s.1))

last_item-next : (first second : ℤ) (loads : List ℤ) → last_item (first ∷ second ∷ loads) ≡ last_item (second ∷ loads)
last_item-next first second loads =
    let more : length (first ∷ second ∷ loads) - 1 ≡ suc (length (second ∷ loads) - 1) = omega arith in
    ap (slice_get (first ∷ second ∷ loads)) more

-- where the last one stays, each does
Stay-last : (extreme : Extreme) (new : ℤ) (loads : List ℤ) → Falling extreme loads → beyond_last extreme new (last_item loads) ≡ false → Stay extreme new loads
Stay-last extreme new [] f e = tt
Stay-last extreme new (load ∷ []) f e = (ap not e, tt)
Stay-last extreme new (load ∷ later ∷ loads) f e =
    let at : beyond_last extreme new (last_item (later ∷ loads)) ≡ false = subst (λ o. beyond_last extreme new o ≡ false) (last_item-next load later loads) e in
    let s : Stay extreme new (later ∷ loads) = Stay-last extreme new (later ∷ loads) f.1 at in
    (stays_on extreme new later load s.0 f.0.0, s)

-- the new load lies beyond each
abbrev Gone : Extreme → ℤ → List ℤ → Type 0
Gone extreme new [] = Unit {0}
Gone extreme new (load ∷ loads) = (beyond extreme new load ≡ true) × Gone extreme new loads

filter-Gone : (extreme : Extreme) (new : ℤ) (loads : List ℤ) → Gone extreme new loads → filter (stays extreme new) loads ≡ []
filter-Gone extreme new [] g = refl
filter-Gone extreme new (load ∷ loads) g = rw g.0 (filter-Gone extreme new loads g.1)

-- what is kept of a queue before a new load, which lies beyond all that were dropped behind it
pub record Kept (extreme : Extreme) (new : ℤ) (all kept : List ℤ) : Type 0 where
  pub dropped : List ℤ
  pub whole : all ≡ kept ++ dropped
  pub gone : Gone extreme new dropped

pub Kept-all : (extreme : Extreme) (new : ℤ) (all : List ℤ) → Kept extreme new all all
Kept-all extreme new all = record { dropped = []; whole = sym (append-nil all); gone = tt }

last_split : (loads : List ℤ) (last : ℤ) → last_item loads ≡ Some last → loads ≡ take (length loads - 1) loads ++ last ∷ []
last_split loads last e =
    let within : length loads - 1 < length loads = slice_get_within loads (length loads - 1) last e in
    let more : length loads ≡ length loads - 1 + 1 = omega arith in
    sym (take_all (length loads - 1 + 1) loads (omega arith)) ∙ take_next loads (length loads - 1) last e

pub Kept-drop : (extreme : Extreme) (new : ℤ) (all kept : List ℤ) → Kept extreme new all kept → beyond_last extreme new (last_item kept) ≡ true → Kept extreme new all (take (length kept - 1) kept)
Kept-drop extreme new all kept k e = on (last_item kept) refl e
  where
    on : (o : Option ℤ) → last_item kept ≡ o → beyond_last extreme new o ≡ true → Kept extreme new all (take (length kept - 1) kept)
    on None n b = cc
    on (Some last) l b =
        record {
          dropped = last ∷ k.dropped;
          whole =
              k.whole ∙ ap (λ loads. loads ++ k.dropped) (last_split kept last l)
              ∙ append_assoc (take (length kept - 1) kept) (last ∷ []) k.dropped;
          gone = (b, k.gone);
        }

pub candidates-enter : (extreme : Extreme) (new : ℤ) (readings : List Reading) (kept : List ℤ) → Kept extreme new (candidates extreme readings) kept → beyond_last extreme new (last_item kept) ≡ false
    → kept ++ new ∷ [] ≡ candidates extreme (Load new ∷ readings)
candidates-enter extreme new readings kept k e =
    let falling : Falling extreme (kept ++ k.dropped) = subst (Falling extreme) k.whole (Falling-candidates extreme readings) in
    let stay : Stay extreme new kept = Stay-last extreme new kept (Falling-first extreme kept k.dropped falling) e in
    let same : filter (stays extreme new) (candidates extreme readings) ≡ kept =
    ap (filter (stays extreme new)) k.whole ∙ filter-append (stays extreme new) kept k.dropped
    ∙ ap (λ loads. filter (stays extreme new) kept ++ loads) (filter-Gone extreme new k.dropped k.gone)
    ∙ append-nil (filter (stays extreme new) kept) ∙ filter-Stay extreme new kept stay in
    ap (λ loads. loads ++ new ∷ []) (sym same)

length-candidates : (extreme : Extreme) (readings : List Reading) → length (candidates extreme readings) ≤ length readings
length-candidates extreme [] = omega arith
length-candidates extreme (Load load ∷ older) =
    let earlier = length-candidates extreme older in
    let some = length-filter (stays extreme load) (candidates extreme older) in
    let most = count_by-le-length (stays extreme load) (candidates extreme older) in
    let one = length-append (filter (stays extreme load) (candidates extreme older)) (load ∷ []) in
    omega arith
length-candidates extreme (Lost ∷ older) = let earlier = length-candidates extreme older in omega arith

length-whole : (n : ℕ) (loads : List ℤ) → length loads ≤ n → keep_last n loads ≡ loads
length-whole n loads within = let none : length loads - n ≡ 0 = omega arith in ap (λ k. drop k loads) none

-- a new load is put behind those that are kept
pub queue_of-enter : (extreme : Extreme) (size : ℕ) (readings : List Reading) (new : ℤ) (all kept : List ℤ) → length readings < size → all ≡ candidates extreme readings
    → Kept extreme new all kept → beyond_last extreme new (last_item kept) ≡ false
    → record { extreme = extreme; loads = buffer (keep_last size (kept ++ new ∷ [])) size } ≡ queue_of extreme size (Load new ∷ readings)
queue_of-enter extreme size readings new all kept room e k b =
    let most : length (candidates extreme readings) ≤ length readings = length-candidates extreme readings in
    let cut : length all ≡ length kept + length k.dropped = ap length k.whole ∙ length-append kept k.dropped in
    let same : length all ≡ length (candidates extreme readings) = ap length e in
    let one : length (kept ++ new ∷ []) ≡ length kept + 1 = length-append kept (new ∷ []) in
    let behind : Kept extreme new (candidates extreme readings) kept = subst (λ loads. Kept extreme new loads kept) e k in
    ap (λ loads. record { extreme = extreme; loads = buffer loads size })
    (length-whole size (kept ++ new ∷ []) (omega arith) ∙ candidates-enter extreme new readings kept behind b)
