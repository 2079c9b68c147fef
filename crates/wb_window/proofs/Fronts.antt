-- The first of the candidates is the greatest load, or the least.
use Rattle.std.proofs.Common.{◌≡◌, ℕ, suc, ◌<◌, Bool, true, false, cond, List, [], ◌∷◌, ◌++◌, length, replicate, Some, None, inl, inr, refl, sym, subst, ap, ℤ, ◌≤ℤ◌, arith}
use Rattle.std.proofs.lemmas.Int.{ints}
use Rattle.std.specs.List.{filter, slice_get}
use Rattle.wb_window.proofs.Entering.{NoneBeyond, Falling, Falling-candidates}
use Rattle.wb_window.proofs.Order.{stays_itself, beyond_later, further}
use Rattle.wb_window.proofs.Spread.{Within, Reached, Spread, agree-lost}
use Rattle.wb_window.specs.helpers.Candidates.{stays, candidates}
use Rattle.wb_window.specs.helpers.Queues.{lost_of}
use Rattle.wb_window.specs.Stability.{are_near}
use Rattle.wb_window.specs.declared.candidates.Extreme.{Extreme}
use Rattle.wb_window.specs.declared.candidates.Extreme.TheVariants.{Greatest, Least}
use Rattle.wb_window.specs.declared.reading.Reading.{Reading}
use Rattle.wb_window.specs.declared.reading.Reading.TheVariants.{Load, Lost}

-- no load of the readings lies beyond this one
abbrev pub Bounds : Extreme → ℤ → List Reading → Type 0
Bounds extreme first [] = Unit {0}
Bounds extreme first (Load load ∷ older) = (stays extreme load first ≡ true) × Bounds extreme first older
Bounds extreme first (Lost ∷ older) = Bounds extreme first older

-- none is a load
abbrev pub NoLoads : List Reading → Type 0
NoLoads [] = Unit {0}
NoLoads (Load load ∷ older) = ⊥
NoLoads (Lost ∷ older) = NoLoads older

-- the first of the candidates is a load that bounds the others, or there is no load
abbrev pub Fronts : Extreme → List Reading → List ℤ → Type 0
Fronts extreme readings [] = NoLoads readings
Fronts extreme readings (first ∷ loads) = Reached first readings × Bounds extreme first readings

Bounds-none : (extreme : Extreme) (load : ℤ) (readings : List Reading) → NoLoads readings → Bounds extreme load readings
Bounds-none extreme load [] n = tt
Bounds-none extreme load (Load other ∷ older) n = absurd n
Bounds-none extreme load (Lost ∷ older) n = Bounds-none extreme load older n

Bounds-further : (extreme : Extreme) (new first : ℤ) (readings : List Reading) → stays extreme new first ≡ false → Bounds extreme first readings → Bounds extreme new readings
Bounds-further extreme new first [] f b = tt
Bounds-further extreme new first (Load load ∷ older) f b = (further extreme new first load f b.0, Bounds-further extreme new first older f b.1)
Bounds-further extreme new first (Lost ∷ older) f b = Bounds-further extreme new first older f b

filter-none : (extreme : Extreme) (new first : ℤ) (loads : List ℤ) → stays extreme new first ≡ false → NoneBeyond extreme first loads → filter (stays extreme new) loads ≡ []
filter-none extreme new first [] f n = refl
filter-none extreme new first (load ∷ loads) f n =
    let gone : stays extreme new load ≡ false = beyond_later extreme new load first f n.0 in
    rw gone (filter-none extreme new first loads f n.1)

Fronts-enter : (extreme : Extreme) (new : ℤ) (older : List Reading) (loads : List ℤ) → Falling extreme loads → Fronts extreme older loads → Fronts extreme (Load new ∷ older) (filter (stays extreme new) loads ++ new ∷ [])
Fronts-enter extreme new older [] f k = (inl refl, (stays_itself extreme new, Bounds-none extreme new older k))
Fronts-enter extreme new older (first ∷ loads) f k = on (stays extreme new first) refl
  where
    on : (s : Bool) → stays extreme new first ≡ s → Fronts extreme (Load new ∷ older) (cond s (first ∷ filter (stays extreme new) loads) (filter (stays extreme new) loads) ++ new ∷ [])
    on true e = (inr k.0, (e, k.1))
    on false e =
        subst (λ kept. Fronts extreme (Load new ∷ older) (kept ++ new ∷ [])) (sym (filter-none extreme new first loads e f.0))
        (inl refl, (stays_itself extreme new, Bounds-further extreme new first older e k.1))

Fronts-lost : (extreme : Extreme) (older : List Reading) (loads : List ℤ) → Fronts extreme older loads → Fronts extreme (Lost ∷ older) loads
Fronts-lost extreme older [] k = k
Fronts-lost extreme older (first ∷ loads) k = (inr k.0, k.1)

Fronts-candidates : (extreme : Extreme) (readings : List Reading) → Fronts extreme readings (candidates extreme readings)
Fronts-candidates extreme [] = tt
Fronts-candidates extreme (Load load ∷ older) =
    Fronts-enter extreme load older (candidates extreme older) (Falling-candidates extreme older) (Fronts-candidates extreme older)
Fronts-candidates extreme (Lost ∷ older) = Fronts-lost extreme older (candidates extreme older) (Fronts-candidates extreme older)

front_at : (extreme : Extreme) (readings : List Reading) (first : ℤ) → slice_get (candidates extreme readings) 0 ≡ Some first → Reached first readings × Bounds extreme first readings
front_at extreme readings first e = on (candidates extreme readings) (Fronts-candidates extreme readings) e
  where
    on : (loads : List ℤ) → Fronts extreme readings loads → slice_get loads 0 ≡ Some first → Reached first readings × Bounds extreme first readings
    on [] k n = cc
    on (load ∷ loads) k s = let same : load ≡ first = cc in subst (λ v. Reached v readings × Bounds extreme v readings) same k

Within-bounds : (least greatest : ℤ) (readings : List Reading) → lost_of readings ≡ 0 → Bounds Least least readings → Bounds Greatest greatest readings → Within least greatest readings
Within-bounds least greatest [] n l g = tt
Within-bounds least greatest (Load load ∷ older) n l g = (above least load l.0, below load greatest g.0, Within-bounds least greatest older n l.1 g.1)
  where
    above : (a b : ℤ) → stays Least b a ≡ true → a ≤ℤ b
    above a b s = grind (arith, ints)

    below : (a b : ℤ) → stays Greatest a b ≡ true → a ≤ℤ b
    below a b s = grind (arith, ints)
Within-bounds least greatest (Lost ∷ older) n l g = absurd (omega (arith, n))

pub Spread-fronts : (least greatest : ℤ) (readings : List Reading) → lost_of readings ≡ 0 → slice_get (candidates Least readings) 0 ≡ Some least → slice_get (candidates Greatest readings) 0 ≡ Some greatest
    → Spread least greatest readings
Spread-fronts least greatest readings n l g =
    let low = front_at Least readings least l in
    let high = front_at Greatest readings greatest g in
    record { within = Within-bounds least greatest readings n low.1 high.1; ends = inr (low.0, high.0) }

-- without lost readings and without loads there is nothing
none_held : (readings : List Reading) → lost_of readings ≡ 0 → NoLoads readings → readings ≡ []
none_held [] n k = refl
none_held (Load load ∷ older) n k = absurd k
none_held (Lost ∷ older) n k = absurd (omega (arith, n))

pub agree-none : (extreme : Extreme) (band : ℕ) (readings : List Reading) → lost_of readings ≡ 0 → slice_get (candidates extreme readings) 0 ≡ None → are_near band readings ≡ true
agree-none extreme band readings n e =
    let loads = on (candidates extreme readings) (Fronts-candidates extreme readings) e in
    rw (none_held readings n loads) refl
  where
    on : (loads : List ℤ) → Fronts extreme readings loads → slice_get loads 0 ≡ None → NoLoads readings
    on [] k s = k
    on (load ∷ loads) k s = cc

lost_place : (readings : List Reading) → 0 < lost_of readings → (i : ℕ) × (slice_get readings i ≡ Some Lost)
lost_place [] l = absurd (omega (arith, l))
lost_place (Load load ∷ older) l = let place = lost_place older l in (suc place.0, place.1)
lost_place (Lost ∷ older) l = (0, refl)

pub agree-any_lost : (band : ℕ) (readings : List Reading) → 0 < lost_of readings → are_near band readings ≡ false
agree-any_lost band readings l = let place = lost_place readings l in agree-lost band readings place.0 place.1

-- between a load and itself there is that load alone
within_one : (load : ℤ) (readings : List Reading) → Within load load readings → readings ≡ replicate (length readings) (Load load)
within_one load [] w = refl
within_one load (Load other ∷ older) w =
    let same : other ≡ load = grind (arith, ints) in
    rw same (ap (λ rest. Load load ∷ rest) (within_one load older w.2))
within_one load (Lost ∷ older) w = absurd w

-- where the greatest load is also the least, all are that load
pub all_same : (load : ℤ) (readings : List Reading) → lost_of readings ≡ 0 → slice_get (candidates Greatest readings) 0 ≡ Some load → slice_get (candidates Least readings) 0 ≡ Some load
    → readings ≡ replicate (length readings) (Load load)
all_same load readings n g l = within_one load readings (Spread-fronts load load readings n l g).within
