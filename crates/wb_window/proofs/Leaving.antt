-- What a load that goes makes of a queue.
use Rattle.std.proofs.Common.{◌≡◌, ◌≢◌, Bool, true, false, cond, List, [], ◌∷◌, ◌++◌, drop, int_eq, Option, Some, None, ◌⊎◌, inl, inr, refl, sym, ap, subst, ℤ, arith}
use Rattle.std.proofs.lemmas.Int.{ints}
use Rattle.std.specs.List.{filter, slice_get}
use Rattle.std.specs.Option.{option_eq}
use Rattle.wb_window.proofs.Order.{beyond_over, beyond_on, beyond_itself, beyond_of}
use Rattle.wb_window.specs.helpers.Candidates.{beyond, stays, candidates}
use Rattle.wb_window.specs.declared.candidates.Extreme.{Extreme}
use Rattle.wb_window.specs.declared.reading.Reading.{Reading}
use Rattle.wb_window.specs.declared.reading.Reading.TheVariants.{Load, Lost}

-- the first lies beyond a load
abbrev pub FirstBeyond : Extreme → ℤ → List ℤ → Type 0
FirstBeyond extreme load [] = ⊥
FirstBeyond extreme load (first ∷ loads) = beyond extreme first load ≡ true

-- a queue with the oldest load, and one without: it was the first, or another one lies beyond it
abbrev pub Leaves : Extreme → ℤ → List ℤ → List ℤ → Type 0
Leaves extreme oldest with without = (with ≡ oldest ∷ without) ⊎ ((with ≡ without) × FirstBeyond extreme oldest without)

FirstBeyond-enter : (extreme : Extreme) (new oldest : ℤ) (loads : List ℤ) → beyond extreme new oldest ≡ true → FirstBeyond extreme oldest (filter (stays extreme new) loads ++ new ∷ [])
FirstBeyond-enter extreme new oldest [] b = b
FirstBeyond-enter extreme new oldest (load ∷ loads) b = on (stays extreme new load) refl (FirstBeyond-enter extreme new oldest loads b)
  where
    on : (s : Bool) → stays extreme new load ≡ s → FirstBeyond extreme oldest (filter (stays extreme new) loads ++ new ∷ [])
        → FirstBeyond extreme oldest (cond s (load ∷ filter (stays extreme new) loads) (filter (stays extreme new) loads) ++ new ∷ [])
    on true e rest = beyond_over extreme new load oldest b e
    on false e rest = rest

FirstBeyond-kept : (extreme : Extreme) (new oldest : ℤ) (loads : List ℤ) → FirstBeyond extreme oldest loads → FirstBeyond extreme oldest (filter (stays extreme new) loads ++ new ∷ [])
FirstBeyond-kept extreme new oldest [] f = absurd f
FirstBeyond-kept extreme new oldest (load ∷ loads) f = on (stays extreme new load) refl
  where
    on : (s : Bool) → stays extreme new load ≡ s → FirstBeyond extreme oldest (cond s (load ∷ filter (stays extreme new) loads) (filter (stays extreme new) loads) ++ new ∷ [])
    on true e = f
    on false e = FirstBeyond-enter extreme new oldest loads (beyond_on extreme new load oldest e f)

Leaves-first : (extreme : Extreme) (new oldest : ℤ) (loads : List ℤ) → Leaves extreme oldest (filter (stays extreme new) (oldest ∷ loads) ++ new ∷ []) (filter (stays extreme new) loads ++ new ∷ [])
Leaves-first extreme new oldest loads = on (stays extreme new oldest) refl
  where
    on : (s : Bool) → stays extreme new oldest ≡ s → Leaves extreme oldest (cond s (oldest ∷ filter (stays extreme new) loads) (filter (stays extreme new) loads) ++ new ∷ []) (filter (stays extreme new) loads ++ new ∷ [])
    on true e = inl refl
    on false e = inr (refl, FirstBeyond-enter extreme new oldest loads (beyond_of (beyond extreme new oldest) e))

pub candidates-leave : (extreme : Extreme) (oldest : ℤ) (readings : List Reading) → Leaves extreme oldest (candidates extreme (readings ++ Load oldest ∷ [])) (candidates extreme readings)
candidates-leave extreme oldest [] = inl refl
candidates-leave extreme oldest (Load new ∷ older) =
    elim (candidates-leave extreme oldest older) [
      | inl e ↦
          subst (λ loads. Leaves extreme oldest (filter (stays extreme new) loads ++ new ∷ []) (filter (stays extreme new) (candidates extreme older) ++ new ∷ []))
          (sym e) (Leaves-first extreme new oldest (candidates extreme older))
      | inr k ↦ inr (ap (λ loads. filter (stays extreme new) loads ++ new ∷ []) k.0, FirstBeyond-kept extreme new oldest (candidates extreme older) k.1)
    ]
candidates-leave extreme oldest (Lost ∷ older) = candidates-leave extreme oldest older

-- the oldest load is dropped where it equals the first
pub queue_of-leave : (extreme : Extreme) (oldest : ℤ) (readings : List Reading) → slice_get (candidates extreme (readings ++ Load oldest ∷ [])) 0 ≡ Some oldest → drop 1 (candidates extreme (readings ++ Load oldest ∷ [])) ≡ candidates extreme readings
queue_of-leave extreme oldest readings s =
    elim (candidates-leave extreme oldest readings) [
      | inl e ↦ ap (drop 1) e
      | inr k ↦ absurd (apart (candidates extreme readings) k.1 (subst (λ loads. slice_get loads 0 ≡ Some oldest) k.0 s))
    ]
  where
    apart : (loads : List ℤ) → FirstBeyond extreme oldest loads → slice_get loads 0 ≡ Some oldest → ⊥
    apart [] f g = f
    apart (first ∷ loads) f g = let same : first ≡ oldest = cc in beyond_itself extreme oldest (subst (λ load. beyond extreme load oldest ≡ true) same f)

pub queue_of-leave_other : (extreme : Extreme) (oldest : ℤ) (readings : List Reading) → slice_get (candidates extreme (readings ++ Load oldest ∷ [])) 0 ≢ Some oldest → candidates extreme (readings ++ Load oldest ∷ []) ≡ candidates extreme readings
queue_of-leave_other extreme oldest readings s =
    elim (candidates-leave extreme oldest readings) [
      | inl e ↦ absurd (s (ap (λ loads. slice_get loads 0) e))
      | inr k ↦ k.0
    ]

pub candidates-leave_lost : (extreme : Extreme) (readings : List Reading) → candidates extreme (readings ++ Lost ∷ []) ≡ candidates extreme readings
candidates-leave_lost extreme [] = refl
candidates-leave_lost extreme (Load new ∷ older) = ap (λ loads. filter (stays extreme new) loads ++ new ∷ []) (candidates-leave_lost extreme older)
candidates-leave_lost extreme (Lost ∷ older) = candidates-leave_lost extreme older

pub is_some : (found : Option ℤ) (load : ℤ) → option_eq int_eq found (Some load) ≡ true → found ≡ Some load
is_some None load e = cc
is_some (Some first) load e = let same : first ≡ load = grind (arith, ints) in ap Some same

pub is_other : (found : Option ℤ) (load : ℤ) → option_eq int_eq found (Some load) ≡ false → found ≢ Some load
is_other found load e same = absurd (apart (subst (λ o. option_eq int_eq o (Some load) ≡ false) same e))
  where
    apart : int_eq load load ≡ false → ⊥
    apart e = grind (arith, ints)
