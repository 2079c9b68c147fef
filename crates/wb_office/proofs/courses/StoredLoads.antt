-- The load behind the gross of an accepted weighing.
use Rattle.std.proofs.Common.{◌≡◌, ◌∙◌, sym, ap, subst, All, length, take, Bool, true, false, not, ◌&&◌, List, Option, Some, None, ℤ, pos, refl, arith}
use Rattle.wb_office.proofs.Common.{ints, int_lt, is_none, option_map, is_above_range, is_below_range, round, IsSetup, Setup, EntryParts, Kind, First, Second, Single, Void, is_void_kind, TareNow, gross, indicated, indicated_at, readings, tare_now, tare_tenths, above_zero, zero_now, is_stable, Asking, holds_of, AllWeighed, IsWeighed, accepted, first_refusal, gross_stored, kilograms_of, of_new, verdict}
use Rattle.std.specs.Prelude.{◌≤ℤ◌, ◌-ℤ◌}
use Rattle.wb_scale.specs.declared.answers.Indicated.TheVariants.{Shown}
use Rattle.wb_scale.specs.Call.{Call}
use Rattle.wb_scale.specs.Cleared.{is_cleared}
use Rattle.wb_scale.specs.History.{moments}
use Rattle.wb_scale.specs.Steady.{IsNear}
use Rattle.wb_scale.proofs.Theorems.{law_of_steady_indication}
use Rattle.wb_office.proofs.courses.AcceptedEntries.{asking_for, is_added, is_new}
use Rattle.wb_office.proofs.ConditionsInOrder.{none_holds}

-- a load on which none of the conditions on it holds
record IsFree (s : Setup) (is_still : Bool) (g : Option ℤ) : Type 0 where
  pub there : is_none g ≡ false
  pub over : holds_of (is_above_range s) g ≡ false
  pub under : holds_of is_below_range g ≡ false
  pub stable : is_still ≡ true
  pub below : holds_of (λ x. int_lt x (pos 20)) g ≡ false

-- what is shown of it
record IsShownAt (s : Setup) (stable : Bool) (tare : TareNow) (tenths : Option ℤ) : Type 0 where
  pub whole : ℤ
  pub net : ℤ
  pub is_gross : option_map round tenths ≡ Some whole
  pub shown_so : indicated_at s stable tare tenths ≡ Shown whole net true
  pub over : is_above_range s whole ≡ false
  pub under : is_below_range whole ≡ false
  pub least : pos 20 ≤ℤ whole

not_below : (g : ℤ) → int_lt g (pos 20) ≡ false → pos 20 ≤ℤ g
not_below g below = grind (arith, ints)

shows : (s : Setup) (stable : Bool) (tare : TareNow) (tenths : Option ℤ) → IsFree s stable (option_map round tenths) → IsShownAt s stable tare tenths
shows s stable tare None free = absurd (cc (free.there))
shows s stable tare (Some tenths) free = record {
  whole = round tenths;
  net = round (tenths -ℤ tare_tenths tare);
  is_gross = refl;
  shown_so = rw (free.over, free.under, free.stable) refl;
  over = free.over;
  under = free.under;
  least = not_below (round tenths) free.below;
}

true_of : (w b : Bool) → w ≡ true → w && not b ≡ false → b ≡ true
true_of w true is h = refl
true_of w false is h = absurd (cc (rw is at h))

false_of : (w b : Bool) → w ≡ true → w && b ≡ false → b ≡ false
false_of w b is h = rw is at h

-- what is free of the conditions on a new key is free of those on the load
free_load : (a : Asking) → first_refusal of_new a ≡ None → not (is_void_kind a.kind) ≡ true
    → IsFree a.now.setup (is_stable a.now.setup.window a.now.setup.band (readings a.now.history)) (gross a.now.history) × (is_cleared a.now.history ≡ true)
free_load a none weighs =
    let free = none_holds of_new a none in
    let load = free.1 in (
      record {
        there = false_of _ (is_none (gross a.now.history)) weighs load.0;
        over = false_of _ (holds_of (is_above_range a.now.setup) (gross a.now.history)) weighs load.1.0;
        under = false_of _ (holds_of is_below_range (gross a.now.history)) weighs load.1.1.0;
        stable = true_of _ (is_stable a.now.setup.window a.now.setup.band (readings a.now.history)) weighs load.1.1.1.0;
        below = false_of _ (holds_of (λ x. int_lt x (pos 20)) (gross a.now.history)) weighs load.1.1.1.1.0;
      },
      true_of _ (is_cleared a.now.history) weighs load.1.1.1.1.1.1.1.0,
    )

stored_gross : (s : Setup) (k : Kind) (g : Option ℤ) (whole : ℤ) → is_void_kind k ≡ false → g ≡ Some whole → gross_stored s k g ≡ Some (kilograms_of s whole)
stored_gross s First g whole v is = rw is refl
stored_gross s Second g whole v is = rw is refl
stored_gross s Single g whole v is = rw is refl
stored_gross s Void g whole v is = absurd (cc)

weighed : (a : Asking) (calls : List Call) → IsSetup a.now.setup → a.now.history ≡ moments a.now.setup calls → (e : EntryParts) → verdict a ≡ accepted e → is_void_kind e.kind ≡ false
    → IsWeighed a.now.setup a.now.history e
unfolding indicated above_zero
weighed a calls setup history e is kind =
    let new = is_new a e is in
    let void : is_void_kind a.kind ≡ false = rw new.made at kind in
    let both = free_load a new.judged (rw void refl) in
    let at = shows a.now.setup (is_stable a.now.setup.window a.now.setup.band (readings a.now.history)) (tare_now a.now.history) (above_zero a.now.history) both.0 in
    let behind = law_of_steady_indication a.now.setup setup calls at.whole at.net (ap (indicated a.now.setup) (sym history) ∙ at.shown_so) in
    record {
      gross = at.whole;
      net = at.net;
      stored = ap (λ x. x.gross_kg) new.made ∙ stored_gross a.now.setup a.kind (gross a.now.history) at.whole void at.is_gross;
      stable = at.shown_so;
      not_over = at.over;
      not_under = at.under;
      at_least_min = at.least;
      cleared = both.1;
      behind = subst (λ ms. length (take a.now.setup.window (readings ms)) ≡ a.now.setup.window) (sym history) behind.0;
      near = subst (λ ms. All (IsNear (zero_now ms) at.whole) (take a.now.setup.window (readings ms))) (sym history) behind.1;
    }

pub all_weighed : AllWeighed
all_weighed w calls setup history request e some kind =
    let one = is_added w request e some in
    weighed (asking_for one.asked w) calls setup history e one.is kind
