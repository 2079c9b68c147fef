-- Why a load isn't stored, by what is indicated and by the conditions.
use Rattle.std.proofs.Common.{◌≡◌, ◌∙◌, Bool, true, false, not, ◌&&◌, if◌then◌else◌, Option, Some, None, ℤ, pos, refl}
use Rattle.wb_office.proofs.Common.{int_lt, is_none, option_map, is_above_range, is_below_range, round, Setup, Kind, First, Second, Single, Void, is_void_kind, gross, indicated, indicated_at, weights_unless_outside, tare_now, tare_tenths, above_zero, is_stable, Refusal, TareNow, Empty, Weighed, Preset, readings, Asking, holds_of, gross_is_above_preset, asks_to_weigh, of_load, gross_of_shown, gross_shown, is_preset_below_shown, refusal_of_shown, first_refusal, gross_stored, kilograms_of}
use Rattle.std.specs.Prelude.{◌-ℤ◌}
use Rattle.wb_messages.specs.declared.refusal.Refusal.TheVariants as refusal

-- the conditions on a load of a First, Second or Single, one after the other
in_order : Setup → Bool → Bool → Option ℤ → Option Refusal
in_order s weighed stable g =
    if weighed && is_none g then Some refusal.NoLoad
    else if weighed && holds_of (is_above_range s) g then Some refusal.Overload
    else if weighed && holds_of is_below_range g then Some refusal.Underload
    else if weighed && not stable then Some refusal.Unstable
    else if weighed && holds_of (λ x. int_lt x (pos 20)) g then Some refusal.BelowMin
    else None

of_shown : (s : Setup) (stable : Bool) (g net : ℤ) (over under : Bool) → is_above_range s g ≡ over → is_below_range g ≡ under
    → refusal_of_shown (weights_unless_outside s stable g net) ≡ in_order s true stable (Some g)
unfolding in_order
of_shown s stable g net true under o u = rw (o) refl
of_shown s stable g net false true o u = rw (o, u) refl
of_shown s stable g net false false o u = rw (o, u) refl

of_indicated : (s : Setup) (stable : Bool) (tare : TareNow) (tenths : Option ℤ)
    → refusal_of_shown (indicated_at s stable tare tenths) ≡ in_order s true stable (option_map round tenths)
unfolding in_order
of_indicated s stable tare None = refl
of_indicated s stable tare (Some tenths) = of_shown s stable (round tenths) (round (tenths -ℤ tare_tenths tare)) (is_above_range s (round tenths)) (is_below_range (round tenths)) refl refl

-- what is indicated decides alone why a load isn't stored
pub by_indication : (a : Asking) → asks_to_weigh a ≡ true → refusal_of_shown (indicated a.now.setup a.now.history) ≡ first_refusal of_load a
unfolding indicated above_zero in_order
by_indication a w = rw w (of_indicated a.now.setup (is_stable a.now.setup.window a.now.setup.band (readings a.now.history)) (tare_now a.now.history) (above_zero a.now.history))

-- a Void needs no load
pub of_void : (a : Asking) → asks_to_weigh a ≡ false → first_refusal of_load a ≡ None
of_void a w = rw w refl

preset_of_shown : (s : Setup) (stable : Bool) (shown_gross net : ℤ) (over under : Bool) (tare : TareNow) → is_above_range s shown_gross ≡ over → is_below_range shown_gross ≡ under
    → refusal_of_shown (weights_unless_outside s stable shown_gross net) ≡ None → is_preset_below_shown tare (weights_unless_outside s stable shown_gross net) ≡ gross_is_above_preset tare (Some shown_gross)
preset_of_shown s stable shown_gross net true under tare o u free = absurd (cc (rw o at free))
preset_of_shown s stable shown_gross net false true tare o u free = absurd (cc (rw (o, u) at free))
preset_of_shown s stable shown_gross net false false Empty o u free = refl
preset_of_shown s stable shown_gross net false false (Weighed tenths) o u free = refl
preset_of_shown s stable shown_gross net false false (Preset whole) o u free = rw (o, u) refl

preset_of_indicated : (s : Setup) (stable : Bool) (now tare : TareNow) (tenths : Option ℤ) → refusal_of_shown (indicated_at s stable now tenths) ≡ None
    → is_preset_below_shown tare (indicated_at s stable now tenths) ≡ gross_is_above_preset tare (option_map round tenths)
preset_of_indicated s stable now tare None free = absurd (cc)
preset_of_indicated s stable now tare (Some tenths) free =
    preset_of_shown s stable (round tenths) (round (tenths -ℤ tare_tenths now)) (is_above_range s (round tenths)) (is_below_range (round tenths)) tare refl refl free

-- where no load is refused, the gross that is shown is the gross
pub preset_by_indication : (a : Asking) (tare : TareNow) → asks_to_weigh a ≡ true → first_refusal of_load a ≡ None
    → is_preset_below_shown tare (indicated a.now.setup a.now.history) ≡ gross_is_above_preset tare (gross a.now.history)
unfolding indicated above_zero
preset_by_indication a tare w free =
    preset_of_indicated a.now.setup (is_stable a.now.setup.window a.now.setup.band (readings a.now.history)) (tare_now a.now.history) tare (above_zero a.now.history)
    (by_indication a w ∙ free)

gross_of_indicated : (s : Setup) (stable : Bool) (now : TareNow) (tenths : Option ℤ) → refusal_of_shown (indicated_at s stable now tenths) ≡ None
    → gross_shown s (indicated_at s stable now tenths) ≡ option_map (kilograms_of s) (option_map round tenths)
gross_of_indicated s stable now None free = absurd (cc)
gross_of_indicated s stable now (Some tenths) free = go (is_above_range s (round tenths)) (is_below_range (round tenths)) refl refl free
  where
    go : (over under : Bool) → is_above_range s (round tenths) ≡ over → is_below_range (round tenths) ≡ under → refusal_of_shown (indicated_at s stable now (Some tenths)) ≡ None
        → gross_shown s (indicated_at s stable now (Some tenths)) ≡ Some (kilograms_of s (round tenths))
    go true under o u f = absurd (cc (rw o at f))
    go false true o u f = absurd (cc (rw (o, u) at f))
    go false false o u f = rw (o, u) refl

-- where no load is refused, the gross that is stored is that which is shown
pub gross_by_indication : (a : Asking) → first_refusal of_load a ≡ None
    → gross_of_shown a.now.setup a.kind (indicated a.now.setup a.now.history) ≡ gross_stored a.now.setup a.kind (gross a.now.history)
unfolding indicated above_zero
gross_by_indication a free = go a.kind (λ w. by_indication a w ∙ free)
  where
    shown_gross : refusal_of_shown (indicated a.now.setup a.now.history) ≡ None
        → gross_shown a.now.setup (indicated a.now.setup a.now.history) ≡ option_map (kilograms_of a.now.setup) (gross a.now.history)
    shown_gross f =
        gross_of_indicated a.now.setup (is_stable a.now.setup.window a.now.setup.band (readings a.now.history)) (tare_now a.now.history) (above_zero a.now.history) f

    go : (k : Kind) → (not (is_void_kind k) ≡ true → refusal_of_shown (indicated a.now.setup a.now.history) ≡ None)
        → gross_of_shown a.now.setup k (indicated a.now.setup a.now.history) ≡ gross_stored a.now.setup k (gross a.now.history)
    go First f = shown_gross (f refl)
    go Second f = shown_gross (f refl)
    go Single f = shown_gross (f refl)
    go Void f = refl
