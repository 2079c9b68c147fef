use Rattle.std.proofs.Common.{◌≡◌, arith, ap, of_z, to_z, w32, refl, sym}
use Rattle.std.proofs.lemmas.Int.{ints}
use Rattle.wb_scale.specs.declared.answers.TareNow.TheVariants.{Preset}
use Rattle.wb_scale.specs.Call.{preset}
use Rattle.wb_scale.specs.Moment.{nothing}
use Rattle.wb_scale.specs.State.{State}
use Rattle.wb_scale.proofs.Balances.{given-held, given-refused, preset-range}
use Rattle.wb_scale.proofs.Standing.{Stands-kept, Stands-tare, Takes-behind}
use Rattle.wb_scale.proofs.scale.Scale.preset.Goals as goal

pub tare_kilograms-requires-clause-tare : goal.tare_kilograms-requires-clause-tare
tare_kilograms-requires-clause-tare g c =
    let range = preset-range c.self.inside.instrument c.args.grams c.preset_of_grams.result c.in-Ok.whole c.preset_of_grams.ensures.value c.preset_of_grams.ensures.nearest c.in-Ok.ensures.ok.0 in
    let whole : to_z w32 (of_z w32 c.in-Ok.whole) ≡ c.in-Ok.whole = omega (arith, ints) in
    rw whole range

pub invariant_of-self : goal.invariant_of-self
invariant_of-self g c =
    let range = preset-range c.self.inside.instrument c.args.grams c.preset_of_grams.result c.in-Ok.whole c.preset_of_grams.ensures.value c.preset_of_grams.ensures.nearest c.in-Ok.ensures.ok.0 in
    let whole : to_z w32 (of_z w32 c.in-Ok.whole) ≡ c.in-Ok.whole = omega (arith, ints) in
    let is = c.self.invariant in
    record { setup = is.setup; size = is.size; band = is.band; readings = is.readings; zero = is.zero; pause = is.pause; tare = rw whole range }

pub returns-in-Ok-clause-takes : goal.returns-in-Ok-clause-takes
returns-in-Ok-clause-takes g c =
    let s : State = record { setup = c.self.inside.instrument; held = g.W.Window.held c.self.inside.window; zero = c.self.inside.zero; pause = c.self.inside.pause; tare = c.self.inside.tare; cleared = c.self.inside.cleared } in
    let whole : to_z w32 (of_z w32 c.in-Ok.whole) ≡ c.in-Ok.whole = omega (arith, ints) in
    Takes-behind s _ _ (preset c.args.grams) c.self.view_is refl (λ h from. rw whole (Stands-tare s (preset c.args.grams) h (Preset c.in-Ok.whole) (ap (λ t. record nothing { tare = t }) (given-held s h c.args.grams c.preset_of_grams.result c.in-Ok.whole from c.preset_of_grams.ensures.value c.in-Ok.ensures.ok.0 c.in-Ok.ensures.ok.1)) from))

pub returns-in-Err-clause-takes : goal.returns-in-Err-clause-takes
returns-in-Err-clause-takes g c =
    let s : State = record { setup = c.self.inside.instrument; held = g.W.Window.held c.self.inside.window; zero = c.self.inside.zero; pause = c.self.inside.pause; tare = c.self.inside.tare; cleared = c.self.inside.cleared } in
    Takes-behind s _ _ (preset c.args.grams) c.self.view_is (ap (λ t. t.setup) (sym c.self.view_is)) (λ h from. rw (← c.self.view_is) (Stands-kept s (preset c.args.grams) h (ap (λ t. record nothing { tare = t }) (given-refused s h c.args.grams c.preset_of_grams.result from c.preset_of_grams.ensures.value c.in-Err.ensures.refused)) from))
