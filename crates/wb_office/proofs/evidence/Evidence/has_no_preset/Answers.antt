use Rattle.std.proofs.Common.{◌≡◌, ◌∙◌, sym, true, not, ap, refl}
use Rattle.wb_office.proofs.Common.{Kind, First, Second, Single, Void, is_single_kind, is_void_kind, gross, tare_now, gross_is_above_preset, is_preset_below_shown}
use Rattle.wb_office.proofs.LoadConditions.{preset_by_indication}
use Rattle.wb_office.proofs.evidence.Evidence.has_no_preset.Goals as goal

single_weighs : (k : Kind) → is_single_kind k ≡ true → not (is_void_kind k) ≡ true
single_weighs First s = refl
single_weighs Second s = refl
single_weighs Single s = refl
single_weighs Void s = s

pub returns-then-is_single : goal.returns-then-is_single
returns-then-is_single c = λ a shows fits.
    let single : is_single_kind a.kind ≡ true = ap is_single_kind shows.asks.of_kind ∙ sym c.is_single.ensures ∙ c.if-is_single.true in
    let same : c.is_preset_below.result ≡ gross_is_above_preset (tare_now a.now.history) (gross a.now.history) = c.is_preset_below.ensures
    ∙ ap (λ t. is_preset_below_shown t c.args.self.now.scale.indicated) shows.scale_shown.in_force
    ∙ ap (λ i. is_preset_below_shown (tare_now a.now.history) i) shows.scale_shown.shown
    ∙ preset_by_indication a (tare_now a.now.history) (single_weighs a.kind single) fits in
    rw single (ap not same)
