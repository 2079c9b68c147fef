use Rattle.std.proofs.Common.{◌≡◌, ◌+◌, ◌*◌, ◌≤◌, ◌<◌, None, pos, option_map, sym, ◌∙◌, ap, arith}
use Rattle.wb_instrument.specs.Preset.{preset}
use Rattle.wb_instrument.specs.Setup.{intervals_in_max}
use Rattle.wb_instrument.proofs.Presets.{exact-from_value, preset-above, preset-divided}
use Rattle.wb_instrument.proofs.Setups.{one_kilogram}
use Rattle.wb_instrument.proofs.setup.Instrument.preset_of_grams.Goals as goal

pub returns-then-most-unit : goal.returns-then-most-unit
returns-then-most-unit c =
    let s = c.args.self.now in
    let least : 1 ≤ s.interval_kg = one_kilogram s c.interval_kg.ensures.setup in
    let above : (intervals_in_max s + 1) * (1000 * s.interval_kg) < c.args.grams = rw (c.from-most.ensures, c.intervals.ensures.value, c.from-unit.ensures, c.interval_kg.ensures.value) at c.if-most-unit.true in
    let value = ap (option_map pos) (sym (preset-above s c.args.grams least above)) in
    record { value = value; nearest = exact-from_value s c.args.grams None least value }

pub returns : goal.returns
returns c =
    let s = c.args.self.now in
    let least : 1 ≤ s.interval_kg = one_kilogram s c.interval_kg.ensures.setup in
    let unit : 1000 * c.from-unit.result ≡ 1000 * s.interval_kg = omega arith in
    let value : c.in_range.result ≡ option_map pos (preset s c.args.grams) =
    c.in_range.ensures ∙ ap (option_map pos) (preset-divided s c.args.grams _ c.from-most.result unit (c.from-most.ensures ∙ c.intervals.ensures.value)) in
    record { value = value; nearest = exact-from_value s c.args.grams c.in_range.result least value }
