use Rattle.std.proofs.Common.{◌≡◌, ◌-ℤ◌, arith, of_z, to_z, w32, ◌∙◌}
use Rattle.std.proofs.lemmas.Int.{ints}
use Rattle.wb_instrument.specs.Rounding.{round}
use Rattle.wb_scale.specs.Tare.{tare_tenths}
use Rattle.wb_scale.proofs.indication.indicated_of.Goals as goal

pub returns-in-Some : goal.returns-in-Some
returns-in-Some c =
    let range = rw c.in-Some.is at c.requires.load in
    let tenths : to_z w32 (of_z w32 c.in-Some.tenths) ≡ c.in-Some.tenths = omega (arith, ints) in
    let gross : to_z w32 (of_z w32 c.round_tenths-gross.result) ≡ round c.in-Some.tenths = (let same : to_z w32 (of_z w32 c.round_tenths-gross.result) ≡ c.round_tenths-gross.result = omega (arith, ints) in same ∙ rw tenths at c.round_tenths-gross.ensures.value) in
    let less : to_z w32 (of_z w32 (to_z w32 (of_z w32 c.in-Some.tenths) -ℤ to_z w32 (of_z w32 c.tenths_of.result))) ≡ c.in-Some.tenths -ℤ tare_tenths c.args.tare = omega (arith, ints, c.tenths_of.ensures.value) in
    let net : to_z w32 (of_z w32 c.round_tenths-net.result) ≡ round (c.in-Some.tenths -ℤ tare_tenths c.args.tare) = (let same : to_z w32 (of_z w32 c.round_tenths-net.result) ≡ c.round_tenths-net.result = omega (arith, ints) in same ∙ rw less at c.round_tenths-net.ensures.value) in
    rw c.in-Some.is (rw (gross, net) at c.shown_of.ensures)
