use Rattle.std.proofs.Common.{arith, ◌≡◌, to_z, of_z, w32}
use Rattle.std.proofs.lemmas.Int.{ints}
use Rattle.wb_scale.proofs.offered.Narrowing.{narrowed-shown}
use Rattle.wb_terminal_c.proofs.indication.indication_of.Goals as goal

pub returns-in-Shown : goal.returns-in-Shown
returns-in-Shown c =
    let shown = c.in-Shown in
    let same = narrowed-shown c.args.instrument.now shown.gross shown.net shown.stable c.requires.setup (rw shown.is at c.requires.load) in
    let gross : to_z w32 (of_z w32 c.kilograms.result) ≡ c.kilograms.result = omega (arith, ints) in
    let net : to_z w32 (of_z w32 c.kilograms-in-Shown.result) ≡ c.kilograms-in-Shown.result = omega (arith, ints) in
    cc (same.0, same.1, gross, net, c.kilograms.ensures, c.kilograms-in-Shown.ensures, c.state_number.ensures, shown.is)
