use Rattle.std.proofs.Common.{◌≡◌, ◌∙◌, sym, ap, ◌<◌, ◌*◌, ◌/◌, Some, None, unwrap_or, w32, to_z, pos, arith}
use Rattle.std.proofs.lemmas.Int.{ints}
use Rattle.wb_converter.specs.Weights.{IsTenthsOf}
use Rattle.wb_converter.proofs.Tenths.{IsTenthsOf-divided, tenths_divided}
use Rattle.wb_converter.proofs.weights.tenths_of_weights.Goals as goal

pub returns-then-tenths-from : goal.returns-then-tenths-from
returns-then-tenths-from c = λ tenths.
    let none : IsTenthsOf c.args.kilograms c.args.interval tenths → None ≡ Some tenths = λ is.
    let k = tenths_divided c.args.kilograms c.args.interval tenths is in
    absurd (rw (c.from.ensures, c.from-2.ensures, c.from-3.ensures, c.from-4.ensures) at c.if-tenths-from.true k.1) in
    (λ e. absurd (cc e), none)

pub returns : goal.returns
returns c = λ tenths.
    let whole = rw (c.from.ensures, c.from-2.ensures, c.from-3.ensures, c.from-4.ensures) at c.if-tenths-from.false in
    let most = rw (c.from.ensures, c.from-2.ensures) at c.if-tenths-gt-GREATEST_TENTHS.false in
    let q = c.args.kilograms * 10 / c.args.interval in
    let same : to_z w32 q ≡ pos q = omega (arith, ints, most) in
    let some : 0 < c.args.interval = omega (arith, c.if-interval-eq0.false) in
    let is : IsTenthsOf c.args.kilograms c.args.interval (pos q) = IsTenthsOf-divided c.args.kilograms c.args.interval some whole most in
    let there : Some (to_z w32 q) ≡ Some tenths → IsTenthsOf c.args.kilograms c.args.interval tenths = λ e.
    let found : pos q ≡ tenths = sym same ∙ ap (λ o. unwrap_or o tenths) e in
    rw found at is in
    let back : IsTenthsOf c.args.kilograms c.args.interval tenths → Some (to_z w32 q) ≡ Some tenths = λ given.
    ap Some (same ∙ sym (tenths_divided c.args.kilograms c.args.interval tenths given).0) in
    rw (c.from.ensures, c.from-2.ensures) (there, back)
