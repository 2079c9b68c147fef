use Rattle.std.proofs.Common.{rules, ◌≡◌, ◌<◌, length, take, w32, w64, pos, ◌-ℤ◌, FitsSigned, to_z, of_z, arith, sym, Some, None}
use Rattle.std.proofs.lemmas.Int.{ints, clamps}
use Rattle.std.proofs.lemmas.List.{take_all}
use Rattle.std.proofs.lemmas.Option.{slice_get-get_or}
use Rattle.std.specs.List.{slice_get}
use Rattle.std.specs.Int.{int_min, int_max}
use Rattle.wb_window.specs.declared.reading.Reading.TheVariants.{Load, Lost}
use Rattle.wb_window.proofs.Spread.{Spread, Spread-push, agree-lost, take_next, spread_answer}
use Rattle.wb_window.proofs.ring.agree.Goals as goal

pub returns-in-Some-Lost : goal.returns-in-Some-Lost
returns-in-Some-Lost c =
    let xs = c.args.ring.now.items in
    let e : slice_get xs c.loop-i.i ≡ Some Lost = cc (c.in-Some-Lost.is, c.copied.ensures, c.get.ensures) in
    sym (agree-lost c.args.band xs c.loop-i.i e)

pub returns-in-None : goal.returns-in-None
returns-in-None c =
    let xs = c.args.ring.now.items in
    let e : slice_get xs c.loop-i.i ≡ None = cc (c.in-None.is, c.copied.ensures, c.get.ensures) in
    let l : c.loop-i.i < length xs = omega (arith, c.len-i-end.ensures.len) in
    let g = slice_get-get_or xs c.loop-i.i Lost l in
    absurd (cc (e, g))

pub loop-i-preserved : goal.loop-i-preserved
loop-i-preserved c =
    let xs = c.args.ring.now.items in
    let v = c.in-Some-Load.load in
    let e : slice_get xs c.loop-i.i ≡ Some (Load v) = cc (c.in-Some-Load.is, c.in-Some-Load.field-0-is, c.copied.ensures, c.get.ensures) in
    let f : FitsSigned w32 v = search rules in
    let lo : to_z w32 (of_z w32 c.min-lowest.result) ≡ int_min (to_z w32 c.loop-i.lowest-bits) v = omega (arith, ints, clamps, c.min-lowest.ensures.value) in
    let hi : to_z w32 (of_z w32 c.max-highest.result) ≡ int_max (to_z w32 c.loop-i.highest-bits) v = omega (arith, ints, clamps, c.max-highest.ensures.value) in
    rw (lo, hi, take_next xs c.loop-i.i (Load v) e)
    (Spread-push (to_z w32 c.loop-i.lowest-bits) (to_z w32 c.loop-i.highest-bits) v (take c.loop-i.i xs) f c.loop-i.invariant)

pub returns : goal.returns
returns c =
    let xs = c.args.ring.now.items in
    let lo = to_z w32 c.loop-i.lowest-bits in
    let hi = to_z w32 c.loop-i.highest-bits in
    let all : take c.loop-i.i xs ≡ xs = take_all c.loop-i.i xs (omega (arith, c.len-i-end.ensures.len)) in
    let s : Spread lo hi xs = rw all at c.loop-i.invariant in
    let d : to_z w64 (of_z w64 (to_z w64 (of_z w64 c.from.result) -ℤ to_z w64 (of_z w64 c.from-2.result))) ≡ hi -ℤ lo = omega (arith, ints) in
    let b : to_z w64 (of_z w64 c.from-3.result) ≡ pos c.args.band = omega (arith, ints) in
    spread_answer c.args.band lo hi xs _ _ s d b
