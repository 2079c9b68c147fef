-- Points without a fault are those of a calibration.
use Rattle.std.proofs.Common.{◌≡◌, refl, sym, ℕ, ◌+◌, nat_lt, Bool, true, false, ◌&&◌, pos, int_le, List, [], ◌∷◌, length, Option, Some, None, if◌then◌else◌, arith, le-ltb}
use Rattle.std.proofs.lemmas.Int.{ints}
use Rattle.wb_window.specs.Reading.{greatest_load}
use Rattle.wb_calibration.specs.declared.fault.CalibrationFault.TheVariants.{Few, Many, Load, Loads, Counts}
use Rattle.wb_calibration.specs.declared.point.Point.{Point}
use Rattle.wb_calibration.specs.Calibration.{AreApart, AreBehind, IsCalibration, IsPoint}
use Rattle.wb_calibration.specs.Fault.{counts_are_apart, loads_are_apart, fault_behind, fault_of_points, fault_within, is_possible_load}
use Rattle.wb_calibration.specs.Laws.{FaultlessAre}
use Rattle.wb_calibration.specs.Turned.{counts_fall}

-- the tests
both : (a b : Bool) → (a && b) ≡ true → (a ≡ true) × (b ≡ true)
both true true e = (refl, refl)
both true false e = absurd (cc)
both false b e = absurd (cc)

IsPoint-tested : (p : Point) → is_possible_load p.tenths ≡ true → IsPoint p
IsPoint-tested p e =
    let k = both (int_le (pos 0) p.tenths) (int_le p.tenths greatest_load) e in
    (omega (arith, ints, k.0), omega (arith, ints, k.1))

is_load-of_point : (p : Point) → IsPoint p → is_possible_load p.tenths ≡ true
is_load-of_point p h =
    let a : int_le (pos 0) p.tenths ≡ true = sym (omega (arith, ints, h.0)) in
    let b : int_le p.tenths greatest_load ≡ true = sym (omega (arith, ints, h.1)) in
    rw (a, b)

AreApart-tested : (falling : Bool) (p q : Point) → loads_are_apart p q ≡ true → counts_are_apart falling p q ≡ true → AreApart falling p q
AreApart-tested falling p q loads counts = record { loads = omega (arith, ints, loads); counts = omega (arith, ints, counts) }

-- of three tests in turn that find no fault, each holds
three : {A : Type 0} (a b c : Bool) (x y z : A) (o : Option A) → (if a then (if b then (if c then o else Some x) else Some y) else Some z) ≡ None
    → (a ≡ true) × (b ≡ true) × (c ≡ true) × (o ≡ None)
three true true true x y z o e = (refl, refl, refl, e)
three true true false x y z o e = absurd (cc)
three true false c x y z o e = absurd (cc)
three false b c x y z o e = absurd (cc)

AreBehind-faultless : (falling : Bool) (place : ℕ) (p : Point) (rest : List Point) → fault_behind falling place p rest ≡ None → AreBehind falling p rest
AreBehind-faultless falling place p [] e = tt
AreBehind-faultless falling place p (q ∷ rest) e =
    let k = three (is_possible_load q.tenths) (loads_are_apart p q) (counts_are_apart falling p q) (Counts place) (Loads place) (Load place) (fault_behind falling (place + 1) q rest) e in
    (IsPoint-tested q k.0, AreApart-tested falling p q k.1 k.2, AreBehind-faultless falling (place + 1) q rest k.3)

fault_from-behind : (falling : Bool) (place : ℕ) (p : Point) (rest : List Point) → AreBehind falling p rest → fault_behind falling place p rest ≡ None
fault_from-behind falling place p [] behind = refl
fault_from-behind falling place p (q ∷ rest) behind =
    let a = is_load-of_point q behind.0 in
    let b : loads_are_apart p q ≡ true = sym (omega (arith, ints, behind.1.loads)) in
    let c : counts_are_apart falling p q ≡ true = sym (omega (arith, ints, behind.1.counts)) in
    rw (a, b, c) (fault_from-behind falling (place + 1) q rest behind.2)

-- with their number
numbered : {A : Type 0} (a b : Bool) (x y : A) (o : Option A) → (if a then Some x else (if b then Some y else o)) ≡ None → (a ≡ false) × (b ≡ false) × (o ≡ None)
numbered false false x y o e = (refl, refl, e)
numbered false true x y o e = absurd (cc)
numbered true b x y o e = absurd (cc)

first_of : {A : Type 0} (a : Bool) (x : A) (o : Option A) → (if a then o else Some x) ≡ None → (a ≡ true) × (o ≡ None)
first_of true x o e = (refl, e)
first_of false x o e = absurd (cc)

calibration_from : (points : List Point) → fault_of_points points ≡ None → IsCalibration points
calibration_from [] e = absurd (cc)
calibration_from (p ∷ rest) e =
    let n = numbered (nat_lt (length (p ∷ rest)) 2) (nat_lt 8 (length (p ∷ rest))) Few Many (fault_within (p ∷ rest)) e in
    let k = first_of (is_possible_load p.tenths) (Load 1) (fault_behind (counts_fall (p ∷ rest)) 2 p rest) n.2 in
    record {
      two = grind (arith, n.0);
      eight = grind (arith, n.1);
      in_order = (IsPoint-tested p k.0, AreBehind-faultless (counts_fall (p ∷ rest)) 2 p rest k.1);
    }

fault_of-calibration : (points : List Point) → IsCalibration points → fault_of_points points ≡ None
fault_of-calibration [] is = absurd (omega (arith, is.two))
fault_of-calibration (p ∷ rest) is =
    let few : nat_lt (length (p ∷ rest)) 2 ≡ false = le-ltb _ _ is.two in
    let many : nat_lt 8 (length (p ∷ rest)) ≡ false = le-ltb _ _ is.eight in
    let a = is_load-of_point p is.in_order.0 in
    rw (few, many, a) (fault_from-behind (counts_fall (p ∷ rest)) 2 p rest is.in_order.1)

pub faultless_are : FaultlessAre
faultless_are points = (calibration_from points, fault_of-calibration points)
