-- The one command that waits, after a reading and from a line's end on.
use Rattle.std.proofs.Common.{◌≡◌, ℕ, ◌+◌, ◌-◌, ◌≤◌, Bool, true, false, cond, ◌&&◌, List, ◌∷◌, ◌++◌, refl, sym, ◌∙◌, ap, arith, Option, Some, None}
use Rattle.std.specs.Prelude.{◌==◌, nat_lt, not, is_some, option_and_then}
use Rattle.std.proofs.lemmas.Bool.Decides.{nat_tests}
use Rattle.wb_instrument.specs.Setup.{Setup}
use Rattle.wb_window.specs.declared.reading.Reading.{Reading}
use Rattle.wb_scale.specs.Call.{Call, read}
use Rattle.wb_scale.specs.History.{moments}
use Rattle.wb_sics.specs.declared.command.Command.{Command}
use Rattle.wb_sics.specs.declared.command.Command.TheVariants.{Weight, WeightNow, Repeat, Zero, Tare, TareValue, PresetTare, BadTare, ClearTare, Cancel, Commands, SerialNumber, Unknown}
use Rattle.wb_sics.specs.declared.reply.Reply.{Reply}
use Rattle.wb_sics.specs.declared.waiting.Awaited.{Awaited}
use Rattle.wb_sics.specs.declared.waiting.Awaited.TheVariants.{Weight as AwaitedWeight, Zero as AwaitedZero, Tare as AwaitedTare}
use Rattle.wb_sics.specs.declared.waiting.Waiting.{Waiting}
use Rattle.wb_sics.specs.Calls.{asked_at, calls, calls_of_command}
use Rattle.wb_sics.specs.Event.{TerminalEvent, reading, byte}
use Rattle.wb_sics.specs.helpers.Kept.{asked_waiting, still, unless_decided, waiting_from, waiting_read}
use Rattle.wb_sics.specs.Lines.{commanded, line_command}
use Rattle.wb_sics.specs.Replies.{decided, one_of, waiting_after, weight_at, weight_waits}
use Rattle.wb_sics.specs.Waiting.{awaited_by, held_since, may_be, readings_since, stable_at, tare_waits, waits, zero_waits}
use Rattle.wb_sics.proofs.Conditions.{waits-line, waits-reading}
use Rattle.wb_sics.proofs.Decided.{tare-line, tare-read, zero-line, zero-read}

-- so many readings are left to wait for this
abbrev waiting : Awaited → ℕ → Waiting
waiting kind n = record { awaited = kind; left = n }

-- at most one of the three holds
record Alone (a b c : Bool) : Type 0 where
  weight : a ≡ true → (b ≡ false) × (c ≡ false)
  zero : b ≡ true → c ≡ false

-- of the three conditions at most one holds, since one command is the last
alone : (i : Setup) (h : List TerminalEvent) → Alone (weight_waits i h) (zero_waits i h) (tare_waits i h)
unfolding waits
alone i h =
    go (option_and_then awaited_by (commanded h)) (held_since (weight_at i) h) (held_since (stable_at i) h) (nat_lt (readings_since h) i.wait)
  where
    go : (o : Option Awaited) (p q l : Bool) → Alone (may_be AwaitedWeight o && not p && l) (may_be AwaitedZero o && not q && l) (may_be AwaitedTare o && not q && l)
    go None p q l = record { weight = λ e. (refl, refl); zero = λ e. refl }
    go (Some AwaitedWeight) p q l = record { weight = λ e. (refl, refl); zero = λ e. refl }
    go (Some AwaitedZero) p q l = record { weight = λ e. absurd (cc); zero = λ e. refl }
    go (Some AwaitedTare) p q l = record { weight = λ e. absurd (cc); zero = λ e. absurd (cc) }

-- ---- a reading

asked-one : (a b c : Bool) (n : ℕ) (r : Reading) → Alone a b c → asked_waiting (one_of a b c n) r ≡ asked_at b c r
asked-one true b c n r x = let none = x.weight refl in rw (none.0, none.1) refl
asked-one false true c n r x = refl
asked-one false false true n r x = refl
asked-one false false false n r x = refl

-- a reading asks the same of the scale, whether the conditions say it or what waits
pub asked-waits : (i : Setup) (r : Reading) (h : List TerminalEvent) → asked_waiting (waiting_after i h) r ++ calls i h ≡ calls i (reading r ∷ h)
asked-waits i r h =
    ap (λ asks. asks ++ calls i h) (asked-one (weight_waits i h) (zero_waits i h) (tare_waits i h) (i.wait - readings_since h) r (alone i h))

still-one : (kind : Awaited) (n : ℕ) (d t m : Bool) → nat_lt 1 n ≡ m → d ≡ t → still d (waiting kind n) ≡ cond (not t && m) (Some (waiting kind (n - 1))) None
still-one kind n true t m e f = rw (sym f) refl
still-one kind n false t m e f = rw (sym f, sym e) refl

-- after a reading: w, z and t say whether the conditions hold there
read-one : (i : Setup) (k : List Call) (r : Reading) (a b c w z t m : Bool) (n : ℕ) → Alone a b c → nat_lt 1 n ≡ m
    → (a ≡ true → is_some (decided i (moments i (read r ∷ k)) AwaitedWeight) ≡ w) → is_some (decided i (moments i (read r ∷ k)) AwaitedZero) ≡ z
    → is_some (decided i (moments i (read r ∷ k)) AwaitedTare) ≡ t
    → waiting_read i k r (one_of a b c n) ≡ one_of (a && not w && m) (b && not z && m) (c && not t && m) (n - 1)
read-one i k r true b c w z t m n x e p q s = let none = x.weight refl in rw (none.0, none.1) (still-one AwaitedWeight n _ w m e (p refl))
read-one i k r false true c w z t m n x e p q s = rw (x.zero refl) (still-one AwaitedZero n _ z m e q)
read-one i k r false false true w z t m n x e p q s = still-one AwaitedTare n _ t m e s
read-one i k r false false false w z t m n x e p q s = refl

pub waiting-reading : (i : Setup) (r : Reading) (h : List TerminalEvent) → 1 ≤ i.window → waiting_read i (calls i h) r (waiting_after i h) ≡ waiting_after i (reading r ∷ h)
waiting-reading i r h window =
    let more : nat_lt 1 (i.wait - readings_since h) ≡ nat_lt (readings_since h + 1) i.wait = grind (arith, nat_tests) in
    let left : (i.wait - readings_since h) - 1 ≡ i.wait - (readings_since h + 1) = omega arith in
    read-one i (calls i h) r (weight_waits i h) (zero_waits i h) (tare_waits i h) (weight_at i (reading r ∷ h)) (stable_at i (reading r ∷ h)) (stable_at i (reading r ∷ h))
    (nat_lt (readings_since h + 1) i.wait) (i.wait - readings_since h) (alone i h) more given (zero-read i r h window) (tare-read i r h window)
    ∙ rw (waits-reading AwaitedWeight (weight_at i) i.wait r h, waits-reading AwaitedZero (stable_at i) i.wait r h, waits-reading AwaitedTare (stable_at i) i.wait r h, left) refl
  where
    -- where a command for the weight waits, the reading asks nothing else of the scale
    given : weight_waits i h ≡ true → is_some (decided i (moments i (read r ∷ calls i h)) AwaitedWeight) ≡ weight_at i (reading r ∷ h)
    given e = let none = (alone i h).weight e in rw (none.0, none.1) refl

-- ---- the end of a line

from-one : (kind : Awaited) (i : Setup) (d : Option Reply) (t : Bool) → 1 ≤ i.wait → is_some d ≡ t
    → unless_decided i kind d ≡ cond (not t && nat_lt 0 i.wait) (Some (waiting kind (i.wait - 0))) None
from-one kind i (Some x) t l e = rw (sym e) refl
from-one kind i None t l e =
    let some : nat_lt 0 i.wait ≡ true = grind (arith, nat_tests) in
    let whole : i.wait - 0 ≡ i.wait = omega arith in
    rw (sym e, some, whole) refl

line-one : (i : Setup) (k : List Call) (c : Command) (z t : Bool) → 1 ≤ i.wait → is_some (decided i (moments i k) AwaitedZero) ≡ z → is_some (decided i (moments i k) AwaitedTare) ≡ t
    → waiting_from i (moments i k) c ≡ one_of (may_be AwaitedWeight (awaited_by c) && not (is_some (decided i (moments i (calls_of_command c ++ k)) AwaitedWeight)) && nat_lt 0 i.wait)
    (may_be AwaitedZero (awaited_by c) && not z && nat_lt 0 i.wait) (may_be AwaitedTare (awaited_by c) && not t && nat_lt 0 i.wait) (i.wait - 0)
line-one i k Weight z t l e f = from-one AwaitedWeight i _ _ l refl
line-one i k WeightNow z t l e f = refl
line-one i k Repeat z t l e f = refl
line-one i k Zero z t l e f = from-one AwaitedZero i _ z l e
line-one i k Tare z t l e f = from-one AwaitedTare i _ t l f
line-one i k TareValue z t l e f = refl
line-one i k (PresetTare grams) z t l e f = refl
line-one i k BadTare z t l e f = refl
line-one i k ClearTare z t l e f = refl
line-one i k Cancel z t l e f = refl
line-one i k Commands z t l e f = refl
line-one i k SerialNumber z t l e f = refl
line-one i k Unknown z t l e f = refl

pub waiting-line : (i : Setup) (b : ℕ) (h : List TerminalEvent) → (b == 10) ≡ true → 1 ≤ i.wait → 1 ≤ i.window
    → waiting_from i (moments i (calls i h)) (line_command h) ≡ waiting_after i (byte b ∷ h)
waiting-line i b h e wait window =
    line-one i (calls i h) (line_command h) (stable_at i h) (stable_at i h) wait (zero-line i h window) (tare-line i h window)
    ∙ rw (waits-line AwaitedWeight (weight_at i) i.wait b h e, waits-line AwaitedZero (stable_at i) i.wait b h e, waits-line AwaitedTare (stable_at i) i.wait b h e, e) refl
