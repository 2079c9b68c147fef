-- A condition of waiting, one event later, whatever is awaited.
use Rattle.std.proofs.Common.{◌≡◌, ℕ, ◌+◌, Bool, true, false, ◌&&◌, ◌||◌, List, [], ◌∷◌, refl, arith}
use Rattle.std.specs.Prelude.{nat_lt, ◌==◌, not, option_and_then}
use Rattle.std.proofs.lemmas.Bool.Decides.{nat_tests}
use Rattle.wb_window.specs.declared.reading.Reading.{Reading}
use Rattle.wb_sics.specs.declared.waiting.Awaited.{Awaited}
use Rattle.wb_sics.specs.Event.{TerminalEvent, reading, byte, hang_up, stored}
use Rattle.wb_sics.specs.Lines.{line_command, commanded}
use Rattle.wb_sics.specs.Waiting.{awaited_by, may_be, waits, held_since, readings_since}

module _ (kind : Awaited) (now : List TerminalEvent → Bool) (limit : ℕ) where
  pub waits-reading : (r : Reading) (h : List TerminalEvent) → waits kind now limit (reading r ∷ h) ≡ (waits kind now limit h && not (now (reading r ∷ h)) && nat_lt (readings_since h + 1) limit)
  unfolding waits
  waits-reading r h = tests (may_be kind (option_and_then awaited_by (commanded h))) (now (reading r ∷ h)) (held_since now h) (nat_lt (readings_since h) limit) (nat_lt (readings_since h + 1) limit) (grind (arith, nat_tests))
    where
      tests : (z n p l m : Bool) → (m ≡ true → l ≡ true) → (z && not (n || p) && m) ≡ ((z && not p && l) && not n && m)
      tests false n p l m k = refl
      tests true true true l m k = refl
      tests true true false true m k = refl
      tests true true false false m k = refl
      tests true false true l m k = refl
      tests true false false true m k = refl
      tests true false false false true k = absurd (cc (k refl))
      tests true false false false false k = refl

  pub waits-byte : (b : ℕ) (h : List TerminalEvent) → (b == 10) ≡ false → waits kind now limit (byte b ∷ h) ≡ waits kind now limit h
  unfolding waits
  waits-byte b h e = rw e refl

  pub waits-line : (b : ℕ) (h : List TerminalEvent) → (b == 10) ≡ true → waits kind now limit (byte b ∷ h) ≡ (may_be kind (awaited_by (line_command h)) && not (now (byte b ∷ h)) && nat_lt 0 limit)
  unfolding waits
  waits-line b h e = rw e refl

  pub waits-hang_up : (h : List TerminalEvent) → waits kind now limit (hang_up ∷ h) ≡ false
  unfolding waits
  waits-hang_up h = refl

  pub waits-stored : (h : List TerminalEvent) → waits kind now limit (stored ∷ h) ≡ waits kind now limit h
  unfolding waits
  waits-stored h = refl

  pub waits-nothing : waits kind now limit [] ≡ false
  unfolding waits
  waits-nothing = refl
