-- The repetition, one event later.
use Rattle.std.proofs.Common.{◌≡◌, ℕ, Bool, true, false, List, ◌∷◌, Option, Some, None, refl}
use Rattle.std.specs.List.{cons_option, filter_map}
use Rattle.std.specs.Option.{unwrap_or}
use Rattle.std.specs.Prelude.{◌==◌}
use Rattle.wb_sics.specs.Event.{TerminalEvent, byte}
use Rattle.wb_sics.specs.helpers.Kept.{repeats_from}
use Rattle.wb_sics.specs.Lines.{commands, line_command}
use Rattle.wb_sics.specs.Repetition.{is_repeating, newest_or_off, turned_by}

pub repeating-byte : (b : ℕ) (h : List TerminalEvent) → (b == 10) ≡ false → is_repeating (byte b ∷ h) ≡ is_repeating h
repeating-byte b h e = rw e refl

turned-once : (o : Option Bool) (older : List Bool) → unwrap_or o (newest_or_off older) ≡ newest_or_off (cons_option o older)
turned-once None older = refl
turned-once (Some on) older = refl

pub repeating-line : (b : ℕ) (h : List TerminalEvent) → (b == 10) ≡ true → repeats_from (line_command h) (is_repeating h) ≡ is_repeating (byte b ∷ h)
repeating-line b h e = rw e (turned-once (turned_by (line_command h)) (filter_map turned_by (commands h)))
