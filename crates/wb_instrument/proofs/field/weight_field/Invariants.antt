use Rattle.std.proofs.Common.{◌≡◌, length, replicate}
use Rattle.wb_instrument.proofs.field.weight_field.Given as goal

abbrev pub invariant-pad : goal.invariant-pad
invariant-pad l = (l.text.bytes ≡ replicate l.counter 32) × (length l.text.bytes ≡ l.counter)
