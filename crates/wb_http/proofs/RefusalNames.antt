-- The names of refusals are short.
use Rattle.std.proofs.Common.{◌≤◌, length, arith}
use Rattle.wb_messages.specs.RefusalText.{refusal_name}
use Rattle.wb_messages.specs.declared.refusal.Refusal.{Refusal}
use Rattle.wb_messages.specs.declared.refusal.Refusal.TheVariants.{AlreadyOpen, BelowMin, ClockBack, Damaged, Gone, JournalFull, KeyReused, NoLoad, NoOpen, NoPreset, NoTicket, NotCleared, Overload, Store, TareActive, Underload, Unstable}

pub name_short : (refusal : Refusal) → length (refusal_name refusal) ≤ 14
name_short KeyReused = omega arith
name_short Gone = omega arith
name_short ClockBack = omega arith
name_short NoLoad = omega arith
name_short Overload = omega arith
name_short Underload = omega arith
name_short Unstable = omega arith
name_short BelowMin = omega arith
name_short TareActive = omega arith
name_short NoPreset = omega arith
name_short NotCleared = omega arith
name_short AlreadyOpen = omega arith
name_short NoOpen = omega arith
name_short JournalFull = omega arith
name_short (Store fault) = omega arith
name_short NoTicket = omega arith
name_short Damaged = omega arith
