-- The numbers and names of refusals.
use Rattle.std.specs.Prelude.{ℕ, List, codes}
use Rattle.wb_messages.specs.declared.refusal.Refusal.{Refusal}
use Rattle.wb_messages.specs.declared.refusal.Refusal.TheVariants.{KeyReused, Gone, ClockBack, NoLoad, Overload, Underload, Unstable, BelowMin, TareActive, NoPreset, NotCleared, AlreadyOpen, NoOpen, JournalFull, Store, NoTicket, Damaged}

abbrev pub refusal_number : Refusal → ℕ
refusal_number KeyReused = 1
refusal_number Gone = 2
refusal_number ClockBack = 3
refusal_number NoLoad = 4
refusal_number Overload = 5
refusal_number Underload = 6
refusal_number Unstable = 7
refusal_number BelowMin = 8
refusal_number TareActive = 9
refusal_number NoPreset = 10
refusal_number NotCleared = 11
refusal_number AlreadyOpen = 12
refusal_number NoOpen = 13
refusal_number JournalFull = 14
refusal_number (Store fault) = 15
refusal_number NoTicket = 16
refusal_number Damaged = 17

abbrev pub refusal_name : Refusal → List ℕ
refusal_name KeyReused = codes "key_reused"
refusal_name Gone = codes "gone"
refusal_name ClockBack = codes "clock_back"
refusal_name NoLoad = codes "no_load"
refusal_name Overload = codes "overload"
refusal_name Underload = codes "underload"
refusal_name Unstable = codes "unstable"
refusal_name BelowMin = codes "below_min"
refusal_name TareActive = codes "tare_active"
refusal_name NoPreset = codes "no_preset"
refusal_name NotCleared = codes "not_cleared"
refusal_name AlreadyOpen = codes "already_open"
refusal_name NoOpen = codes "no_open"
refusal_name JournalFull = codes "journal_full"
refusal_name (Store fault) = codes "store"
refusal_name NoTicket = codes "no_ticket"
refusal_name Damaged = codes "damaged"
