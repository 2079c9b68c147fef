-- Groups of conditions, in their order, as the code judges them.
use Rattle.std.specs.Prelude.{List, [], ◌∷◌}
use Rattle.wb_messages.specs.declared.refusal.Refusal.TheVariants as refusal
use Rattle.wb_office.specs.Conditions.{already_open, below_min, damaged_first, journal_full, no_load, no_open, no_preset, not_cleared, overload, tare_active, underload, unstable}
use Rattle.wb_office.specs.Verdict.{Condition, on}

-- on the load
abbrev pub of_load : List Condition
of_load = on no_load refusal.NoLoad ∷ on overload refusal.Overload ∷ on underload refusal.Underload ∷ on unstable refusal.Unstable ∷ on below_min refusal.BelowMin ∷ []

-- on the tare and the bridge
abbrev pub of_tare : List Condition
of_tare = on tare_active refusal.TareActive ∷ on no_preset refusal.NoPreset ∷ on not_cleared refusal.NotCleared ∷ []

-- on the journal
abbrev pub of_journal : List Condition
of_journal =
    on already_open refusal.AlreadyOpen ∷ on no_open refusal.NoOpen ∷ on damaged_first refusal.Damaged ∷ on journal_full refusal.JournalFull ∷ []
