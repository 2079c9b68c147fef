-- The names that most proofs cite, passed on from one place. Declares nothing.
pub use Rattle.std.proofs.lemmas.Bool.{and_from, and_parts, eqb-true, lt-ltb, ltb-false, ltb-true, not-true}
pub use Rattle.std.proofs.lemmas.Bool.Decides.{nat_tests}
pub use Rattle.std.proofs.lemmas.Int.{clamps, ints, unsigned_abs-mul}
pub use Rattle.std.proofs.lemmas.List.Folds.{find-append, list_any-append}
pub use Rattle.std.proofs.lemmas.List.Sums.{sum_by-cons}
pub use Rattle.std.proofs.lemmas.Slice.Eq.{bytes_eq-Decides}
pub use Rattle.std.specs.List.{AllByRecursion, filter_map, find, list_any}
pub use Rattle.std.specs.Option.{option_and_then, option_copied, option_or}
pub use Rattle.std.specs.Prelude.{Contains, count_by, int_lt, is_none, option_map, unsigned_abs}
pub use Rattle.std.specs.Str.{bytes_eq}
pub use Rattle.csv.specs.Writing.{default_writer, row_text}
pub use Rattle.sqlite.specs.Store.{Ghosts}
pub use Rattle.wb_instrument.specs.Limits.{is_above_range, is_below_range}
pub use Rattle.wb_instrument.specs.Rounding.{round}
pub use Rattle.wb_instrument.specs.Setup.{IsSetup, Setup, intervals_in_max}
pub use Rattle.wb_journal.proofs.offered.Newest.{newest-more, newest-none, newest-some}
pub use Rattle.wb_journal.proofs.Theorems.{law_of_addition, law_of_closing, law_of_kept}
pub use Rattle.wb_journal.proofs.offered.Kept.{kept-partner}
pub use Rattle.wb_journal.proofs.offered.Members.{Among, among-contains, among-either, find-absent, find-among}
pub use Rattle.wb_journal.proofs.offered.Seals.{sound-sealed}
pub use Rattle.wb_journal.specs.Check.{AreSound, finding, finding_in, least_faulty}
pub use Rattle.wb_journal.specs.Digest.{is_sound_entry, sealed_entry}
pub use Rattle.wb_journal.specs.Kind.{is_closing_kind, is_first_kind, is_second_kind, is_single_kind, is_void_kind, same_kind}
pub use Rattle.wb_journal.specs.Moment.{day_of}
pub use Rattle.wb_journal.specs.Pairs.{count_of_open, is_first_of, is_partner, lies_between, may_pair_of, open_entry, partner_of, with_number}
unfoldable pub use Rattle.wb_journal.specs.Pairs.{is_open, partner_in}
pub use Rattle.wb_journal.specs.Retention.{IsOfAge, IsPurgeBound, kept}
pub use Rattle.wb_journal.specs.Rising.{IsRising, IsRisingFrom}
pub use Rattle.wb_journal.specs.declared.entry.EntryParts.{EntryParts}
pub use Rattle.wb_journal.specs.declared.journal_check.Finding.{Finding}
pub use Rattle.wb_journal.specs.declared.journal_check.Finding.TheVariants.{Damaged, Damaged as FoundDamaged, Sound}
pub use Rattle.wb_journal.specs.declared.kind.Kind.{Kind}
pub use Rattle.wb_journal.specs.declared.kind.Kind.TheVariants.{First, Second, Single, Void}
pub use Rattle.wb_scale.specs.Indication.{gross, indicated_at, weights_unless_outside}
unfoldable pub use Rattle.wb_scale.specs.Indication.{indicated}
pub use Rattle.wb_scale.specs.Moment.{readings}
pub use Rattle.wb_scale.specs.Tare.{IsTare, tare_now, tare_tenths}
pub use Rattle.wb_scale.specs.Zero.{zero_now}
unfoldable pub use Rattle.wb_scale.specs.Zero.{above_zero}
pub use Rattle.wb_scale.specs.declared.answers.TareNow.{TareNow}
pub use Rattle.wb_scale.specs.declared.answers.TareNow.TheVariants.{Empty, Preset, Weighed}
pub use Rattle.wb_tables.proofs.offered.LaterLists.{left_rises, next_from_newest, next_stays, one, open_count_more}
pub use Rattle.wb_store.specs.Faults.{closed_by, is_disk}
pub use Rattle.wb_store.specs.Journal.{IsHonest, Reopens, StoreStands, StoreView}
pub use Rattle.wb_store.specs.Keeping.{Closes, Keeps, LeavesEither, LeavesOnly}
pub use Rattle.wb_tables.specs.Lists.{AreLists, HaveOwnKeys, IsNext, entry_by_key, greatest, greatest_spent, has_key, is_of_key, is_spent, newest_entry, number_after, previous_after}
pub use Rattle.wb_tables.specs.Rows.{SpentKey}
pub use Rattle.wb_store.specs.declared.fault.StoreFault.{StoreFault}
pub use Rattle.wb_store.specs.declared.fault.StoreFault.TheVariants.{Closed, Disk, Foreign, Memory}
pub use Rattle.wb_window.specs.Stability.{is_stable}
pub use Rattle.wb_tables.specs.Purging.{entries_below, spent_by}
pub use Rattle.wb_messages.specs.Content.{Content, purged_content, ticket_content}
pub use Rattle.wb_office.specs.Answer.{IsBoundAt, Outcome, adds, office_answer, answer_by_verdict, asking, entries_after, entries_left, entry_content, finding_content, makes_a_ticket, if_sound, is_marked, nothing, outcome, outcome_of, purges, spent_by_outcome, spent_left, text_of_indication, ticket_answer, ticket_if_sound, ticket_of, tickets_answer, unless_damaged}
pub use Rattle.wb_office.specs.Conditions.{clock_back, holds_of, is_damaged_entry, is_other, gross_is_above_preset, journal_full, key_gone, places, places_needed, asks_to_weigh}
pub use Rattle.wb_office.specs.CourseOfRequests.{AreBounds, Journal, RequestTurn, added, added_by, added_in_turn, additions, after, after_turn, answer_in, answered_with, entry_of, left, situation_of_turn, with_one}
pub use Rattle.wb_office.specs.Exports.{journal_columns, journal_csv, journal_record, record_with, records_text, ticket_columns, ticket_record, tickets_csv}
pub use Rattle.wb_office.specs.Laws.{AllWeighed, AnsweredAgain, FullAtLastNumber, IsByKey, IsGone, IsKeptEntry, IsNumbered, IsWeighed, KeepsPartners, KeyDecides, NumbersRun, OneEntryPerKey, WithinCapacity, is_taken}
pub use Rattle.wb_office.specs.LawsOfJournals.{ChangesNothing, ClosingsHavePartners, FirstsClosedOnce, IsTakenOut, KeptForItsTime, RefusalsChangeNothing, StaysSound, TakesOut, TicketGivenAgain}
pub use Rattle.wb_office.specs.LawsOfMigration.{AnsweredAfterChaining, IsRepeatedAlike, IsTicketAlike, RepeatedOverMigration, TicketOverMigration}
pub use Rattle.wb_messages.specs.Content.{content_of, content_or_refusal}
pub use Rattle.wb_office.specs.Serves.{IsNow, Marks, Serves, fault_of_refusal, is_of_store, is_store_refusal}
pub use Rattle.wb_office.specs.Situation.{Asking, IsOnLists, Situation}
pub use Rattle.wb_office.specs.Stops.{AnsweredAfterStops, Asks, IsAnsweredByKey, IsFoundAgain}
pub use Rattle.wb_office.specs.Verdict.{Condition, Verdict, accepted, entry_added, first_refusal, gross_stored, kilograms_of, of_new, on, on_new, preset_stored, refused, repeated}
unfoldable pub use Rattle.wb_office.specs.Verdict.{verdict}
pub use Rattle.wb_office.specs.Wanted.{HasBound, IsWanted, Wanted, wanted}
pub use Rattle.wb_messages.specs.declared.refusal.Refusal.{Refusal}
pub use Rattle.wb_messages.specs.declared.request.Request.{Request}
pub use Rattle.wb_messages.specs.declared.request.Request.TheVariants.{Purge, VoidOpen, Weigh}
pub use Rattle.wb_office.specs.helpers.ConditionGroups.{of_journal, of_load, of_tare}
pub use Rattle.wb_office.specs.helpers.ExportRecord.{record_text}
pub use Rattle.wb_office.specs.helpers.IndicatedLoad.{gross_of_shown, gross_shown, is_preset_below_shown, refusal_of_shown}
pub use Rattle.wb_office.specs.helpers.JudgedByVerdict.{AsksFor, IsAccepted, IsOnScale, IsRepetition}
pub use Rattle.wb_office.specs.helpers.PurgeDue.{IsPurgeWanted}
pub use Rattle.wb_office.specs.helpers.WeighingWanted.{IsWeighingWanted, wanted_by}
