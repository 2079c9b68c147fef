-- The names that most proofs cite, passed on from one place. Declares nothing.
pub use Rattle.std.proofs.Math.Bool.{and-true, or-false, or_comm}
pub use Rattle.std.proofs.lemmas.Bool.{and_parts, and_right, le-leb as le-true}
pub use Rattle.std.proofs.lemmas.Bool.Decides.{Decides-like, nat_tests, same_from_decides}
pub use Rattle.std.proofs.lemmas.Int.{clamps, ints}
pub use Rattle.std.proofs.lemmas.List.{length-map, length-take, map-append, reverse-append, take-append-drop, take_more}
pub use Rattle.std.proofs.lemmas.List.Elements.{All-from_recursion, filter-append, recursion_from_All}
pub use Rattle.std.proofs.lemmas.List.Folds.{find-append, list_any-append}
pub use Rattle.std.proofs.lemmas.List.Sorted.{All-permutation, IsPermutation-cons, IsPermutation-map, IsPermutation-refl, IsPermutation-reverse, IsPermutation-sym, IsPermutation-to_front, IsPermutation-trans, length_permutation, list_any-IsPermutation}
pub use Rattle.std.proofs.lemmas.Map.Text.{hash_set_updates_text, is_eq-slice_cmp}
pub use Rattle.std.proofs.lemmas.Result.{IfOk-weaker, on_ok_weaker}
pub use Rattle.std.proofs.lemmas.Slice.Eq.{bytes_eq-Decides}
pub use Rattle.std.specs.HashSet.{HashSet, contains_text}
pub use Rattle.std.specs.List.{AllByRecursion, list_all, list_any}
pub use Rattle.std.specs.List.Sorted.{IsPermutation}
pub use Rattle.std.specs.Option.{option_map_or, option_or}
pub use Rattle.std.specs.Prelude.{String, Vec, is_none}
pub use Rattle.std.specs.Result.{IsErrAnd, result_map_both}
pub use Rattle.std.specs.Str.{bytes_eq}
pub use Rattle.std.specs.declared.alloc.Global.{Global}
pub use Rattle.sqlite.proofs.Callers.{EndsIn, IsPlain, begins_shown, command_of, given_begin, one_permutation, one_step, runs_as, unchanged_then}
pub use Rattle.sqlite.proofs.StateLemmas.{survives_weaker, unchanged}
pub use Rattle.sqlite.specs.Cast.{cast_row}
pub use Rattle.sqlite.specs.Clock.{timed}
pub use Rattle.sqlite.specs.Collation.{Collation}
pub use Rattle.sqlite.specs.Collation.TheVariants.{Binary}
pub use Rattle.sqlite.specs.Command.TheVariants.{Delete, Insert}
pub use Rattle.sqlite.specs.Does.{AtPlace, OnRows, Tally, WritesRows}
pub use Rattle.sqlite.specs.Edit.{Applies, are_fresh, at_least, edit_of, edited, have_rowids, id_in, next_rowid, numbered, put_all, taken_by, with_rowid, without_all}
pub use Rattle.sqlite.specs.Effect.{Database, IsDatabase}
pub use Rattle.sqlite.specs.Given.{HasBegun, HasGiven, IsRefused, Returns}
pub use Rattle.sqlite.specs.Held.{Held, state}
unfoldable pub use Rattle.sqlite.specs.Listing.{understood}
pub use Rattle.sqlite.specs.Order.{Row, column}
pub use Rattle.sqlite.specs.Query.{IsAnswer, Output, Query, end, inner, output, page}
pub use Rattle.sqlite.specs.Rowids.TheVariants.{Chosen, Given}
pub use Rattle.sqlite.specs.Rows.{Sourced, Task, Written, stamped}
pub use Rattle.sqlite.specs.Schema.{Schema}
pub use Rattle.sqlite.specs.Source.TheVariants.{Values}
pub use Rattle.sqlite.specs.State.{Executes, ExecutesInside, Fails, FailsToShow, HasCleanDisk, IsRolledBack, IsUnchanged, KeepsCommit, ShowsRows, State, Survives, mode_of}
unfoldable pub use Rattle.sqlite.specs.State.{CommitsShowing, FailsToQuery, IsNotRun, Shown}
pub use Rattle.sqlite.specs.Store.{Ghosts}
pub use Rattle.sqlite.specs.Table.{Table}
pub use Rattle.sqlite.specs.Term.{Term, col, eval_all, holds, lit, op2}
pub use Rattle.sqlite.specs.Tree.{Trees, put_row, rowid}
pub use Rattle.sqlite.specs.declared.error.Error.{Error}
pub use Rattle.sqlite.specs.declared.rows.Row.{Row as Shows}
pub use Rattle.sqlite.specs.declared.types.Value.{Value}
pub use Rattle.sqlite.specs.declared.types.Value.TheVariants.{Int, Null, Text as Words}
pub use Rattle.sqlite_keyed.proofs.ListLemmas.{all-append, all-filter, all_both, all_map, all_of, all_unmap, all_weaker, any_from_none, ascending-append, ascending-filter, ascending_weaker, filter_all, filter_none, filter_same, map-map, none_from_any, slice_get-filter}
pub use Rattle.sqlite_keyed.specs.Keyed.{IsKeyedBy}
pub use Rattle.sqlite_rules.proofs.ListLemmas.{all_from, all_has, has_found}
pub use Rattle.sqlite_schema.specs.Rules.{agree, differ, passes}
pub use Rattle.sqlite_sql.specs.declared.ops.BinaryOp.TheVariants.{Compare}
pub use Rattle.sqlite_sql.specs.declared.ops.CompareOp.TheVariants.{Eq, Lt, Ne}
unfoldable pub use Rattle.sqlite_tied.specs.Compute.{everything}
pub use Rattle.sqlite_trees.specs.Tree.{IsAscending}
pub use Rattle.sqlite_typed.proofs.AnswerLemmas.{at_end, count_is, first_shown, last_table}
pub use Rattle.sqlite_typed.proofs.TestLemmas.{at_ints, at_texts, last_term, then_term}
pub use Rattle.sqlite_value.proofs.OrderLemmas.{value_cmp-Int}
pub use Rattle.sqlite_value.specs.Keys.{ascending, by_key, plain}
unfoldable pub use Rattle.sqlite_value.specs.Keys.{first_key}
pub use Rattle.sqlite_value.specs.declared.keys.Key.{Key}
pub use Rattle.wb_journal.proofs.offered.Rising.{rising-from}
pub use Rattle.wb_journal.specs.Key.{is_key_byte, is_key_text}
pub use Rattle.wb_journal.specs.Kind.{is_closing_kind, is_first_kind, is_single_kind}
pub use Rattle.wb_journal.specs.Pairs.{count_of_open, is_first_of, is_open, may_pair_of, partner_in, partner_of, with_number}
unfoldable pub use Rattle.wb_journal.specs.Pairs.{open_entry}
pub use Rattle.wb_journal.specs.Retention.{kept}
pub use Rattle.wb_journal.specs.Rising.{IsRising, IsRisingFrom}
pub use Rattle.wb_journal.specs.declared.entry.EntryParts.{EntryParts}
pub use Rattle.wb_journal.specs.declared.kind.Kind.{Kind}
pub use Rattle.wb_journal.specs.declared.kind.Kind.TheVariants.{First, Second, Single, Void}
pub use Rattle.wb_journal.specs.helpers.Nearest.{closing_alone, first_alone, nearest_first, stays_open}
pub use Rattle.wb_statements.proofs.Actions.{no_works, spared_works}
pub use Rattle.wb_statements.proofs.Backwards.{AreRead, AreReadSome, Climbs, all_read, last_shows, one_more, one_more_some, same_list}
pub use Rattle.wb_statements.proofs.Columns.{have_columns, row_is, same_int, same_words, two_told, values_from}
pub use Rattle.wb_statements.proofs.DeleteTexts.{delete_means}
pub use Rattle.wb_statements.proofs.Done.{same_value, went}
pub use Rattle.wb_statements.proofs.InsertTexts.{understood_put}
pub use Rattle.wb_statements.proofs.Keyless.{any_of_map, any_same, first_left, made_of, outputs, shows_some, some_kept, some_of_each, some_passes}
pub use Rattle.wb_statements.proofs.KnownTables.{one_typed}
pub use Rattle.wb_statements.proofs.Listing.{listing, permuted, shows_sorted, unkeyed}
pub use Rattle.wb_statements.proofs.Meant.{failed_meant, query_meant}
pub use Rattle.wb_statements.proofs.Names.{option_map_twice}
pub use Rattle.wb_statements.proofs.OnlyAsks.{never_asks}
pub use Rattle.wb_statements.proofs.RowidLists.{filter_alike, key_of, without_those}
pub use Rattle.wb_statements.proofs.RowidOrder.{keyed_shown, own_shown}
pub use Rattle.wb_statements.proofs.Rules.{is_listed, obeyed}
pub use Rattle.wb_statements.proofs.Texts.{Means, answers, means_over, means_over_two, none_given}
unfoldable pub use Rattle.wb_statements.proofs.Texts.{fitting}
pub use Rattle.wb_statements.proofs.Whole.{shows_all, shows_whole, two_of, whole_query}
pub use Rattle.wb_tables.specs.Counting.{AreCounts}
pub use Rattle.wb_tables.specs.HasTables.{HasAbout, HasOpenTable, HasSpentTable, HasTable, HasTables, HasTablesOf, LacksAll, about_tree, is_pointed_to, journal_tree, open_tree, spent_tree}
pub use Rattle.wb_tables.specs.Holds.{Holds, IsAtRest, about_in, journal_in, spent_in}
pub use Rattle.wb_tables.specs.Lists.{AreLists, AreSpentFrom, HaveOwnKeys, HaveOwnTexts, IsNext, greatest, greatest_spent, has_key, is_of_key, is_spent, newest_entry, number_after}
pub use Rattle.wb_tables.specs.OpenTable.{AreOpen, HaveOwnRowids, HoldsOpen, is_open_weighing, open_in, open_row, open_weighings}
pub use Rattle.wb_tables.specs.Purging.{entries_below, is_below, spent_by, spent_after_purge}
pub use Rattle.wb_tables.specs.Rows.{AreOf, HasTypes, IsSpentKey, IsStorable, SpentKey, code_of_kind, number_or_null, row_in, row_of, row_shown, spent_row, version_row}
pub use Rattle.wb_tables.specs.Tables.{about_table, journal_table, journal_of, open_weighing_table, spent_table}
pub use Rattle.wb_tables.specs.declared.failure.Failure.{Failure}
pub use Rattle.wb_tables.specs.declared.failure.Failure.TheVariants.{Database as Failed, Foreign, Memory}
pub use Rattle.wb_tables.specs.helpers.AcceptedRows.{AreSpentKeys, IsBelow}
pub use Rattle.wb_tables.specs.helpers.Asking.{IsMeant, IsOurs, OnlyShows}
pub use Rattle.wb_tables.specs.helpers.Collected.{HasCollected, last_firsts}
pub use Rattle.wb_tables.specs.helpers.CountingPass.{AreOpenPlates, Follows, HasPassed, closes_one}
pub use Rattle.wb_tables.specs.declared.tables.Version.{Version}
pub use Rattle.wb_tables.specs.declared.tables.Version.TheVariants.{One, Two}
pub use Rattle.wb_tables.specs.helpers.EntriesText.{entries_text}
pub use Rattle.wb_tables.specs.helpers.JournalRows.{HoldsEntries, HoldsEntriesOf, HoldsSpent, ShowsVersion}
pub use Rattle.wb_tables.specs.helpers.Kept.{ChangesOnly, rows_in}
pub use Rattle.wb_tables.specs.helpers.NearestBelow.{may_pair_below, nearest_below}
pub use Rattle.wb_tables.specs.helpers.OwnRowids.{AreDistinct, AreOwnKeys, ShowsKey, key_row}
pub use Rattle.wb_tables.specs.helpers.Reading.{FindsEntries, FindsEntriesOf, FitsU32, IsAny, IsMade, IsOpenNumber, KeepsDoubt, LooksUp, MayBeStored, OnlyReads, Selects}
pub use Rattle.wb_tables.specs.helpers.RowBelow.{ShowsSpentKey}
pub use Rattle.wb_tables.specs.helpers.Texts.{AreTexts, HasPut}
