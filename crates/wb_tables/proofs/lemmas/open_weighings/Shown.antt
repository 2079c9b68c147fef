-- What the queries over the table of open weighings show.
use Rattle.std.proofs.Common.{◌==◌, ◌≡◌, ℕ, pos, List, [], ◌∷◌, map, filter, drop, false, Option, Some, None, slice_get, option_map, option_and_then, refl, sym, ap, subst, ◌∙◌}
use Rattle.wb_tables.proofs.Common.{is_eq-slice_cmp, IsPermutation, bytes_eq, IsDatabase, Row, Shown, State, col, rowid, Int, Null, Words, all_of, ascending-filter, filter_all, slice_get-filter, Eq, at_texts, last_term, value_cmp-Int, open_entry, with_number, IsRising, EntryParts, HasOpenTable, open_tree, HoldsOpen, is_open_weighing, open_in, open_row, open_weighings, shows_sorted, unkeyed, answers, shows_whole, whole_query}
use Rattle.std.proofs.lemmas.Option.{slice_get-map}
use Rattle.wb_tables.proofs.lemmas.rows.Columns.{open_told}
use Rattle.wb_tables.proofs.lemmas.lists.NumberOrder.{by_number, number_of}
use Rattle.wb_tables.proofs.lemmas.changes.OneTable.{shows_passing}
use Rattle.wb_tables.proofs.lemmas.open_weighings.Texts as texts
use Rattle.wb_tables.proofs.lemmas.open_weighings.Texts.{of_plate_terms, open_all_means, open_all_text, open_means, open_query, open_text, rowids_means, rowids_text}
use Rattle.wb_tables.proofs.lemmas.changes.PurgeTexts.{keys_query}
use Rattle.wb_tables.proofs.lemmas.open_weighings.WhatIsOpen.{found_by, itself, open_entry_listed}

-- ---- the open weighing of a plate

-- its number, as the query shows it
abbrev pub shown_number : EntryParts → Row
shown_number f = Int (pos f.number) ∷ []

pub finds_open : (old new : State) (plate : List ℕ) (rows : List Row) → HasOpenTable old.now.schema → Shown open_text (Words plate ∷ []) old new rows
    → (es : List EntryParts) → IsRising es → HoldsOpen old.now es → slice_get rows 0 ≡ option_map shown_number (open_entry es plate)
finds_open old new plate rows beside h es rising held =
    let params = Words plate ∷ [] in
    let t = open_tree old.now.schema in
    let ws = open_weighings es in
    let of = λ (f : EntryParts). bytes_eq f.plate plate in
    let a = unkeyed open_row (open_query t) t old.now.trees params rows ws refl refl refl refl (λ v r. refl) held.rows (answers open_text params (open_query t) _ old new rows (open_means old.now.schema t beside.table) h) in
    let all : rows ≡ map shown_number (filter of ws) =
    shows_sorted (λ f. Null ∷ open_row f) shown_number number_of t _ of_plate_terms (col 1 2) _ _ params ws of rows (λ f. refl) (λ f. last_term (at_texts false Eq f.plate plate ∙ is_eq-slice_cmp f.plate plate))
    (λ x y. value_cmp-Int (number_of x) (number_of y)) (ascending-filter _ (is_open_weighing es) es (by_number es rising)) a in
    ap (λ l. slice_get l 0) all ∙ slice_get-map shown_number (filter of ws) 0 ∙ ap (option_map shown_number) (slice_get-filter of ws ∙ sym (open_entry_listed es plate rising))

-- ---- and its entry, by the number

-- the entry with the number of a plate's open weighing is that open weighing
pub open_by_number : (es : List EntryParts) (plate : List ℕ) → IsRising es → option_and_then (λ f. with_number f.number es) (open_entry es plate) ≡ open_entry es plate
unfolding open_entry
open_by_number es plate rises = go (open_entry es plate) refl
  where
    go : (o : Option EntryParts) → open_entry es plate ≡ o → option_and_then (λ f. with_number f.number es) o ≡ o
    go (Some f) is = found_by _ (λ e. e.number == f.number) es f rises is (itself f.number) (λ e no. no)
    go None is = refl

-- ---- all rows, and all keys of rows

pub finds_rowids : (old new : State) (rows : List Row) → HasOpenTable old.now.schema → Shown rowids_text [] old new rows → IsPermutation (map (λ r. rowid r ∷ []) (open_in old.now)) rows
finds_rowids old new rows beside h =
    let t = open_tree old.now.schema in
    let a = answers rowids_text [] (keys_query t []) _ old new rows (rowids_means old.now.schema t beside.table) h in
    rw (filter_all _ (open_in old.now) (all_of _ (λ _. refl) (open_in old.now))) at (shows_passing t [] (col 1 0 ∷ []) [] old.now.trees [] rows a)

pub finds_all_open : (old new : State) (rows : List Row) → HasOpenTable old.now.schema → IsDatabase old.now → Shown open_all_text [] old new rows → IsPermutation (map (drop 1) (open_in old.now)) rows
finds_all_open old new rows beside sound h =
    let t = open_tree old.now.schema in
    let a = answers open_all_text [] (whole_query t texts.by_number) _ old new rows (open_all_means old.now.schema t beside.table) h in
    subst (λ l. IsPermutation l rows) (open_told old.now beside sound) (shows_whole t texts.by_number old.now.trees rows a)
