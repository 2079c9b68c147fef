-- What a caller's proof needs of a look-up, and of one that found nothing.
use Rattle.std.proofs.Common.{◌≡◌, ◌∙◌, Bool, true, false, true≢false, ◌||◌, List, [], ◌∷◌, Some, Ok, cond, find, is_some, refl, sym}
use Rattle.std.specs.Bool.{Decides}
use Rattle.std.specs.List.{list_any}
use Rattle.sqlite.specs.Store.{Ghosts}
use Rattle.wb_journal.specs.declared.entry.EntryParts.{EntryParts}
use Rattle.wb_store.specs.Journal.{IsHonest, StoreView, StoreStands}
use Rattle.wb_store.specs.Keeping.{Closes, Keeps, LeavesOnly}
use Rattle.wb_tables.specs.Rows.{SpentKey}

-- a look-up that was answered leaves the lists
pub left : {D X : Type 0} (g : Ghosts D) {old new : StoreView D} {x : X} → Keeps g old new (Ok x) → Closes g old new (Ok x)
    → {es : List EntryParts} {ks : List SpentKey} → StoreStands g old es ks → IsHonest g new → StoreStands g new es ks × LeavesOnly g new es ks
left g keeps closes {es} {ks} s h = (keeps.stands es ks s h (closes.closes ∙ s.opened), keeps.leaves es ks s h)

-- where none is found none passes
pub none_passes : {X : Type 0} (p : X → Bool) (xs : List X) → is_some (find p xs) ≡ false → list_any p xs ≡ false
none_passes p [] h = refl
none_passes p (x ∷ xs) h = go (p x) h (none_passes p xs)
  where
    go : (b : Bool) → is_some (cond b (Some x) (find p xs)) ≡ false → (is_some (find p xs) ≡ false → list_any p xs ≡ false) → (b || list_any p xs) ≡ false
    go true h later = h
    go false h later = later h

-- where one is found one passes
pub some_passes : {X : Type 0} (p : X → Bool) (xs : List X) → is_some (find p xs) ≡ true → list_any p xs ≡ true
some_passes p [] h = absurd (true≢false (sym h))
some_passes p (x ∷ xs) h = go (p x) h (some_passes p xs)
  where
    go : (b : Bool) → is_some (cond b (Some x) (find p xs)) ≡ true → (is_some (find p xs) ≡ true → list_any p xs ≡ true) → (b || list_any p xs) ≡ true
    go true h later = refl
    go false h later = later h

-- an entry that wasn't added may not be
pub not_next : {P : Type 0} → (P → ⊥) → Decides false P
not_next never = (λ is. absurd (true≢false (sym is)), λ is. absurd (never is))
