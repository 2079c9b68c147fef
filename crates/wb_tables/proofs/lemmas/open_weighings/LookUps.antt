-- What the look-up of an open weighing finds.
use Rattle.std.proofs.Common.{◌≡◌, ℕ, pos, List, [], ◌∷◌, Option, Some, None, Result, Ok, Err, IfOk, option_and_then, option_map, slice_get, sym, ap, subst, ◌∙◌, arith}
use Rattle.wb_tables.proofs.Common.{Vec, AllByRecursion, Global, Held, state, Ghosts, Error, Shows, Int, open_entry, with_number, IsRising, EntryParts, Failure, HoldsOpen, IsOpenNumber, LooksUp, MayBeStored, Selects, FitsU32, IsStorable, option_map_twice}
use Rattle.wb_tables.proofs.lemmas.queries.LookUps.{found_stored, looks_up}
use Rattle.wb_tables.proofs.lemmas.open_weighings.Shown.{open_by_number}

-- the number of an entry within its limits fits
fits : (o : Option EntryParts) → MayBeStored o → FitsU32 (option_map (λ (e : EntryParts). e.number) o)
fits None h = tt
fits (Some e) h = let most = h.0.most in omega (arith, most)

pub open_fits : (entries : List EntryParts) (plate : List ℕ) → AllByRecursion IsStorable entries → FitsU32 (option_map (λ (e : EntryParts). e.number) (open_entry entries plate))
unfolding open_entry
open_fits entries plate storable = fits _ (found_stored _ entries storable)

-- what an answer would be if something held
answered_if : {X A : Type 0} (r : Result X Failure) (x : X) → (A → r ≡ Ok x) → IfOk r (λ y. A → y ≡ x)
answered_if (Ok y) x is = λ a. let same = is a in cc
answered_if (Err f) x is = tt

module _ {S : Type 0} (g : Ghosts S) (old new : Held S) where
  -- the number of the plate's open weighing
  pub looks_up_open_number : (rows : Result (Vec Shows Global) Error) (result : Result (Option ℕ) Failure) (plate : List ℕ)
      → Selects g old new rows (λ items. (entries : List EntryParts) → IsRising entries → HoldsOpen (state g old).now entries → slice_get items 0 ≡ option_map (λ e. Int (pos e.number) ∷ []) (open_entry entries plate))
      → IsOpenNumber rows result
      → LooksUp g old new result (λ entries spent found. HoldsOpen (state g old).now entries → found ≡ option_map (λ e. e.number) (open_entry entries plate))
  looks_up_open_number rows result plate selects number = looks_up g old new rows result _ _ selects
      (λ items is shows entries spent held.
      let read = subst (λ r. IsOpenNumber r result) is number in
      let wanted = option_map (λ (e : EntryParts). e.number) (open_entry entries plate) in
      (answered_if result wanted (λ open_rows. read.0 wanted (open_fits entries plate held.lists.storable) (shows entries held.lists.rising open_rows ∙ sym (option_map_twice (λ (e : EntryParts). e.number) (λ n. Int (pos n) ∷ []) (open_entry entries plate)))), read.1))
      (λ error is. subst (λ r. IsOpenNumber r result) is number)

-- the entry with the number of the plate's open weighing is that
pub open_listed : (entries : List EntryParts) (plate : List ℕ) (n : ℕ) (found : Option EntryParts) → IsRising entries → Some n ≡ option_map (λ (e : EntryParts). e.number) (open_entry entries plate)
    → found ≡ with_number n entries → found ≡ open_entry entries plate
open_listed entries plate n found rises number is = is ∙ go (open_entry entries plate) number ∙ open_by_number entries plate rises
  where
    go : (o : Option EntryParts) → Some n ≡ option_map (λ (e : EntryParts). e.number) o → with_number n entries ≡ option_and_then (λ f. with_number f.number entries) o
    go None same = absurd cc
    go (Some e) same = let here : n ≡ e.number = cc in ap (λ m. with_number m entries) here
