-- What the rows of the table of open weighings show of it.
use Rattle.std.proofs.Common.{◌≡◌, ℕ, ◌-◌, ◌<◌, ◌≤◌, pos, true, false, List, [], ◌∷◌, length, map, take, get_or, Option, Some, None, sym, subst, ◌∙◌, arith}
use Rattle.wb_tables.proofs.Common.{ints, IsPermutation-reverse, IsPermutation, have_rowids, Row, rowid, IsAscending, all_map, all_weaker, any_from_none, map-map, EntryParts, HaveOwnRowids, open_row, AreDistinct, AreOwnKeys, ShowsKey, key_row, keyed_shown, own_shown, AreRead, Climbs, all_read, one_more}
use Rattle.std.specs.Prelude.{reverse}
use Rattle.std.specs.Ordering.{int_eq}
use Rattle.wb_statements.proofs.RowidOrder.{numbered}

-- ---- the keys

abbrev own_number : ℕ → ℕ
own_number n = n

abbrev IsAny : ℕ → Type 0
IsAny n = Unit {0}

-- the rows after these were read as keys, of which this is the first
abbrev pub AreReadKeys : List Row → List Row → Option ℕ → Type 0
AreReadKeys rows rest above = (keys : List ℕ) × AreRead own_number key_row IsAny None rows rest above keys

pub one_more_key : (rows rest : List Row) (row : Row) (above : Option ℕ) (key : ℕ) → 1 ≤ length rest → row ≡ get_or rest (length rest - 1) row
    → AreReadKeys rows rest above → ShowsKey row above key → AreReadKeys rows (take (length rest - 1) rest) (Some key)
one_more_key rows rest row above key some is h shows = (key ∷ h.0, one_more own_number key_row IsAny None rows rest row above h.0 key some is h.1 (shows.0, tt, shows.1))

-- numbers that rise differ
pub distinct : {X : Type 0} (number : X → ℕ) (xs : List X) → IsAscending (λ a b. number a < number b) xs → AreDistinct (map (λ x. pos (number x)) xs)
distinct number [] up = tt
distinct number (x ∷ xs) up = (any_from_none _ _ (all_map _ (λ y. pos (number y)) xs (all_weaker _ _ (λ y. other (number x) (number y)) xs up.0)), distinct number xs up.1)
  where
    other : (n m : ℕ) → n < m → int_eq (pos m) (pos n) ≡ false
    other n m more = grind (arith, ints)

upward : (ns : List ℕ) → Climbs own_number None ns → IsAscending (λ a b. a < b) ns
upward [] climbs = tt
upward (n ∷ []) climbs = (tt, tt)
upward (n ∷ m ∷ ns) climbs = let rest = upward (m ∷ ns) climbs.1 in ((climbs.0, all_weaker _ _ (λ k more. omega (arith, more, climbs.0)) ns rest.0), rest)

pub all_read_keys : (rows rest : List Row) (above : Option ℕ) → length rest < 1 → AreReadKeys rows rest above → AreOwnKeys rows
all_read_keys rows rest above none h = (h.0, all_read own_number key_row IsAny None rows rest above h.0 none h.1, distinct own_number h.0 (upward h.0 h.1.climbs))

-- rows whose keys are shown as such have keys of their own
pub own_keys : (rows keys : List Row) → IsPermutation (map (λ r. rowid r ∷ []) rows) keys → AreOwnKeys keys → (have_rowids rows ≡ true) × HaveOwnRowids rows
own_keys rows keys shown own =
    let are : keys ≡ map numbered (map pos own.0) = sym (map-map numbered pos own.0 ∙ own.1) in
    (keyed_shown rows keys (map pos own.0) shown are, own_shown rows keys (map pos own.0) shown are own.2)

-- ---- the rows

-- the rows of these open weighings, the last first
abbrev pub backward : List EntryParts → List Row
backward fs = reverse (map open_row fs)

-- the rows that are left are those of what is left just if all rows are those of all
pub record IsLeft (open_weighings : List EntryParts) (rows : List Row) (left : List EntryParts) (rest : List Row) : Type 0 where
  pub so : rest ≡ backward left → rows ≡ backward open_weighings
  pub only : rows ≡ backward open_weighings → rest ≡ backward left

pub same_rows : (open_weighings : List EntryParts) (rows : List Row) → rows ≡ backward open_weighings → IsPermutation (map open_row open_weighings) rows
same_rows open_weighings rows is = subst (IsPermutation (map open_row open_weighings)) (sym is) (IsPermutation-reverse (map open_row open_weighings))
