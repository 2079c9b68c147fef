-- For the crates above: the lists of a store after an addition and after a purge, and the next number.
use Rattle.std.proofs.Common.{◌≡◌, ℕ, ◌+◌, Bool, List, [], ◌∷◌, ◌++◌, Some, cond, filter}
use Rattle.wb_tables.proofs.Common.{is_first_kind, count_of_open, kept, IsRising, EntryParts, number_after, spent_after_purge, SpentKey, closes_one, AreLists, newest_entry}
use Rattle.wb_tables.proofs.lemmas.lists.Greatest.{next_from_newest as follows}
use Rattle.wb_tables.proofs.lemmas.lists.Purged.{left_rises as rises, next_stays as stays}
use Rattle.wb_tables.proofs.lemmas.open_weighings.Counts.{open_count_more as counted}

-- one where this holds, else none
abbrev pub one : Bool → ℕ
one b = cond b 1 0

-- the open weighings with one entry more: a First is one, and a Second or Void closes the one of its plate
pub open_count_more : (es : List EntryParts) (e : EntryParts) → IsRising (es ++ e ∷ []) → count_of_open (es ++ e ∷ []) + one (closes_one es e) ≡ count_of_open es + one (is_first_kind e.kind)
open_count_more es e r = counted es e r

-- what is left of a list by number is by number
pub left_rises : (p : EntryParts → Bool) (es : List EntryParts) → IsRising es → IsRising (filter p es)
left_rises p es h = rises p es h

-- a purge leaves the next number
pub next_stays : (bound : ℕ) (entries : List EntryParts) (spent : List SpentKey) → number_after (kept bound entries) (spent_after_purge bound entries spent) ≡ number_after entries spent
next_stays bound entries spent = stays bound entries spent

-- the next number is one more than that of the newest entry, where one stands
pub next_from_newest : (entries : List EntryParts) (spent : List SpentKey) (e : EntryParts) → AreLists entries spent → newest_entry entries ≡ Some e → number_after entries spent ≡ e.number + 1
next_from_newest entries spent e lists is = follows entries spent e lists is
