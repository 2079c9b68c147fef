-- Sets of texts.
use Rattle.std.specs.Prelude.{◌≡◌, ℕ, ◌||◌, List, String}
use Rattle.std.specs.HashSet.{HashSet, contains_text}
use Rattle.std.specs.List.{list_any}
use Rattle.std.specs.Str.{bytes_eq}
use Rattle.wb_tables.specs.Lists.{is_of_key}
use Rattle.wb_tables.specs.Rows.{SpentKey}

-- a text is put among these
abbrev pub HasPut : {A S : Type 0} → HashSet (String A) S → HashSet (String A) S → List ℕ → Type 0
HasPut old new text = (other : List ℕ) → contains_text new other ≡ (bytes_eq text other || contains_text old other)

-- the texts of these spent keys
abbrev pub AreTexts : {A S : Type 0} → HashSet (String A) S → List SpentKey → Type 0
AreTexts texts spent = (text : List ℕ) → contains_text texts text ≡ list_any (is_of_key text) spent
