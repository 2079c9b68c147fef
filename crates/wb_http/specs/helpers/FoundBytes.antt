-- Results as their bytes.
use Rattle.std.specs.Prelude.{ℕ, List, [], ◌∷◌, Option, Some, None, Result, Ok, Err}
use Rattle.std.specs.Borrow.{Bor}
use Rattle.std.specs.Cow.{cow_str_bytes}
use Rattle.std.specs.declared.borrow.CowStr.{CowStr}

-- what was found so far
abbrev pub bytes_found : Option (Bor (List ℕ)) → List (List ℕ)
bytes_found None = []
bytes_found (Some one) = one.now ∷ []

abbrev pub as_bytes : {E : Type 0} → Result (Bor (List ℕ)) E → Result (List ℕ) E
as_bytes (Ok one) = Ok one.now
as_bytes (Err e) = Err e

abbrev pub as_text : {A E : Type 0} → Result (CowStr A) E → Result (List ℕ) E
as_text (Ok text) = Ok (cow_str_bytes text)
as_text (Err e) = Err e
