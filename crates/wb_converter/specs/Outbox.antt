-- The lines that wait for a client.
use Rattle.std.specs.Prelude.{ℕ, ◌==◌, List, [], ◌∷◌, codes, drop, if◌then◌else◌}

-- the rest of a line of which the client took a part, and the newest line
pub record Waiting : Type 0 where
  pub rest : List ℕ
  pub newest : List ℕ

abbrev pub none : Waiting
none = record { rest = []; newest = [] }

-- a line of which the client took a part, and whose rest is no longer the newest, ends so that it is no number
abbrev pub broken : List ℕ → List ℕ
broken [] = []
broken (b ∷ rest) = codes "?\n"

abbrev pub broken_off : Waiting → Waiting
broken_off w = record w { rest = broken w.rest }

-- a line takes the place of the one that waits
abbrev pub offered : List ℕ → Waiting → Waiting
offered line w = record { rest = broken w.rest; newest = line }

-- lines that are too old are handed to nobody
abbrev pub aged : Waiting → Waiting
aged w = record { rest = broken w.rest; newest = [] }

-- what the client is handed next: the rest of the line that it has begun, or else the newest
abbrev pub first_from : List ℕ → List ℕ → List ℕ
first_from [] newest = newest
first_from (b ∷ rest) newest = b ∷ rest

abbrev pub first_of : Waiting → List ℕ
first_of w = first_from w.rest w.newest

-- the client took so many bytes of it: of a line that it has begun the rest waits, and no other is begun before
abbrev pub taken_from : ℕ → List ℕ → List ℕ → Waiting
taken_from count [] newest = record { rest = drop count newest; newest = [] }
taken_from count (b ∷ rest) newest = record { rest = drop count (b ∷ rest); newest = newest }

abbrev pub taken : ℕ → Waiting → Waiting
taken count w = if count == 0 then w else taken_from count w.rest w.newest
