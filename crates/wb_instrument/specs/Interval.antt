-- Verification scale intervals.
use Rattle.std.specs.Prelude.{ℕ, ◌==◌, Bool, [], ◌∷◌}
use Rattle.std.specs.List.{list_any}

-- an interval e that an instrument may have, in kilograms: 1, 2 or 5 times a power of ten (OIML R 76-1:2006)
abbrev pub is_allowed_interval : ℕ → Bool
is_allowed_interval e = list_any (λ kg. kg == e) (1 ∷ 2 ∷ 5 ∷ 10 ∷ 20 ∷ 50 ∷ [])
