-- What holds once a borrow ends.
use Rattle.std.specs.Prelude.{⊤}
use Rattle.std.specs.Borrow.{follows_so, Fml, RattleType, MutBor}
use mathlib.Core.Option.{none}

-- the fact holds of the value in the `&mut` once the result's borrow of it ends
abbrev pub HoldsAfterBorrow : (R : RattleType) → MutBor R.Denot → (R.Denot → Type 0) → Fml
HoldsAfterBorrow R s P = follows_so R R s.ghost_name none (λ _ _. ⊤) P
