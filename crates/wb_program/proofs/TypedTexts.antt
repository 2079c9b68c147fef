-- Typing a text and a line end.
use Rattle.std.proofs.Common.{ℕ, List, [], ◌∷◌, map, Option, sym, subst, Ok, Err}
use Rattle.std.specs.Prelude.{OnOk, reverse}
use Rattle.std.specs.declared.result.Result.{Result}
use Rattle.sqlite.specs.Store.{Ghosts}
use Rattle.wb_program.specs.helpers.Performed.{Performed}
use Rattle.wb_trace.specs.TraceLines.{typed}
use Rattle.wb_program.proofs.PerformedHappenings.{Performed-append, reversed-typed}
use Rattle.wb_sics.specs.Stands.{TerminalState}
use Rattle.wb_messages.specs.Happening.{byte}
use Rattle.wb_store.specs.Journal.{StoreView}

-- a text was typed, and then a line end
pub Typed-line : {D : Type 0} (g : Ghosts D) {T E : Type 0} (text : List ℕ) (ta : TerminalState) (ja : StoreView D) (tb : TerminalState) (jb : StoreView D) (tc : TerminalState) (jc : StoreView D)
    (td : TerminalState) (jd : StoreView D) (x y z w : Option (List ℕ)) (r : Result T E) → Performed g (reverse (map byte text)) ta ja tb jb x y → Performed g (byte 13 ∷ []) tb jb tc jc y z
    → OnOk r (Performed g (byte 10 ∷ []) tc jc td jd z w) → OnOk r (Performed g (reverse (typed text)) ta ja td jd x w)
Typed-line g text ta ja tb jb tc jc td jd x y z w (Ok v) first second third =
    subst (λ es. Performed g es ta ja td jd x w) (sym (reversed-typed text))
    (Performed-append g (byte 13 ∷ reverse (map byte text)) (byte 10 ∷ []) ta ja tc jc td jd x z w (Performed-append g (reverse (map byte text)) (byte 13 ∷ []) ta ja tb jb tc jc x y z first second) third)
Typed-line g text ta ja tb jb tc jc td jd x y z w (Err e) first second third = third
