use Rattle.std.proofs.Common.{rules, ◌≡◌, true, int_eq, List, length, replicate, Some, ◌∙◌, ap, sym, ℕ, ℤ, w32, to_z, of_z, arith}
use Rattle.std.specs.List.{slice_get}
use Rattle.std.specs.Option.{option_eq}
use Rattle.wb_window.proofs.Fronts.{all_same}
use Rattle.wb_window.proofs.Leaving.{is_some}
use Rattle.wb_window.specs.helpers.Candidates.{candidates}
use Rattle.wb_window.specs.helpers.Queues.{queues_of}
use Rattle.wb_window.specs.declared.queues.Queues.{Queues}
use Rattle.wb_window.specs.declared.candidates.Extreme.TheVariants.{Greatest, Least}
use Rattle.wb_window.specs.declared.reading.Reading.{Reading}
use Rattle.wb_window.specs.declared.reading.Reading.TheVariants.{Load}
use Rattle.wb_window.proofs.queues.Queues.are_all.Goals as goal
use Rattle.wb_window.proofs.queues.Queues.are_all.Goals.{then-self-eq0, else-self-eq0}

-- both queues begin with this load, and no reading is lost
begin_alike : (queues : Queues) (size : ℕ) (readings : List Reading) (load : ℤ) → queues ≡ queues_of size readings → queues.lost ≡ 0
    → option_eq int_eq (slice_get queues.greatest.loads.items 0) (Some load) ≡ true
    → option_eq int_eq (slice_get queues.least.loads.items 0) (Some load) ≡ true
    → readings ≡ replicate (length readings) (Load load)
begin_alike queues size readings load e none high low =
    let greatest : slice_get (candidates Greatest readings) 0 ≡ Some load =
    sym (ap (λ queues. slice_get queues.greatest.loads.items 0) e) ∙ is_some (slice_get queues.greatest.loads.items 0) load high in
    let least : slice_get (candidates Least readings) 0 ≡ Some load =
    sym (ap (λ queues. slice_get queues.least.loads.items 0) e) ∙ is_some (slice_get queues.least.loads.items 0) load low in
    all_same load readings (sym (ap (λ queues. queues.lost) e) ∙ none) greatest least

pub returns-then-is_first : goal.returns-then-is_first
returns-then-is_first c size readings e same =
    let load : to_z w32 (of_z w32 c.in-Load.load) ≡ c.in-Load.load = search rules in
    let low = rw load at (sym c.is_first-then-is_first.ensures ∙ same) in
    rw c.in-Load.is
    (elim c.if-self-eq0.branch [
      | then-self-eq0 w ↦
          begin_alike c.args.self.now size readings c.in-Load.load e (omega (arith, w.if-self-eq0.true))
          (rw load at (sym w.is_first.ensures ∙ sym w.value-is ∙ c.if-is_first.true)) low
      | else-self-eq0 w ↦ absurd (omega (arith, sym c.if-is_first.true ∙ w.value-is))
    ])
