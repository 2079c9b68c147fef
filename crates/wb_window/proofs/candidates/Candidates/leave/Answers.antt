use Rattle.circular_buffer.specs.Buffer.{buffer}
use Rattle.std.proofs.Common.{rules, ◌≡◌, ◌≢◌, true, false, int_eq, [], ◌∷◌, ◌++◌, Some, sym, ◌∙◌, ap, w32, to_z, of_z}
use Rattle.std.specs.List.{slice_get}
use Rattle.std.specs.Option.{option_eq}
use Rattle.wb_window.proofs.Leaving.{queue_of-leave, queue_of-leave_other, is_some, is_other}
use Rattle.wb_window.specs.helpers.Candidates.{candidates}
use Rattle.wb_window.specs.declared.reading.Reading.TheVariants.{Load}
use Rattle.wb_window.proofs.candidates.Candidates.leave.Goals as goal

pub returns-then-is_first : goal.returns-then-is_first
returns-then-is_first c extreme size readings e =
    let load : to_z w32 (of_z w32 c.args.load) ≡ c.args.load = search rules in
    let test : option_eq int_eq (slice_get c.args.self.now.loads.items 0) (Some c.args.load) ≡ true = rw load at (sym c.is_first.ensures ∙ c.if-is_first.true) in
    let all = ap (λ queue. queue.loads.items) e in
    let first : slice_get (candidates extreme (readings ++ Load c.args.load ∷ [])) 0 ≡ Some c.args.load =
    sym (ap (λ loads. slice_get loads 0) all) ∙ is_some (slice_get c.args.self.now.loads.items 0) c.args.load test in
    rw (c.pop_front.ensures.items, e)
    (ap (λ loads. record { extreme = extreme; loads = buffer loads size }) (queue_of-leave extreme c.args.load readings first))

pub returns-else-is_first : goal.returns-else-is_first
returns-else-is_first c extreme size readings e =
    let load : to_z w32 (of_z w32 c.args.load) ≡ c.args.load = search rules in
    let test : option_eq int_eq (slice_get c.args.self.now.loads.items 0) (Some c.args.load) ≡ false = rw load at (sym c.is_first.ensures ∙ c.if-is_first.false) in
    let all = ap (λ queue. queue.loads.items) e in
    let first : slice_get (candidates extreme (readings ++ Load c.args.load ∷ [])) 0 ≢ Some c.args.load =
    λ same. is_other (slice_get c.args.self.now.loads.items 0) c.args.load test (ap (λ loads. slice_get loads 0) all ∙ same) in
    e ∙ ap (λ loads. record { extreme = extreme; loads = buffer loads size }) (queue_of-leave_other extreme c.args.load readings first)
