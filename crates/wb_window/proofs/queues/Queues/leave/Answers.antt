use Rattle.std.proofs.Common.{rules, ◌≡◌, ◌+◌, ◌-◌, [], ◌∷◌, ◌++◌, ◌∙◌, ap, refl, w32, to_z, of_z, arith}
use Rattle.wb_window.proofs.Leaving.{candidates-leave_lost}
use Rattle.wb_window.proofs.Oldest.{lost_of-last_load, lost_of-last_lost}
use Rattle.wb_window.specs.helpers.Queues.{queues_of, lost_of}
use Rattle.wb_window.specs.declared.candidates.Extreme.TheVariants.{Greatest, Least}
use Rattle.wb_window.specs.declared.reading.Reading.TheVariants.{Load, Lost}
use Rattle.wb_window.proofs.queues.Queues.leave.Goals as goal

pub returns-in-Load : goal.returns-in-Load
returns-in-Load c size readings e =
    let load : to_z w32 (of_z w32 c.in-Load.load) ≡ c.in-Load.load = search rules in
    let old : c.args.self.now ≡ queues_of size (readings ++ Load c.in-Load.load ∷ []) = rw c.in-Load.is at e in
    let high = c.leave.ensures Greatest size readings (rw load (ap (λ queues. queues.greatest) old)) in
    let low = c.leave-in-Load.ensures Least size readings (rw load (ap (λ queues. queues.least) old)) in
    let lost : c.args.self.now.lost ≡ lost_of readings = ap (λ queues. queues.lost) old ∙ lost_of-last_load readings c.in-Load.load in
    rw (high, low, lost) refl

pub returns-in-Lost : goal.returns-in-Lost
returns-in-Lost c size readings e =
    let old : c.args.self.now ≡ queues_of size (readings ++ Lost ∷ []) = rw c.in-Lost.is at e in
    let count : lost_of (readings ++ Lost ∷ []) ≡ lost_of readings + 1 = lost_of-last_lost readings in
    let less : lost_of (readings ++ Lost ∷ []) - 1 ≡ lost_of readings = omega arith in
    rw (old, candidates-leave_lost Greatest readings, candidates-leave_lost Least readings, less) refl
