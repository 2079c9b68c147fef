use Rattle.std.proofs.Common.{rules, ◌≡◌, ap, refl, w32, to_z, of_z}
use Rattle.wb_window.specs.declared.candidates.Extreme.TheVariants.{Greatest, Least}
use Rattle.wb_window.proofs.queues.Queues.enter.Goals as goal

pub returns-in-Load : goal.returns-in-Load
returns-in-Load c size readings short e =
    let load : to_z w32 (of_z w32 c.in-Load.load) ≡ c.in-Load.load = search rules in
    let high = c.enter.ensures Greatest size readings short (ap (λ queues. queues.greatest) e) in
    let low = c.enter-in-Load.ensures Least size readings short (ap (λ queues. queues.least) e) in
    rw (c.in-Load.is, high, low, load, ap (λ queues. queues.lost) e) refl
