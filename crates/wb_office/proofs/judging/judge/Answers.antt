use Rattle.wb_office.proofs.LookUps.{made, reads, told}
use Rattle.wb_office.proofs.judging.judge.Goals as goal

pub returns-clause-looks : goal.returns-clause-looks
returns-clause-looks g c =
    told g.D.Store (made g.D.Store _ _ (reads g.D.Store c.in_ok-sight.ensures.keeps c.in_ok-sight.ensures.closes)) (λ es ks s h a asks scale lists.
    c.judge_sight.ensures.judged a asks scale (rw (lists.entries, lists.spent) s.rests.holds.lists)
    (rw (lists.entries, lists.spent, asks.of_key, asks.of_plate) (c.in_ok-sight.ensures.found es ks s h)))
