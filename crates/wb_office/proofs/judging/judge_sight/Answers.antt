use Rattle.wb_office.proofs.Verdicts.{by_spent}
use Rattle.wb_office.proofs.judging.judge_sight.Goals as goal

pub returns-in-Standing-clause-judged : goal.returns-in-Standing-clause-judged
returns-in-Standing-clause-judged g c = λ a asks scale lists seen. let found = rw c.in-Standing.is at seen in c.judge_repetition.ensures.judged a asks lists found.0 found.1

pub returns-in-Spent-clause-judged : goal.returns-in-Spent-clause-judged
returns-in-Spent-clause-judged g c = λ a asks scale lists seen. let found = rw c.in-Spent.is at seen in by_spent a found.0 found.1

pub returns-in-New-clause-judged : goal.returns-in-New-clause-judged
returns-in-New-clause-judged g c = λ a asks scale lists seen. let found = rw c.in-New.is at seen in c.judge_new.ensures.judged a asks scale found.0 found.1 found.2
