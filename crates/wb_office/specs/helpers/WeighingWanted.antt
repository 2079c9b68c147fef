-- What is wanted of a weighing or void.
use Rattle.std.specs.Prelude.{◌≡◌, Option}
use Rattle.wb_journal.specs.declared.entry.EntryParts.{EntryParts}
use Rattle.wb_office.specs.declared.judging.WeighingRequest.{WeighingRequest}
use Rattle.wb_office.specs.Answer.{answer_by_verdict, asking, entries_after, is_marked, outcome_of, spent_by_outcome}
use Rattle.wb_office.specs.NamedEntry.{entry_of_verdict}
use Rattle.wb_office.specs.Situation.{Situation}
use Rattle.wb_office.specs.Wanted.{Wanted}
use Rattle.wb_office.specs.Verdict.{Verdict, verdict}

abbrev pub wanted_by : Situation → Verdict → Wanted
wanted_by w v = record {
  answer = answer_by_verdict w.entries v;
  entries = entries_after (outcome_of v) w.entries;
  spent = spent_by_outcome (outcome_of v) w.entries w.spent;
  marks = is_marked (outcome_of v);
}

-- the answer of the verdict, with what it leaves
abbrev pub IsWeighingWanted : WeighingRequest → Situation → Wanted → Type 0
IsWeighingWanted asked w want = want ≡ wanted_by w (verdict (asking w asked.key asked.kind asked.plate))

-- the entry that it repeats or adds
abbrev pub entry_asked_for : WeighingRequest → Situation → Option EntryParts
entry_asked_for asked w = entry_of_verdict (verdict (asking w asked.key asked.kind asked.plate))
