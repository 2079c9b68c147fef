-- A refusal changes nothing.
use Rattle.std.proofs.Common.{◌≡◌, ap, ℕ, List, length, Result, Ok, Err, refl}
use Rattle.wb_office.proofs.Common.{EntryParts, Finding, Sound, Damaged, Void, finding_in, Refusal, Request, Weigh, VoidOpen, Purge, Content, answer_by_verdict, asking, entries_below, entries_after, if_sound, is_marked, nothing, outcome, outcome_of, purged_content, spent_by_outcome, unless_damaged, Situation, ChangesNothing, RefusalsChangeNothing, Verdict, accepted, refused, repeated, verdict}

told_no_refusal : {C : Type 0} (text : Content) (why : Refusal) → ◌≡◌ {A = Result Content Refusal} (Ok text) (Err why) → C
told_no_refusal text why same = absurd (cc)

refusal_adds_nothing : (es : List EntryParts) (v : Verdict) (why : Refusal) → answer_by_verdict es v ≡ Err why → outcome_of v ≡ nothing
refusal_adds_nothing es (refused because) why is = refl
refusal_adds_nothing es (repeated e) why is = refl
refusal_adds_nothing es (accepted e) why is = told_no_refusal _ why is

refusal_purges_nothing : (f : Finding) (text : Content) (why : Refusal) → if_sound f text ≡ Err why → (c : ℕ) → unless_damaged f c ≡ nothing
refusal_purges_nothing (Sound count) text why is c = told_no_refusal text why is
refusal_purges_nothing (Damaged number) text why is c = refl

stays : (w : Situation) (b : ℕ) (request : Request) → ((c : ℕ) → outcome w c request ≡ nothing) → ChangesNothing w b request
stays w b request none = record {
  entries = ap (λ o. entries_after o w.entries) (none b);
  spent = ap (λ o. spent_by_outcome o w.entries w.spent) (none b);
  unmarked = ap is_marked (none 0);
}

pub refusals_change_nothing : RefusalsChangeNothing
refusals_change_nothing w b (Weigh key kind plate) why is = stays w b (Weigh key kind plate) (λ c. refusal_adds_nothing w.entries (verdict (asking w key kind plate)) why is)
refusals_change_nothing w b (VoidOpen key plate) why is = stays w b (VoidOpen key plate) (λ c. refusal_adds_nothing w.entries (verdict (asking w key Void plate)) why is)
refusals_change_nothing w b Purge why is = stays w b Purge (λ c. refusal_purges_nothing (finding_in w.entries) (purged_content (length (entries_below b w.entries))) why is c)
refusals_change_nothing w b _ why is = record { entries = refl; spent = refl; unmarked = refl }
