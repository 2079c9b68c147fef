-- A weighing or void that a stop broke off.
use Rattle.std.proofs.Common.{◌≡◌, ◌⊎◌, inl, inr, ap, subst, sym, ◌∙◌, ℕ, Result, refl}
use Rattle.wb_office.proofs.Common.{Ghosts, Reopens, AreLists, Refusal, Request, Content, office_answer, answer_by_verdict, Asking, IsOnLists, Journal, RequestTurn, left, situation_of_turn, IsByKey, AnsweredAfterStops, Asks, IsAnsweredByKey, IsFoundAgain, verdict, wanted}
use Rattle.sqlite.specs.Effect.{Database, IsDatabase}
use Rattle.wb_store.proofs.Theorems.{law_of_reopening}
use Rattle.wb_office.proofs.Verdicts.{key_decides}

-- the answer is that of the verdict
pub of_verdict : (a : Asking) (bound : ℕ) (request : Request) → Asks request a → office_answer a.now bound request ≡ answer_by_verdict a.now.entries (verdict a)
of_verdict a bound request (inl weighs) = rw weighs refl
of_verdict a bound request (inr voids) = subst (λ k. office_answer a.now bound request ≡ answer_by_verdict a.now.entries (verdict (record a { kind = k }))) (sym voids.1) (rw voids.0 refl)

by_verdict : (a : Asking) (again : Result Content Refusal) → IsByKey a → again ≡ answer_by_verdict a.now.entries (verdict a) → IsAnsweredByKey a again
by_verdict a again decides is = record {
  kept = λ e stored sound. is ∙ ap (answer_by_verdict a.now.entries) (decides.repeated e stored.found stored.same sound);
  damaged = λ e stored damaged. is ∙ ap (answer_by_verdict a.now.entries) (decides.damaged e stored.found stored.same damaged);
  reused = λ e found other. is ∙ ap (answer_by_verdict a.now.entries) (decides.reused e found other);
  gone = λ spent. is ∙ ap (answer_by_verdict a.now.entries) (decides.gone spent);
  anew = λ none free. is ∙ ap (answer_by_verdict a.now.entries) (decides.anew none free);
}

on_lists : (now : Journal) → AreLists now.entries now.spent → (a : Asking) → IsOnLists now.entries now.spent a → IsByKey a
on_lists now lists a on = key_decides a (rw (on.entries, on.spent) lists)

module _ (j : Journal) (t : RequestTurn) (db : Database) (is : IsDatabase db) where
  found : (now : Journal) → (now ≡ j) ⊎ (now ≡ left j t) → Reopens db.trees now.entries now.spent → IsFoundAgain j t db
  found now whole reopens =
      let shown = law_of_reopening db.trees now.entries now.spent reopens db is refl in
      record {
        now = now;
        whole = whole;
        tables = shown.0;
        holds = shown.1;
        beside = shown.2;
        again = λ a bound on asks. by_verdict a (office_answer a.now bound t.request) (on_lists now shown.1.lists a on) (of_verdict a bound t.request asks);
      }

  either : Reopens db.trees j.entries j.spent ⊎ Reopens db.trees (left j t).entries (left j t).spent → IsFoundAgain j t db
  either (inl before) = found j (inl refl) before
  either (inr made) = found (left j t) (inr refl) made

pub answered_after_stops : {D : Type 0} (g : Ghosts D) → AnsweredAfterStops g
answered_after_stops g j t after asked db is leaves =
    either j t db is
    (asked.served.leaves (situation_of_turn j t) asked.on_scale asked.stood asked.honest (wanted t.request (situation_of_turn j t) t.bound)
    (record { bound = t.bound; is_bound = asked.is_bound; is = refl }) db.trees leaves)
