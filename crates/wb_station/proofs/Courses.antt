-- The requests of a history as a course of the office.
use Rattle.std.proofs.Common.{◌≡◌, ℕ, ◌⊎◌, inl, inr, refl, sym, ap, subst, subst₂, ◌∙◌, true, false, List, [], ◌∷◌, Some, Result, Ok, Err}
use Rattle.wb_instrument.specs.Setup.{Setup}
use Rattle.wb_journal.specs.declared.entry.EntryParts.{EntryParts}
use Rattle.wb_messages.specs.declared.request.Request.{Request}
use Rattle.wb_office.specs.CourseOfRequests as course
use Rattle.wb_office.specs.CourseOfRequests.{AreBounds, Journal, RequestTurn, after, answer_in, left}
use Rattle.wb_office.specs.Laws.{IsGone, IsKeptEntry}
use Rattle.wb_office.specs.Wanted.{Wanted, HasBound, IsWanted}
use Rattle.wb_tables.specs.Lists.{entry_by_key, is_spent}
use Rattle.wb_office.proofs.Theorems.{law_of_repeated_requests}
use Rattle.wb_http.specs.declared.fault.HttpFault.{HttpFault}
use Rattle.wb_station.specs.Account.{Account, ComesOf, IsAccount, Out, account_left, situation_at}
use Rattle.wb_station.specs.CourseOfHistory.{AddsEntry, AreTurns, HasCourse, IsCourse, KeptForGood, SameAgain, journal_of, request_turn}
use Rattle.wb_messages.specs.Happening.{Happening, reading, byte, hang_up, office}
use Rattle.wb_http.specs.HttpJudgement.{IsJudged}

-- what a request leaves is what its turn leaves
left_by : (s : Setup) (at : ℕ) (request : Request) (before : Account) (want : Wanted) (is : IsWanted request (situation_at s at before) want)
    → journal_of (account_left want before) ≡ left (journal_of before) (request_turn s at request is.bound before)
left_by s at request before want is = ap (λ x. journal_of (account_left x before)) is.is

same_course : (s : Setup) (opening : Account) (p : Happening) (h : List Happening) (before a : Account) → journal_of a ≡ journal_of before → (c : IsCourse s opening h before)
    → AreTurns s opening (p ∷ h) c.turns → IsCourse s opening (p ∷ h) a
same_course s opening p h before a same c are = record { turns = c.turns; of_history = are; bounds = c.bounds; leads = same ∙ c.leads }

one_turn : (s : Setup) (opening : Account) (at : ℕ) (bytes : List ℕ) (h : List Happening) (r : Result Request HttpFault) (before a : Account) (out : Out) → IsJudged bytes r
    → IsAccount s opening h before → ComesOf s at r before a out → IsCourse s opening h before → IsCourse s opening (office at bytes false ∷ h) a
one_turn s opening at bytes h (Err fault) before a out judged is comes c = record {
  turns = c.turns;
  of_history = (before, Err fault, [], c.turns, is, judged, refl, c.of_history, refl);
  bounds = c.bounds;
  leads = ap journal_of comes.0 ∙ c.leads;
}
one_turn s opening at bytes h (Ok request) before a out judged is comes c =
    let t : RequestTurn = request_turn s at request comes.1.bound before in
    record {
      turns = t ∷ c.turns;
      of_history = (before, Ok request, t ∷ [], c.turns, is, judged, (comes.1.bound, refl), c.of_history, refl);
      bounds = (subst (λ j. HasBound request (course.situation_of_turn j t) comes.1.bound) c.leads comes.1.is_bound, c.bounds);
      leads = ap journal_of comes.2 ∙ left_by s at request before comes.0 comes.1 ∙ ap (λ j. left j t) c.leads;
    }

pub has_course : HasCourse
has_course s opening [] a is = record { turns = []; of_history = refl; bounds = tt; leads = ap journal_of is }
has_course s opening (reading r ∷ h) a is = let c = has_course s opening h is.0 is.1 in same_course s opening (reading r) h is.0 a (ap journal_of is.2.1.0) c c.of_history
has_course s opening (byte b ∷ h) a is = let c = has_course s opening h is.0 is.1 in same_course s opening (byte b) h is.0 a (ap journal_of is.2.1.0) c c.of_history
has_course s opening (hang_up ∷ h) a is = let c = has_course s opening h is.0 is.1 in same_course s opening hang_up h is.0 a (ap journal_of is.2.1.0) c c.of_history
has_course s opening (office at bytes true ∷ h) a is = let c = has_course s opening h is.0 is.1 in same_course s opening (office at bytes true) h is.0 a (ap journal_of is.2.1.0) c c.of_history
has_course s opening (office at bytes false ∷ h) a is =
    one_turn s opening at bytes h is.2.1.0 is.0 a is.2.0 is.2.1.1 is.1 is.2.1.2 (has_course s opening h is.0 is.1)

module _ (s : Setup) (before : Account) (request : Request) (want : Wanted) (e : EntryParts) (adds : AddsEntry s before request want e) (later : List Happening) (c : Account)
    (account : IsAccount s (account_left want before) later c) where
  abbrev first_turn : RequestTurn
  first_turn = request_turn s adds.at request adds.is.bound before

  start : journal_of (account_left want before) ≡ left (journal_of before) first_turn
  start = left_by s adds.at request before want adds.is

  course_of : IsCourse s (account_left want before) later c
  course_of = has_course s (account_left want before) later c account

  bounds : AreBounds (left (journal_of before) first_turn) course_of.turns
  bounds = subst (λ j. AreBounds j course_of.turns) start course_of.bounds

  ends : journal_of c ≡ after (left (journal_of before) first_turn) course_of.turns
  ends = course_of.leads ∙ ap (λ j. after j course_of.turns) start

  either : (u : RequestTurn) → u.request ≡ request → IsKeptEntry (journal_of c) e (answer_in (journal_of before) first_turn) (answer_in (journal_of c) u) ⊎ IsGone (journal_of c) e (answer_in (journal_of c) u)
  either u same = subst (λ j. IsKeptEntry j e (answer_in (journal_of before) first_turn) (answer_in j u) ⊎ IsGone j e (answer_in j u)) (sym ends)
      (law_of_repeated_requests (journal_of before) adds.lists first_turn e adds.adds course_of.turns bounds u same)

  pub again : (at : ℕ) (want' : Wanted) → IsWanted request (situation_at s at c) want' → IsKeptEntry (journal_of c) e want.answer want'.answer ⊎ IsGone (journal_of c) e want'.answer
  again at want' is' = subst₂ (λ x y. IsKeptEntry (journal_of c) e x y ⊎ IsGone (journal_of c) e y) (sym (ap (λ x. x.answer) adds.is.is)) (sym (ap (λ x. x.answer) is'.is))
      (either (request_turn s at request is'.bound c) refl)

  pub stays : (entry_by_key c.entries e.key ≡ Some e) ⊎ (is_spent c.spent e.key ≡ true)
  stays = one (either first_turn refl)
    where
      one : IsKeptEntry (journal_of c) e (answer_in (journal_of before) first_turn) (answer_in (journal_of c) first_turn) ⊎ IsGone (journal_of c) e (answer_in (journal_of c) first_turn)
          → (entry_by_key c.entries e.key ≡ Some e) ⊎ (is_spent c.spent e.key ≡ true)
      one (inl kept) = inl kept.stored
      one (inr gone) = inr gone.spent

pub same_again : SameAgain
same_again = again

pub kept_for_good : KeptForGood
kept_for_good = stays
