-- A request that was answered with an entry and is made again.
use Rattle.std.proofs.Common.{◌≡◌, ◌∙◌, sym, ap, subst, ◌⊎◌, ℕ, Bool, true, false, inl, inr, not, ◌&&◌, ◌||◌, if◌then◌else◌, List, [], ◌∷◌, ◌++◌, Option, Some, None, Result, Ok, refl, true≢false}
use Rattle.wb_office.proofs.Common.{bytes_eq-Decides, list_any, is_none, bytes_eq, EntryParts, Kind, First, Second, Single, Void, is_sound_entry, is_closing_kind, is_second_kind, same_kind, open_entry, partner_in, IsRising, find-among, sound-sealed, law_of_closing, AreLists, entry_by_key, has_key, is_spent, Refusal, Request, Content, office_answer, answer_by_verdict, asking, entries_after, outcome_of, spent_by_outcome, entry_content, ticket_content, Asking, Situation, holds_of, is_damaged_entry, is_other, AreBounds, Journal, RequestTurn, after, answer_in, entry_of, left, situation_of_turn, AnsweredAgain, IsGone, IsKeptEntry, Verdict, accepted, of_new, refused, repeated, verdict}
use Rattle.wb_journal.specs.Texts.{ticket}
use Rattle.wb_messages.specs.declared.refusal.Refusal.TheVariants as refusal
use Rattle.wb_office.proofs.FoundEntries.{found_by_number, is_some_same, none_some}
use Rattle.wb_office.proofs.ConditionsInOrder.{none_holds}
use Rattle.wb_office.proofs.NewEntries.{unsealed}
use Rattle.wb_office.proofs.Verdicts.{by_repetition, by_spent}
use Rattle.wb_office.proofs.courses.AcceptedEntries.{IsAsked, and_true, asking_for, is_new, is_repeated, is_told}
use Rattle.wb_office.proofs.courses.KnownEntries.{IsKnown, begins, has_open, known_after, stood}
use Rattle.wb_office.proofs.courses.StoredEntries.{IsPast, IsStored}

-- ---- the verdict on it

same_kind_itself : (k : Kind) → same_kind k k ≡ true
same_kind_itself First = refl
same_kind_itself Second = refl
same_kind_itself Single = refl
same_kind_itself Void = refl

no_other : (now : Situation) (key : List ℕ) (kind : Kind) (plate : List ℕ) (e : EntryParts) → kind ≡ e.kind → plate ≡ e.plate → is_other (asking now key kind plate) e ≡ false
no_other now key kind plate e of_kind of_plate = rw (of_kind, of_plate, same_kind_itself e.kind, (bytes_eq-Decides e.plate e.plate).1 refl) refl

module _ (now : Situation) (key : List ℕ) (kind : Kind) (plate : List ℕ) (e : EntryParts) (of_key : key ≡ e.key) where
  judged_again : (p : Option EntryParts) → is_other (asking now key kind plate) e ≡ false → IsStored now.entries now.spent e p → is_damaged_entry now.entries e ≡ false → verdict (asking now key kind plate) ≡ repeated e
  judged_again p same stored sound =
      let found : entry_by_key now.entries key ≡ Some e = rw of_key stored.found in
      let unspent : is_spent now.spent key ≡ false = rw of_key stored.unspent in
      by_repetition (asking now key kind plate) e found same unspent sound

  judged_gone : IsPast now.entries now.spent e → verdict (asking now key kind plate) ≡ refused refusal.Gone
  judged_gone past =
      let spent : is_spent now.spent key ≡ true = rw of_key past.spent in
      by_spent (asking now key kind plate) (missing now.entries (rw of_key past.absent)) spent
    where
      missing : (es : List EntryParts) → list_any (has_key key) es ≡ false → entry_by_key es key ≡ None
      missing [] none = refl
      missing (x ∷ xs) none = go (bytes_eq x.key key) none (λ n. missing xs n)
        where
          go : (c : Bool) → (c || list_any (has_key key) xs) ≡ false → (list_any (has_key key) xs ≡ false → entry_by_key xs key ≡ None) → (if c then Some x else entry_by_key xs key) ≡ None
          go true n rest = absurd (true≢false n)
          go false n rest = rest n

-- ---- it is sound, and its text the same

holds_some : (o : Option EntryParts) → is_none o ≡ false → holds_of (λ f. not (is_sound_entry f)) o ≡ false → holds_of is_sound_entry o ≡ true
holds_some None there sound = absurd (true≢false there)
holds_some (Some f) there sound = go (is_sound_entry f) sound
  where
    go : (c : Bool) → not c ≡ false → c ≡ true
    go true h = refl
    go false h = absurd (true≢false h)

pub of_second : (k : Kind) → is_second_kind k ≡ true → is_closing_kind k ≡ true
of_second First s = absurd (true≢false (sym s))
of_second Second s = refl
of_second Single s = absurd (true≢false (sym s))
of_second Void s = refl

-- the First that an accepted Second closes is sound
partner_sound : (a : Asking) (e : EntryParts) → verdict a ≡ accepted e → IsRising (a.now.entries ++ e ∷ []) → is_second_kind e.kind ≡ true
    → holds_of is_sound_entry (partner_in (a.now.entries ++ e ∷ []) e) ≡ true
partner_sound a e is rising second =
    let new = is_new a e is in
    let kind : a.kind ≡ e.kind = rw new.made refl in
    let plate : a.plate ≡ e.plate = rw new.made refl in
    let free = none_holds of_new a new.judged in
    let late = free.1.1.1.1.1.1.1.1.1 in
    let closing = of_second e.kind second in
    let sound : holds_of (λ f. not (is_sound_entry f)) (open_entry a.now.entries e.plate) ≡ false = and_true (is_second_kind e.kind) _ second (rw (kind, plate) at late.1.1.0) in
    rw (law_of_closing a.now.entries e rising closing) (holds_some (open_entry a.now.entries e.plate) (has_open a e is closing) sound)

pub not_damaged : (es : List EntryParts) (e : EntryParts) → is_sound_entry e ≡ true → (is_second_kind e.kind ≡ true → holds_of is_sound_entry (partner_in es e) ≡ true) → is_damaged_entry es e ≡ false
not_damaged es e sound partner_is = go (is_second_kind e.kind) refl
  where
    go : (c : Bool) → is_second_kind e.kind ≡ c → (not (is_sound_entry e) || (c && not (holds_of is_sound_entry (partner_in es e)))) ≡ false
    go true t = rw (sound, partner_is t) refl
    go false t = rw sound refl

pub same_text : (es fs : List EntryParts) (e : EntryParts) (k : Kind) → partner_in es e ≡ partner_in fs e → entry_content es e k ≡ entry_content fs e k
same_text es fs e First same = refl
same_text es fs e Second same = ap (λ p. ticket_content (ticket e p)) same
same_text es fs e Single same = refl
same_text es fs e Void same = refl

pub same_damage : (es fs : List EntryParts) (e : EntryParts) → partner_in es e ≡ partner_in fs e → is_damaged_entry es e ≡ is_damaged_entry fs e
same_damage es fs e same = ap (λ p. not (is_sound_entry e) || (is_second_kind e.kind && not (holds_of is_sound_entry p))) same

-- ---- the law

-- a request was answered with this entry, which stands in the journal after it
record IsTold (j : Journal) (request : Request) (e : EntryParts) (first : Result Content Refusal) : Type 0 where
  pub asked : IsAsked request
  pub of_key : asked.key ≡ e.key
  pub same : (now : Situation) → is_other (asking_for asked now) e ≡ false
  pub known : IsKnown j.entries j.spent e (partner_in j.entries e)
  pub whole : is_damaged_entry j.entries e ≡ false
  pub told : first ≡ Ok (entry_content j.entries e e.kind)

told_again : (j : Journal) (request : Request) (e : EntryParts) (first : Result Content Refusal) → IsTold j request e first → (ts : List RequestTurn) → AreBounds j ts
    → (u : RequestTurn) → u.request ≡ request → IsKeptEntry (after j ts) e first (answer_in (after j ts) u) ⊎ IsGone (after j ts) e (answer_in (after j ts) u)
told_again j request e first is ts bounds u same = go known.state
  where
    known : IsKnown (after j ts).entries (after j ts).spent e (partner_in j.entries e)
    known = known_after j e (partner_in j.entries e) is.known ts bounds

    answers : answer_in (after j ts) u ≡ answer_by_verdict (after j ts).entries (verdict (asking_for is.asked (situation_of_turn (after j ts) u)))
    answers = ap (office_answer (situation_of_turn (after j ts) u) u.bound) same ∙ is.asked.answers (situation_of_turn (after j ts) u) u.bound

    go : IsStored (after j ts).entries (after j ts).spent e (partner_in j.entries e) ⊎ IsPast (after j ts).entries (after j ts).spent e
        → IsKeptEntry (after j ts) e first (answer_in (after j ts) u) ⊎ IsGone (after j ts) e (answer_in (after j ts) u)
    go (inl stored) =
        let sound : is_damaged_entry (after j ts).entries e ≡ false = same_damage (after j ts).entries j.entries e stored.paired ∙ is.whole in
        let text : ◌≡◌ {A = Result Content Refusal} (Ok (entry_content (after j ts).entries e e.kind)) first = ap Ok (same_text (after j ts).entries j.entries e e.kind stored.paired) ∙ sym is.told in
        let judged = judged_again (situation_of_turn (after j ts) u) is.asked.key is.asked.kind is.asked.plate e is.of_key (partner_in j.entries e) (is.same (situation_of_turn (after j ts) u)) stored sound in
        inl (record {
          stored = stored.found;
          same = answers ∙ ap (answer_by_verdict (after j ts).entries) judged ∙ text;
          ticket = λ has. rw (found_by_number (has_key e.key) (after j ts).entries e known.rising stored.found, has, sound) text;
        })
    go (inr past) =
        let judged = judged_gone (situation_of_turn (after j ts) u) is.asked.key is.asked.kind is.asked.plate e is.of_key past in
        inr (record { spent = past.spent; gone = answers ∙ ap (answer_by_verdict (after j ts).entries) judged })

-- it added the entry
told_added : (j : Journal) (t : RequestTurn) (e : EntryParts) → IsRising j.entries → (asked : IsAsked t.request) → verdict (asking_for asked (situation_of_turn j t)) ≡ accepted e
    → IsTold (left j t) t.request e (answer_in j t)
told_added j t e rising asked accepts =
    let a : Asking = asking_for asked (situation_of_turn j t) in
    let is = asked.outcomes (situation_of_turn j t) t.bound ∙ ap outcome_of accepts in
    let made = (is_new a e accepts).made in
    let known = begins a e accepts rising in
    let whole = not_damaged (j.entries ++ e ∷ []) e (sound-sealed (unsealed a) e made) (λ second. partner_sound a e accepts known.rising second) in
    let told = asked.answers (situation_of_turn j t) t.bound ∙ ap (answer_by_verdict j.entries) accepts in
    record {
      asked = asked;
      of_key = sym (ap (λ x. x.key) made);
      same = λ now. no_other now asked.key asked.kind asked.plate e (sym (ap (λ x. x.kind) made)) (sym (ap (λ x. x.plate) made));
      known = subst (λ o. IsKnown (entries_after o j.entries) (spent_by_outcome o j.entries j.spent) e (partner_in (entries_after o j.entries) e)) (sym is) known;
      whole = subst (λ o. is_damaged_entry (entries_after o j.entries) e ≡ false) (sym is) whole;
      told = subst (λ o. answer_in j t ≡ Ok (entry_content (entries_after o j.entries) e e.kind)) (sym is) told;
    }

-- it repeated the entry
told_repeated : (j : Journal) (t : RequestTurn) (e : EntryParts) → AreLists j.entries j.spent → (asked : IsAsked t.request) → verdict (asking_for asked (situation_of_turn j t)) ≡ repeated e
    → IsTold (left j t) t.request e (answer_in j t)
told_repeated j t e lists asked is =
    let w = situation_of_turn j t in
    let again = is_repeated (asking_for asked w) e is in
    let found = find-among (has_key asked.key) j.entries e again.found in
    let stays = asked.outcomes w t.bound ∙ ap outcome_of is in
    let told = asked.answers w t.bound ∙ ap (answer_by_verdict j.entries) is in
    record {
      asked = asked;
      of_key = sym ((bytes_eq-Decides e.key asked.key).0 found.1);
      same = λ now. again.same;
      known = subst (λ o. IsKnown (entries_after o j.entries) (spent_by_outcome o j.entries j.spent) e (partner_in (entries_after o j.entries) e)) (sym stays) (stood j.entries j.spent e lists found.0);
      whole = subst (λ o. is_damaged_entry (entries_after o j.entries) e ≡ false) (sym stays) again.whole;
      told = subst (λ o. answer_in j t ≡ Ok (entry_content (entries_after o j.entries) e e.kind)) (sym stays) told;
    }

pub answered_again : AnsweredAgain
answered_again j lists t e some ts bounds u same = told_again (left j t) t.request e (answer_in j t) (go (is_told (situation_of_turn j t) t.request e some)) ts bounds u same
  where
    by_verdict : (asked : IsAsked t.request) (v : Verdict) → verdict (asking_for asked (situation_of_turn j t)) ≡ v → entry_of v ≡ Some e → IsTold (left j t) t.request e (answer_in j t)
    by_verdict asked (refused why) is told = none_some told
    by_verdict asked (repeated f) is told = told_repeated j t e lists asked (is ∙ ap repeated (is_some_same told))
    by_verdict asked (accepted f) is told = told_added j t e lists.rising asked (is ∙ ap accepted (is_some_same told))

    go : (asked : IsAsked t.request) × (entry_of (verdict (asking_for asked (situation_of_turn j t))) ≡ Some e) → IsTold (left j t) t.request e (answer_in j t)
    go told = by_verdict told.0 (verdict (asking_for told.0 (situation_of_turn j t))) refl told.1
