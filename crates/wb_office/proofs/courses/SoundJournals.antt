-- A journal in which the check finds no damage, after whatever was asked.
use Rattle.std.proofs.Common.{◌≡◌, ◌∙◌, sym, ap, subst, ℕ, ◌+◌, ◌≤◌, nat_le, List, [], ◌∷◌, ◌++◌, Option, Some, None, refl, arith}
use Rattle.wb_office.proofs.Common.{EntryParts, day_of, kept, IsRising, left_rises, sound-sealed, law_of_addition, law_of_kept, newest-more, newest-none, newest-some, newest_entry, next_from_newest, next_stays, number_after, SpentKey, Request, IsBoundAt, Outcome, entries_after, entries_left, spent_by_outcome, spent_left, Asking, Situation, situation_of_turn, AreSound, StaysSound, accepted, verdict, HasBound}
use Rattle.wb_journal.specs.LawsOfChain.{Follows}
use Rattle.wb_tables.specs.Purging.{spent_after_purge}
use Rattle.wb_office.proofs.FoundEntries.{is_some_same, none_some}
use Rattle.wb_office.proofs.Members.{among_kept, kept_among}
use Rattle.wb_office.proofs.NewEntries.{unsealed}
use Rattle.wb_office.proofs.courses.AcceptedEntries.{Comes, adding, asking_for, comes, is_new, purging, stays}
use Rattle.wb_office.proofs.courses.KnownEntries.{begins, has_open, kept_after}
use Rattle.wb_office.proofs.courses.Numbers.{next_more, number_is_next}

-- by number, without damage, and the newest entry, where one stands, has the number before the next
record IsWhole (es : List EntryParts) (ks : List SpentKey) : Type 0 where
  pub rising : IsRising es
  pub sound : AreSound es
  pub next : (newest : EntryParts) → newest_entry es ≡ Some newest → number_after es ks ≡ newest.number + 1

-- ---- after one request

-- an accepted entry follows those that stand
follows : (a : Asking) (e : EntryParts) → verdict a ≡ accepted e → IsWhole a.now.entries a.now.spent → Follows a.now.entries e
follows a e is whole =
    let made = (is_new a e is).made in
    record {
      rising = (begins a e is whole.rising).rising;
      next = λ newest is_newest. number_is_next a e is ∙ whole.next newest is_newest;
      sound = sound-sealed (unsealed a) e made;
      linked = rw made refl;
      closes = has_open a e is;
    }

whole_more : (a : Asking) (e : EntryParts) → verdict a ≡ accepted e → IsWhole a.now.entries a.now.spent → IsWhole (a.now.entries ++ e ∷ []) a.now.spent
whole_more a e is whole =
    let added = follows a e is whole in
    record {
      rising = added.rising;
      sound = law_of_addition a.now.entries e whole.sound added;
      next = λ newest is_newest.
          next_more a.now e (number_is_next a e is) ∙ ap (λ x. x.number + 1) (is_some_same (sym (newest-more a.now.entries e) ∙ is_newest));
    }

-- the newest entry that a purge leaves has the number of the newest before it
newest_kept : (b : ℕ) (es : List EntryParts) (x : EntryParts) → IsRising es → IsRising (kept b es) → newest_entry (kept b es) ≡ Some x → (y : EntryParts) × (newest_entry es ≡ Some y) × (x.number ≡ y.number)
newest_kept b es x rises rises_left is = go (newest_entry es) refl
  where
    go : (o : Option EntryParts) → newest_entry es ≡ o → (y : EntryParts) × (newest_entry es ≡ Some y) × (x.number ≡ y.number)
    go None none = let empty : newest_entry (kept b es) ≡ None = rw (newest-none es none) refl in none_some (sym empty ∙ is)
    go (Some y) some =
        let last = newest-some (kept b es) x rises_left is in
        let first = newest-some es y rises some in
        let here = among_kept b es x last.0 in
        let below : x.number ≤ y.number = first.1 x here.0 in
        let above : y.number ≤ x.number = last.1 y (kept_among b es y first.0 (omega (arith, here.1, below))) in
        (y, some, omega (arith, below, above))

whole_kept : (w : Situation) (b : ℕ) → IsBoundAt w.setup w.entries w.spent w.at b → IsWhole w.entries w.spent → IsWhole (kept b w.entries) (spent_after_purge b w.entries w.spent)
whole_kept w b bound whole =
    let rises = left_rises (λ x. nat_le b x.number) w.entries whole.rising in
    record {
      rising = rises;
      sound = law_of_kept w.entries (number_after w.entries w.spent) (day_of w.at) w.setup.retention_days b whole.rising bound whole.sound;
      next = λ newest is_newest.
          let before = newest_kept b w.entries newest whole.rising rises is_newest in
          next_stays b w.entries w.spent ∙ whole.next before.0 before.1 ∙ ap (λ n. n + 1) (sym before.2);
    }

whole_left : (w : Situation) (b : ℕ) (request : Request) → HasBound request w b → IsWhole w.entries w.spent → IsWhole (entries_left w b request) (spent_left w b request)
whole_left w b request bound whole = go (comes w b request)
  where
    go : {o : Outcome} → Comes w b request o → IsWhole (entries_after o w.entries) (spent_by_outcome o w.entries w.spent)
    go (stays none) = whole
    go (adding asked e is one) = whole_more (asking_for asked w) e is whole
    go (purging ask count sound none) = whole_kept w b (subst (λ r. HasBound r w b) ask bound) whole

-- ---- after every course

pub stays_sound : StaysSound
stays_sound j ts lists bounds sound =
    (kept_after (λ i. IsWhole i.entries i.spent) (λ i t bound whole. whole_left (situation_of_turn i t) t.bound t.request bound whole)
    j (record { rising = lists.rising; sound = sound; next = λ newest is. next_from_newest j.entries j.spent newest lists is }) ts bounds).sound
