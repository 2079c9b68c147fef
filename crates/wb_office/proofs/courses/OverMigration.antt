-- A request whose key was accepted before a migration, asked again after it.
use Rattle.std.proofs.Common.{◌≡◌, ◌∙◌, sym, ap, ℕ, Bool, true, false, true≢false, inl, inr, not, ◌&&◌, ◌||◌, ◌==◌, if◌then◌else◌, List, [], ◌∷◌, length, map, Option, Some, None, refl}
use Rattle.wb_office.proofs.Common.{find, is_none, option_map, EntryParts, Among, find-among, finding, Sound, sound-sealed, is_sound_entry, is_second_kind, is_partner, partner_in, with_number, IsRising, entry_by_key, has_key, answer_by_verdict, holds_of, is_damaged_entry, is_other, is_spent, AnsweredAfterChaining, IsRepeatedAlike, IsTicketAlike, RepeatedOverMigration, TicketOverMigration, repeated, verdict}
use Rattle.std.specs.Prelude.{option_and_then}
use Rattle.wb_journal.proofs.Theorems.{law_of_fields}
use Rattle.wb_journal.proofs.offered.Chained.{chained-rising}
use Rattle.wb_journal.specs.Chain.{chained_after, linked_after, previous_after, with_link}
use Rattle.wb_journal.specs.Chaining.{chained}
use Rattle.wb_journal.specs.Check.{finding_in_v1, is_faulty_v1}
use Rattle.wb_journal.specs.Digest.{is_sound_v1}
use Rattle.wb_journal.specs.LawsOfChain.{but_digests}
use Rattle.wb_office.proofs.FoundEntries.{find_none, found_by_number, found_unspent, is_some_same, none_some}
use Rattle.wb_office.proofs.Members.{none_passes}
use Rattle.wb_office.specs.Answer.{makes_a_ticket}
use Rattle.wb_office.proofs.Verdicts.{by_gone, by_newness, by_other, by_repetition}
use Rattle.wb_office.proofs.courses.RepeatedRequests.{not_damaged, of_second}
use Rattle.wb_office.proofs.courses.Stops.{of_verdict}

-- ---- the chained entries

-- each is sealed
chained_sound : (o : Option EntryParts) (es : List EntryParts) (x : EntryParts) → Among x (chained_after o es) → is_sound_entry x ≡ true
chained_sound o [] x m = absurd m
chained_sound o (e ∷ es) x (inl same) = sound-sealed (with_link e (previous_after o e.number)) x same
chained_sound o (e ∷ es) x (inr m) = chained_sound (Some (linked_after o e)) es x m

-- a test that looks at no digest finds the same entry but for digests
found_alike : (p : EntryParts → Bool) → ((z : EntryParts) → p (but_digests z) ≡ p z) → (us xs : List EntryParts) → map but_digests us ≡ map but_digests xs
    → option_map but_digests (find p us) ≡ option_map but_digests (find p xs)
found_alike p blind us xs same = less us ∙ ap (find p) same ∙ sym (less xs)
  where
    less : (zs : List EntryParts) → option_map but_digests (find p zs) ≡ find p (map but_digests zs)
    less [] = refl
    less (z ∷ zs) = rw (blind z) (go (p z) (less zs))
      where
        go : (c : Bool) → option_map but_digests (find p zs) ≡ find p (map but_digests zs)
            → option_map but_digests (if c then Some z else find p zs) ≡ (if c then Some (but_digests z) else find p (map but_digests zs))
        go true more = refl
        go false more = more

-- a partner that is found is one of the entries
partner_among : (es : List EntryParts) (s f : EntryParts) → partner_in es s ≡ Some f → Among f es
unfolding partner_in
partner_among es s f is = (find-among (is_partner es s) es f is).0

-- ---- version 1

-- a Second of a sound journal has its partner
second_paired : (es : List EntryParts) (e : EntryParts) → finding_in_v1 es ≡ Sound (length es) → Among e es → is_second_kind e.kind ≡ true → is_none (partner_in es e) ≡ false
second_paired es e sound m second =
    let none = find_none (is_faulty_v1 es) es (unfound (find (is_faulty_v1 es) es) sound) in
    let fine : is_faulty_v1 es e ≡ false = none_passes (is_faulty_v1 es) e es none m in
    paired (is_sound_v1 e) (is_none (partner_in es e)) (rw (of_second e.kind second) at fine)
  where
    unfound : (o : Option EntryParts) → finding (option_map (λ x. x.number) o) (length es) ≡ Sound (length es) → o ≡ None
    unfound None s = refl
    unfound (Some x) s = absurd (cc)

    paired : (s p : Bool) → (not s || (true && p)) ≡ false → p ≡ false
    paired true p h = h
    paired false p h = absurd (true≢false h)

-- ---- the law

same_none : (o p : Option EntryParts) → option_map but_digests o ≡ option_map but_digests p → is_none o ≡ is_none p
same_none None None same = refl
same_none (Some x) (Some y) same = refl
same_none None (Some y) same = none_some same
same_none (Some x) None same = none_some (sym same)

-- an entry of version 1, and the chained one that the same test finds
module _ (p : EntryParts → Bool) (blind : (z : EntryParts) → p (but_digests z) ≡ p z) (es : List EntryParts) (rising : IsRising es) where
  in_both : option_map but_digests (find p (chained es)) ≡ option_map but_digests (find p es)
  in_both = found_alike p blind (chained es) es (law_of_fields es rising).fields

  chained_one : (e : EntryParts) → find p es ≡ Some e → (f : EntryParts) × (find p (chained es) ≡ Some f)
  chained_one e found = go (find p (chained es)) refl
    where
      go : (o : Option EntryParts) → find p (chained es) ≡ o → (f : EntryParts) × (find p (chained es) ≡ Some f)
      go (Some f) is = (f, is)
      go None none = none_some (sym (ap (option_map but_digests) none) ∙ in_both ∙ ap (option_map but_digests) found)

  no_other : find p es ≡ None → find p (chained es) ≡ None
  no_other found = go (find p (chained es)) refl
    where
      go : (o : Option EntryParts) → find p (chained es) ≡ o → o ≡ None
      go None none = refl
      go (Some f) is = none_some (sym (ap (option_map but_digests) found) ∙ sym in_both ∙ ap (option_map but_digests) is)

module _ (p : EntryParts → Bool) (blind : (z : EntryParts) → p (but_digests z) ≡ p z) (es : List EntryParts) (rising : IsRising es) (e f : EntryParts) (found : find p es ≡ Some e)
    (is : find p (chained es) ≡ Some f) where
  alike : but_digests f ≡ but_digests e
  alike = is_some_same (sym (ap (option_map but_digests) is) ∙ in_both p blind es rising ∙ ap (option_map but_digests) found)

  partner : option_map but_digests (partner_in (chained es) f) ≡ option_map but_digests (partner_in es e)
  partner =
      let numbers : f.number ≡ e.number = ap (λ x. x.number) alike in
      let new : with_number e.number (chained es) ≡ Some f = ap (λ n. with_number n (chained es)) (sym numbers) ∙ found_by_number p (chained es) f (chained-rising es rising) is in
      let old = found_by_number p es e rising found in
      sym (ap (λ o. option_map but_digests (option_and_then (partner_in (chained es)) o)) new) ∙ (law_of_fields es rising).partner e.number
      ∙ ap (λ o. option_map but_digests (option_and_then (partner_in es) o)) old

  whole : finding_in_v1 es ≡ Sound (length es) → is_damaged_entry (chained es) f ≡ false
  whole sound =
      let old = find-among p es e found in
      let new = find-among p (chained es) f is in
      not_damaged (chained es) f (chained_sound None es f new.0) (λ second. there (partner_in (chained es) f) refl (paired old.0 second))
    where
      paired : Among e es → is_second_kind f.kind ≡ true → is_none (partner_in (chained es) f) ≡ false
      paired old second =
          let kinds : f.kind ≡ e.kind = ap (λ x. x.kind) alike in
          same_none (partner_in (chained es) f) (partner_in es e) partner ∙ second_paired es e sound old (ap is_second_kind (sym kinds) ∙ second)

      there : (o : Option EntryParts) → partner_in (chained es) f ≡ o → is_none (partner_in (chained es) f) ≡ false → holds_of is_sound_entry (partner_in (chained es) f) ≡ true
      there None none some = absurd (true≢false (sym (ap is_none none) ∙ some))
      there (Some g) one some = ap (holds_of is_sound_entry) one ∙ chained_sound None es g (partner_among (chained es) f g one)

pub answered_after_chaining : AnsweredAfterChaining
answered_after_chaining es rising may e a asked = repeats (chained_one mine blind es rising e asked.found)
  where
    mine : EntryParts → Bool
    mine = has_key a.key

    blind : (z : EntryParts) → mine (but_digests z) ≡ mine z
    blind z = refl

    repeats : (f : EntryParts) × (find mine (chained es) ≡ Some f) → IsRepeatedAlike es e a
    repeats f =
        let other = ap (is_other a) (alike mine blind es rising e f.0 asked.found f.1) ∙ asked.same in
        let judged : verdict a ≡ repeated f.0 =
        by_repetition a f.0 (ap (find mine) asked.journal ∙ f.1) other asked.unspent (ap (λ l. is_damaged_entry l f.0) asked.journal ∙ whole mine blind es rising e f.0 asked.found f.1 may.0) in
        record {
          entry = f.0;
          alike = alike mine blind es rising e f.0 asked.found f.1;
          partner = partner mine blind es rising e f.0 asked.found f.1;
          judged = judged;
          told = λ request bound asks.
              of_verdict a bound request asks ∙ ap (answer_by_verdict a.now.entries) judged ∙ ap (λ l. answer_by_verdict l (repeated f.0)) asked.journal;
        }

pub repeated_over_migration : RepeatedOverMigration
repeated_over_migration es ks lists may a on = record {
  repeated = λ e found other. answered_after_chaining es rising may e a
      (record { journal = on.entries; found = found; unspent = ap (λ l. is_spent l a.key) on.spent ∙ found_unspent es ks a.key e lists.apart found; same = other });
  reused = λ e found other. let f = chained_one mine blind es rising e found in by_other a f.0 (now f.1) (ap (is_other a) (alike mine blind es rising e f.0 found f.1) ∙ other);
  gone = λ spent. by_gone a (ap (λ l. is_spent l a.key) on.spent ∙ spent) (entry_by_key a.now.entries a.key) refl (λ f is. absurd (true≢false (sym spent ∙ of_old f is)));
  anew = λ none free. by_newness a (ap (find mine) on.entries ∙ no_other mine blind es rising none) (ap (λ l. is_spent l a.key) on.spent ∙ free);
}
  where
    mine : EntryParts → Bool
    mine = has_key a.key

    blind : (z : EntryParts) → mine (but_digests z) ≡ mine z
    blind z = refl

    rising : IsRising es
    rising = lists.rising

    now : {f : EntryParts} → find mine (chained es) ≡ Some f → entry_by_key a.now.entries a.key ≡ Some f
    now is = ap (find mine) on.entries ∙ is

    -- a key that is found in the chained journal was found in version 1, so that it isn't spent
    of_old : (f : EntryParts) → entry_by_key a.now.entries a.key ≡ Some f → is_spent ks a.key ≡ false
    of_old f is = go (entry_by_key es a.key) refl
      where
        go : (o : Option EntryParts) → entry_by_key es a.key ≡ o → is_spent ks a.key ≡ false
        go (Some e) found = found_unspent es ks a.key e lists.apart found
        go None none = none_some (sym (no_other mine blind es rising none) ∙ sym (ap (find mine) on.entries) ∙ is)

pub ticket_over_migration : TicketOverMigration
ticket_over_migration es rising may number e found has = go (chained_one mine blind es rising e found)
  where
    mine : EntryParts → Bool
    mine x = x.number == number

    blind : (z : EntryParts) → mine (but_digests z) ≡ mine z
    blind z = refl

    go : (f : EntryParts) × (find mine (chained es) ≡ Some f) → IsTicketAlike es number e
    go f =
        let same = alike mine blind es rising e f.0 found f.1 in
        record {
          entry = f.0;
          alike = same;
          partner = partner mine blind es rising e f.0 found f.1;
          told = rw (f.1, ap makes_a_ticket same ∙ has, whole mine blind es rising e f.0 found f.1 may.0) refl;
        }
