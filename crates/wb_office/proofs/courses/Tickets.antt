-- A ticket that was given, after whatever was asked.
use Rattle.std.proofs.Common.{◌≡◌, ◌∙◌, sym, ap, ◌⊎◌, inl, inr, ℕ, ◌==◌, Bool, true, false, true≢false, if◌then◌else◌, List, Option, Some, None, Result, Ok, Err, refl}
use Rattle.wb_office.proofs.Common.{eqb-true, bytes_eq-Decides, EntryParts, partner_in, with_number, Among, find-among, has_key, Refusal, Content, makes_a_ticket, entry_content, ticket_answer, ticket_if_sound, ticket_of, is_damaged_entry, after, IsTakenOut, TicketGivenAgain}
use Rattle.wb_messages.specs.declared.refusal.Refusal.TheVariants as refusal
use Rattle.wb_office.proofs.FoundEntries.{found_by_number}
use Rattle.wb_office.proofs.Members.{some_passes}
use Rattle.wb_office.proofs.courses.KeptEntries.{stands_or_out}
use Rattle.wb_office.proofs.courses.KnownEntries.{IsKnown, known_after, stood}
use Rattle.wb_office.proofs.courses.RepeatedRequests.{same_damage, same_text}
use Rattle.wb_office.proofs.courses.StoredEntries.{IsPast, IsStored}

-- the entry behind a ticket that is given
record IsGiven (es : List EntryParts) (number : ℕ) (text : Content) : Type 0 where
  pub entry : EntryParts
  pub found : with_number number es ≡ Some entry
  pub has : makes_a_ticket entry ≡ true
  pub whole : is_damaged_entry es entry ≡ false
  pub told : ◌≡◌ {A = Result Content Refusal} (Ok (entry_content es entry entry.kind)) (Ok text)

refused_ticket : {C : Type 0} (why : Refusal) (text : Content) → ◌≡◌ {A = Result Content Refusal} (Err why) (Ok text) → C
refused_ticket why text same = absurd (cc)

given : (es : List EntryParts) (number : ℕ) (text : Content) → ticket_answer es number ≡ Ok text → IsGiven es number text
given es number text is = go (with_number number es) refl is
  where
    by_damage : (e : EntryParts) → with_number number es ≡ Some e → makes_a_ticket e ≡ true → (d : Bool) → is_damaged_entry es e ≡ d
        → ◌≡◌ {A = Result Content Refusal} (if d then Err refusal.Damaged else Ok (entry_content es e e.kind)) (Ok text) → IsGiven es number text
    by_damage e found has true whole told = refused_ticket refusal.Damaged text told
    by_damage e found has false whole told = record { entry = e; found = found; has = has; whole = whole; told = told }

    by_kind : (e : EntryParts) → with_number number es ≡ Some e → (h : Bool) → makes_a_ticket e ≡ h → (if h then ticket_if_sound es e else Err refusal.NoTicket) ≡ Ok text → IsGiven es number text
    by_kind e found true has told = by_damage e found has (is_damaged_entry es e) refl told
    by_kind e found false has told = refused_ticket refusal.NoTicket text told

    go : (o : Option EntryParts) → with_number number es ≡ o → ticket_of es o ≡ Ok text → IsGiven es number text
    go None found told = refused_ticket refusal.NoTicket text told
    go (Some e) found told = by_kind e found (makes_a_ticket e) refl told

pub ticket_given_again : TicketGivenAgain
ticket_given_again j ts lists bounds number text is = by_standing (stands_or_out j ts was.entry bounds (inl there.0))
  where
    was : IsGiven j.entries number text
    was = given j.entries number text is

    there : Among was.entry j.entries × ((was.entry.number == number) ≡ true)
    there = find-among (λ x. x.number == number) j.entries was.entry was.found

    known : IsKnown (after j ts).entries (after j ts).spent was.entry (partner_in j.entries was.entry)
    known = known_after j was.entry (partner_in j.entries was.entry) (stood j.entries j.spent was.entry lists there.0) ts bounds

    same_number : was.entry.number ≡ number
    same_number = eqb-true was.entry.number number there.1

    again : IsStored (after j ts).entries (after j ts).spent was.entry (partner_in j.entries was.entry) → ticket_answer (after j ts).entries number ≡ Ok text
    again stored =
        let found : with_number number (after j ts).entries ≡ Some was.entry =
        ap (λ n. with_number n (after j ts).entries) (sym same_number) ∙ found_by_number (has_key was.entry.key) (after j ts).entries was.entry known.rising stored.found in
        let whole : is_damaged_entry (after j ts).entries was.entry ≡ false = same_damage (after j ts).entries j.entries was.entry stored.paired ∙ was.whole in
        rw (found, was.has, whole) (ap Ok (same_text (after j ts).entries j.entries was.entry was.entry.kind stored.paired) ∙ was.told)

    not_past : {C : Type 0} → Among was.entry (after j ts).entries → IsPast (after j ts).entries (after j ts).spent was.entry → C
    not_past m past = absurd (true≢false (sym (some_passes (has_key was.entry.key) was.entry (after j ts).entries m ((bytes_eq-Decides was.entry.key was.entry.key).1 refl)) ∙ past.absent))

    by_state : Among was.entry (after j ts).entries → IsStored (after j ts).entries (after j ts).spent was.entry (partner_in j.entries was.entry) ⊎ IsPast (after j ts).entries (after j ts).spent was.entry
        → ticket_answer (after j ts).entries number ≡ Ok text
    by_state m (inl stored) = again stored
    by_state m (inr past) = not_past m past

    by_standing : Among was.entry (after j ts).entries ⊎ IsTakenOut j ts was.entry
        → (ticket_answer (after j ts).entries number ≡ Ok text) ⊎ ((e : EntryParts) × (with_number number j.entries ≡ Some e) × IsTakenOut j ts e)
    by_standing (inl m) = inl (by_state m known.state)
    by_standing (inr out) = inr (was.entry, was.found, out)
