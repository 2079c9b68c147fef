-- The verdict, case by case.
use Rattle.std.proofs.Common.{◌≡◌, ◌∙◌, sym, true, false, true≢false, Option, Some, None, refl}
use Rattle.wb_office.proofs.Common.{EntryParts, entry_by_key, Refusal, Asking, key_gone, is_damaged_entry, is_other, KeyDecides, accepted, first_refusal, entry_added, of_new, on_new, refused, repeated, verdict}
use Rattle.wb_messages.specs.declared.refusal.Refusal.TheVariants as refusal
use Rattle.wb_office.proofs.FoundEntries.{found_unspent}

-- the key is that of an entry
pub by_other : (a : Asking) (e : EntryParts) → entry_by_key a.now.entries a.key ≡ Some e → is_other a e ≡ true → verdict a ≡ refused refusal.KeyReused
unfolding verdict
by_other a e found other = rw (found, other) refl

pub by_damage : (a : Asking) (e : EntryParts) → entry_by_key a.now.entries a.key ≡ Some e → is_other a e ≡ false → key_gone a ≡ false → is_damaged_entry a.now.entries e ≡ true
    → verdict a ≡ refused refusal.Damaged
unfolding verdict
by_damage a e found other ungone damaged = rw (found, other, ungone, damaged) refl

pub by_repetition : (a : Asking) (e : EntryParts) → entry_by_key a.now.entries a.key ≡ Some e → is_other a e ≡ false → key_gone a ≡ false → is_damaged_entry a.now.entries e ≡ false
    → verdict a ≡ repeated e
unfolding verdict
by_repetition a e found other ungone sound = rw (found, other, ungone, sound, found) refl

-- the key is new, or was spent
pub by_spent : (a : Asking) → entry_by_key a.now.entries a.key ≡ None → key_gone a ≡ true → verdict a ≡ refused refusal.Gone
unfolding verdict
by_spent a none spent = rw (none, spent) refl

pub by_condition : (a : Asking) (why : Refusal) → entry_by_key a.now.entries a.key ≡ None → key_gone a ≡ false → first_refusal of_new a ≡ Some why → verdict a ≡ refused why
unfolding verdict
by_condition a why none ungone holds = rw (none, ungone, none, holds) refl

pub by_none : (a : Asking) → entry_by_key a.now.entries a.key ≡ None → key_gone a ≡ false → first_refusal of_new a ≡ None → verdict a ≡ accepted (entry_added a)
unfolding verdict
by_none a none ungone free = rw (none, ungone, none, free) refl

pub by_newness : (a : Asking) → entry_by_key a.now.entries a.key ≡ None → key_gone a ≡ false → verdict a ≡ on_new a (first_refusal of_new a)
unfolding verdict
by_newness a none ungone = rw (none, ungone, none) refl

-- an entry of the key that was spent isn't stored
pub by_gone : (a : Asking) → key_gone a ≡ true → (o : Option EntryParts) → entry_by_key a.now.entries a.key ≡ o → ((e : EntryParts) → entry_by_key a.now.entries a.key ≡ Some e → key_gone a ≡ false) → verdict a ≡ refused refusal.Gone
by_gone a spent (Some e) found unspent = absurd (true≢false (sym spent ∙ unspent e found))
by_gone a spent None none unspent = by_spent a none spent

pub key_decides : KeyDecides
key_decides a lists =
    let unspent = λ (e : EntryParts) (found : entry_by_key a.now.entries a.key ≡ Some e). found_unspent a.now.entries a.now.spent a.key e lists.apart found in
    record {
      repeated = λ e found other sound. by_repetition a e found other (unspent e found) sound;
      damaged = λ e found other damaged. by_damage a e found other (unspent e found) damaged;
      reused = λ e found other. by_other a e found other;
      gone = λ spent. by_gone a spent (entry_by_key a.now.entries a.key) refl unspent;
      anew = λ none free. by_newness a none free;
    }
