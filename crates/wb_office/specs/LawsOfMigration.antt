-- Laws on a journal that was migrated, in the words of an operator.
use Rattle.std.specs.Prelude.{◌≡◌, ℕ, true, false, List, None, Some, Ok, option_map}
use Rattle.wb_journal.specs.declared.entry.EntryParts.{EntryParts}
use Rattle.wb_journal.specs.Chaining.{chained}
use Rattle.wb_journal.specs.LawsOfChain.{but_digests}
use Rattle.wb_journal.specs.Pairs.{partner_in, with_number}
use Rattle.wb_journal.specs.Rising.{IsRising}
use Rattle.wb_tables.specs.Lists.{AreLists, entry_by_key, is_spent}
use Rattle.wb_store.specs.version_one.Migrated.{MayBeChained}
use Rattle.wb_tables.specs.Rows.{SpentKey}
use Rattle.wb_messages.specs.declared.refusal.Refusal.TheVariants as refusal
use Rattle.wb_messages.specs.declared.request.Request.{Request}
use Rattle.wb_office.specs.Answer.{entry_content, makes_a_ticket, office_answer, ticket_answer}
use Rattle.wb_office.specs.Situation.{Asking, IsOnLists}
use Rattle.wb_office.specs.Conditions.{is_other}
use Rattle.wb_office.specs.Stops.{Asks}
use Rattle.wb_office.specs.Verdict.{first_refusal, of_new, on_new, refused, repeated, verdict}

-- the chained entry is repeated: it and its partner are those of version 1 but for digests, so that only the digest lines of the text that is told
-- are others
pub record IsRepeatedAlike (es : List EntryParts) (e : EntryParts) (a : Asking) : Type 0 where
  pub entry : EntryParts
  pub alike : but_digests entry ≡ but_digests e
  pub partner : option_map but_digests (partner_in (chained es) entry) ≡ option_map but_digests (partner_in es e)
  pub judged : verdict a ≡ repeated entry
  pub told : (request : Request) (bound : ℕ) → Asks request a → office_answer a.now bound request ≡ Ok (entry_content (chained es) entry entry.kind)

-- what is asked of the chained journal has the key of an entry of version 1, of the kind and plate that are asked for, and the key isn't spent: of whatever
-- entries, which need not be a store's
pub record IsAskedAfterChaining (es : List EntryParts) (e : EntryParts) (a : Asking) : Type 0 where
  pub journal : a.now.entries ≡ chained es
  pub found : entry_by_key es a.key ≡ Some e
  pub unspent : is_spent a.now.spent a.key ≡ false
  pub same : is_other a e ≡ false

abbrev pub AnsweredAfterChaining : Type 0
AnsweredAfterChaining = (es : List EntryParts) → IsRising es → MayBeChained es → (e : EntryParts) (a : Asking) → IsAskedAfterChaining es e a → IsRepeatedAlike es e a

-- what a weighing or void comes to by its key, asked of the chained journal and the same spent keys
pub record IsByKeyOverMigration (es : List EntryParts) (ks : List SpentKey) (a : Asking) : Type 0 where
  -- its entry stood in version 1: it is told again, with the same text but for digest lines
  pub repeated : (e : EntryParts) → entry_by_key es a.key ≡ Some e → is_other a e ≡ false → IsRepeatedAlike es e a
  -- the key was that of another kind or plate
  pub reused : (e : EntryParts) → entry_by_key es a.key ≡ Some e → is_other a e ≡ true → verdict a ≡ refused refusal.KeyReused
  -- its entry was purged before the migration: it is gone
  pub gone : is_spent ks a.key ≡ true → verdict a ≡ refused refusal.Gone
  -- version 1 had no such key: it is judged anew
  pub anew : entry_by_key es a.key ≡ None → is_spent ks a.key ≡ false → verdict a ≡ on_new a (first_refusal of_new a)

-- a weighing or void that was asked before a migration and is asked again after it, at whatever setup, load and moment
abbrev pub RepeatedOverMigration : Type 0
RepeatedOverMigration = (es : List EntryParts) (ks : List SpentKey) → AreLists es ks → MayBeChained es → (a : Asking) → IsOnLists (chained es) ks a → IsByKeyOverMigration es ks a

-- the chained entry of this number is that of version 1 but for digests, and so is its partner: its ticket is told, and only the digest lines of its text
-- are others
pub record IsTicketAlike (es : List EntryParts) (number : ℕ) (e : EntryParts) : Type 0 where
  pub entry : EntryParts
  pub alike : but_digests entry ≡ but_digests e
  pub partner : option_map but_digests (partner_in (chained es) entry) ≡ option_map but_digests (partner_in es e)
  pub told : ticket_answer (chained es) number ≡ Ok (entry_content (chained es) entry entry.kind)

-- a ticket that was given by its number before a migration is given after it
abbrev pub TicketOverMigration : Type 0
TicketOverMigration = (es : List EntryParts) → IsRising es → MayBeChained es → (number : ℕ) (e : EntryParts) → with_number number es ≡ Some e → makes_a_ticket e ≡ true → IsTicketAlike es number e
