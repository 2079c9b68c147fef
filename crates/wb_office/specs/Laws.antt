-- Laws of the office's definitions, in the words of a weighbridge's operator.
use Rattle.std.specs.Prelude.{◌≡◌, ◌⊎◌, ℕ, ◌+◌, ◌<◌, ◌≤◌, max, Bool, true, false, ◌||◌, if◌then◌else◌, All, Contains, List, length, take, count_by, Some, None, Result, Err, ℤ, pos, ◌≤ℤ◌}
use Rattle.std.specs.List.{list_any}
use Rattle.wb_instrument.specs.Limits.{is_above_range, is_below_range}
use Rattle.wb_instrument.specs.Setup.{Setup, IsSetup}
use Rattle.wb_journal.specs.declared.entry.EntryParts.{EntryParts}
use Rattle.wb_journal.specs.Kind.{is_closing_kind, is_void_kind}
use Rattle.wb_journal.specs.Pairs.{partner_in}
use Rattle.wb_journal.specs.Rising.{IsRising}
use Rattle.wb_scale.specs.declared.answers.Indicated.TheVariants.{Shown}
use Rattle.wb_scale.specs.Call.{Call}
use Rattle.wb_scale.specs.Cleared.{is_cleared}
use Rattle.wb_scale.specs.History.{moments}
use Rattle.wb_scale.specs.Indication.{indicated}
use Rattle.wb_scale.specs.Moment.{Moment, readings}
use Rattle.wb_scale.specs.Steady.{IsNear}
use Rattle.wb_scale.specs.Zero.{zero_now}
use Rattle.wb_tables.specs.Lists.{AreLists, entry_by_key, has_key, is_spent, number_after}
use Rattle.wb_messages.specs.declared.refusal.Refusal.{Refusal}
use Rattle.wb_messages.specs.declared.refusal.Refusal.TheVariants as refusal
use Rattle.wb_messages.specs.declared.request.Request.{Request}
use Rattle.wb_messages.specs.declared.request.Request.TheVariants.{Purge}
use Rattle.wb_messages.specs.Content.{Content}
use Rattle.wb_office.specs.Answer.{IsBoundAt, entries_left, makes_a_ticket, spent_left, ticket_answer}
use Rattle.wb_office.specs.Situation.{Asking, Situation}
use Rattle.wb_office.specs.Conditions.{is_damaged_entry, is_other, places}
use Rattle.wb_office.specs.CourseOfRequests.{AreBounds, Journal, RequestTurn, added, additions, after, answer_in, answered_with, left, situation_of_turn}
use Rattle.wb_office.specs.Verdict.{first_refusal, kilograms_of, of_new, on_new, refused, repeated, verdict}

-- ---- keys

-- the key is stored or spent
abbrev pub is_taken : Journal → List ℕ → Bool
is_taken j key = list_any (has_key key) j.entries || is_spent j.spent key

-- a key, after whatever requests came, stops among them
pub record IsAcceptedOnce (j : Journal) (ts : List RequestTurn) (key : List ℕ) : Type 0 where
  -- at most one entry was added under it, and none if the key was stored or spent before
  pub once : count_by (has_key key) (additions j ts) ≤ (if is_taken j key then 0 else 1)
  -- the entry that was added under it is stored, or the key is spent
  pub for_good : AreLists j.entries j.spent → AreBounds j ts → (e : EntryParts) → Contains (additions j ts) e → e.key ≡ key
      → (entry_by_key (after j ts).entries key ≡ Some e) ⊎ (is_spent (after j ts).spent key ≡ true)

abbrev pub OneEntryPerKey : Type 0
OneEntryPerKey = (j : Journal) (ts : List RequestTurn) (key : List ℕ) → IsAcceptedOnce j ts key

-- ---- a request that is made again

-- its entry is stored: it is answered as at first, and so is the ticket of the entry's number, if it has one
pub record IsKeptEntry (j : Journal) (e : EntryParts) (first again : Result Content Refusal) : Type 0 where
  pub stored : entry_by_key j.entries e.key ≡ Some e
  pub same : again ≡ first
  pub ticket : makes_a_ticket e ≡ true → ticket_answer j.entries e.number ≡ first

-- its entry was purged: it is refused as gone
pub record IsGone (j : Journal) (e : EntryParts) (again : Result Content Refusal) : Type 0 where
  pub spent : is_spent j.spent e.key ≡ true
  pub gone : again ≡ Err refusal.Gone

-- a request that was answered with an entry, which it added or repeated, and is made again after whatever requests and stops, at whatever
-- moment and load: its entry is stored and it is answered as at first, or its entry was purged and it is refused as gone
abbrev pub AnsweredAgain : Type 0
AnsweredAgain = (j : Journal) → AreLists j.entries j.spent → (t : RequestTurn) (e : EntryParts) → answered_with (situation_of_turn j t) t.request ≡ Some e
    → (ts : List RequestTurn) → AreBounds (left j t) ts → (u : RequestTurn) → u.request ≡ t.request → let now = after (left j t) ts in
    IsKeptEntry now e (answer_in j t) (answer_in now u) ⊎ IsGone now e (answer_in now u)

-- what a request for an entry comes to by its key, whoever wrote the tables: the load and the clock are looked at only if the key is new
pub record IsByKey (a : Asking) : Type 0 where
  -- an entry of this key, kind and plate is stored: it is repeated
  pub repeated : (e : EntryParts) → entry_by_key a.now.entries a.key ≡ Some e → is_other a e ≡ false → is_damaged_entry a.now.entries e ≡ false → verdict a ≡ repeated e
  -- or refused, if the entry or its partner isn't sound
  pub damaged : (e : EntryParts) → entry_by_key a.now.entries a.key ≡ Some e → is_other a e ≡ false → is_damaged_entry a.now.entries e ≡ true → verdict a ≡ refused refusal.Damaged
  -- the entry of this key is of another kind or plate
  pub reused : (e : EntryParts) → entry_by_key a.now.entries a.key ≡ Some e → is_other a e ≡ true → verdict a ≡ refused refusal.KeyReused
  -- it was purged
  pub gone : is_spent a.now.spent a.key ≡ true → verdict a ≡ refused refusal.Gone
  -- there is none: it is judged anew
  pub anew : entry_by_key a.now.entries a.key ≡ None → is_spent a.now.spent a.key ≡ false → verdict a ≡ on_new a (first_refusal of_new a)

abbrev pub KeyDecides : Type 0
KeyDecides = (a : Asking) → AreLists a.now.entries a.now.spent → IsByKey a

-- ---- numbers, places and partners

-- an entry that is added has the next number, and the one after it is the next then; no other request changes the next number
pub record IsNumbered (w : Situation) (b : ℕ) (request : Request) : Type 0 where
  pub one : (e : EntryParts) → added w request ≡ Some e
      → (e.number ≡ number_after w.entries w.spent) × (number_after (entries_left w b request) (spent_left w b request) ≡ e.number + 1)
  pub none : added w request ≡ None → number_after (entries_left w b request) (spent_left w b request) ≡ number_after w.entries w.spent

abbrev pub NumbersRun : Type 0
NumbersRun = (w : Situation) (b : ℕ) (request : Request) → IsNumbered w b request

-- no request raises the places that are taken above the capacity; those of a store that was opened above it don't rise
abbrev pub WithinCapacity : Type 0
WithinCapacity = (w : Situation) (b : ℕ) (request : Request) → IsRising w.entries → places (entries_left w b request) ≤ max w.setup.capacity (places w.entries)

-- a Second or Void is refused as journal_full only once the last number was given, never for want of places
abbrev pub FullAtLastNumber : Type 0
FullAtLastNumber = (a : Asking) → is_closing_kind a.kind ≡ true → verdict a ≡ refused refusal.JournalFull → 4294967295 < number_after a.now.entries a.now.spent

-- a purge leaves the partner of every entry that stays
abbrev pub KeepsPartners : Type 0
KeepsPartners = (w : Situation) (b : ℕ) → IsRising w.entries → IsBoundAt w.setup w.entries w.spent w.at b
    → (e : EntryParts) → Contains (entries_left w b Purge) e → partner_in (entries_left w b Purge) e ≡ partner_in w.entries e

-- ---- loads

-- the load behind a stored gross
pub record IsWeighed (s : Setup) (ms : List Moment) (e : EntryParts) : Type 0 where
  pub gross : ℤ
  pub net : ℤ
  pub stored : e.gross_kg ≡ Some (kilograms_of s gross)
  -- it was indicated, in stable equilibrium
  pub stable : indicated s ms ≡ Shown gross net true
  pub not_over : is_above_range s gross ≡ false
  pub not_under : is_below_range gross ≡ false
  -- at least Min, 20 e
  pub at_least_min : pos 20 ≤ℤ gross
  -- the bridge was cleared since the last stored weighing, or since the opening
  pub cleared : is_cleared ms ≡ true
  -- as many readings as the window takes are behind it, and each would indicate, at the zero then in force, a gross at most 1 e from it
  pub behind : length (take s.window (readings ms)) ≡ s.window
  pub near : All (IsNear (zero_now ms) gross) (take s.window (readings ms))

-- every First, Second and Single that is added
abbrev pub AllWeighed : Type 0
AllWeighed = (w : Situation) (calls : List Call) → IsSetup w.setup → w.history ≡ moments w.setup calls
    → (request : Request) (e : EntryParts) → added w request ≡ Some e → is_void_kind e.kind ≡ false → IsWeighed w.setup w.history e
