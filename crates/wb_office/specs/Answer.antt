-- The office's answers, and what they leave.
use Rattle.std.specs.Prelude.{ℕ, Bool, false, not, ◌||◌, List, [], ◌∷◌, ◌++◌, length, codes, Option, Some, None, Result, Ok, Err, if◌then◌else◌, ℤ, pos, ◌*ℤ◌}
use Rattle.wb_instrument.specs.Setup.{Setup}
use Rattle.wb_instrument.specs.WeightField.{weight_in_field}
use Rattle.wb_journal.specs.declared.entry.EntryParts.{EntryParts}
use Rattle.wb_journal.specs.declared.journal_check.Finding.{Finding}
use Rattle.wb_journal.specs.declared.journal_check.Finding.TheVariants as finding
use Rattle.wb_journal.specs.declared.kind.Kind.{Kind}
use Rattle.wb_journal.specs.declared.kind.Kind.TheVariants.{First, Second, Single, Void as VoidKind}
use Rattle.wb_journal.specs.Check.{finding_in}
use Rattle.wb_journal.specs.Kind.{is_second_kind, is_single_kind, is_void_kind}
use Rattle.wb_journal.specs.Moment.{day_of}
use Rattle.wb_journal.specs.Pairs.{partner_in, with_number}
use Rattle.wb_journal.specs.Retention.{IsPurgeBound, kept}
use Rattle.wb_journal.specs.Texts.{slip, ticket}
use Rattle.wb_scale.specs.declared.answers.Indicated.{Indicated}
use Rattle.wb_scale.specs.declared.answers.Indicated.TheVariants.{NoLoad, Over, Under, Shown}
use Rattle.wb_scale.specs.Indication.{indicated}
use Rattle.wb_tables.specs.Lists.{number_after}
use Rattle.wb_tables.specs.Purging.{entries_below, spent_after_purge}
use Rattle.wb_tables.specs.Rows.{SpentKey}
use Rattle.wb_messages.specs.Content.{Content, csv_content, damaged_content, purged_content, slip_content, sound_content, text_content, ticket_content}
use Rattle.wb_messages.specs.declared.refusal.Refusal.{Refusal}
use Rattle.wb_messages.specs.declared.refusal.Refusal.TheVariants as refusal
use Rattle.wb_messages.specs.declared.request.Request.{Request}
use Rattle.wb_messages.specs.declared.request.Request.TheVariants.{Weigh, VoidOpen, Ticket, Indication, JournalCsv, TicketsCsv, Purge, Check}
use Rattle.wb_office.specs.Situation.{Asking, Situation}
use Rattle.wb_office.specs.Conditions.{is_damaged_entry}
use Rattle.wb_office.specs.Exports.{journal_csv, tickets_csv}
use Rattle.wb_office.specs.Verdict.{Verdict, accepted, refused, repeated, verdict}

-- ---- a weighing or void

-- the text of an entry: a slip of a First or Void, a ticket of a Single, and of a Second with its partner
abbrev pub entry_content : List EntryParts → EntryParts → Kind → Content
entry_content es e First = slip_content (slip e)
entry_content es e Second = ticket_content (ticket e (partner_in es e))
entry_content es e Single = ticket_content (ticket e None)
entry_content es e VoidKind = slip_content (slip e)

-- the answer of a verdict: why it is refused, or the text of the entry that is repeated or added
abbrev pub answer_by_verdict : List EntryParts → Verdict → Result Content Refusal
answer_by_verdict es (refused why) = Err why
answer_by_verdict es (repeated e) = Ok (entry_content es e e.kind)
answer_by_verdict es (accepted e) = Ok (entry_content (es ++ e ∷ []) e e.kind)

-- ---- a ticket

-- a Second or Single has a ticket
abbrev pub makes_a_ticket : EntryParts → Bool
makes_a_ticket e = is_second_kind e.kind || is_single_kind e.kind

-- its ticket; damaged if the entry isn't sound, or is a Second whose partner is missing or isn't sound
abbrev pub ticket_if_sound : List EntryParts → EntryParts → Result Content Refusal
ticket_if_sound es e = if is_damaged_entry es e then Err refusal.Damaged else Ok (entry_content es e e.kind)

abbrev pub ticket_of : List EntryParts → Option EntryParts → Result Content Refusal
ticket_of es None = Err refusal.NoTicket
ticket_of es (Some e) = if makes_a_ticket e then ticket_if_sound es e else Err refusal.NoTicket

-- the answer to a ticket's number; no entry has the number 0
abbrev pub ticket_answer : List EntryParts → ℕ → Result Content Refusal
ticket_answer es number = ticket_of es (with_number number es)

-- ---- the indication

abbrev pub motion_word : Bool → List ℕ
motion_word stable = if stable then codes "STABLE" else codes "MOVING"

-- stable or moving, with gross and net in kilograms
abbrev pub weights_text : Bool → ℤ → ℤ → List ℕ
weights_text stable gross_kg net_kg = motion_word stable ++ codes " G " ++ weight_in_field gross_kg ++ codes " kg N " ++ weight_in_field net_kg ++ codes " kg"

-- the indication: gross and net, or no load, overload or underload
abbrev pub text_of_indication : Setup → Indicated → List ℕ
text_of_indication s NoLoad = codes "NO LOAD"
text_of_indication s Over = codes "OVERLOAD"
text_of_indication s Under = codes "UNDERLOAD"
text_of_indication s (Shown gross net stable) = weights_text stable (pos s.interval_kg *ℤ gross) (pos s.interval_kg *ℤ net)

-- ---- the whole journal

abbrev pub finding_content : Finding → Content
finding_content (finding.Sound count) = sound_content count
finding_content (finding.Damaged number) = damaged_content number

abbrev pub check_answer : List EntryParts → Content
check_answer es = finding_content (finding_in es)

-- an answer, where the check finds no damage
abbrev pub if_sound : Finding → Content → Result Content Refusal
if_sound (finding.Sound count) told = Ok told
if_sound (finding.Damaged number) told = Err refusal.Damaged

abbrev pub tickets_answer : List EntryParts → Result Content Refusal
tickets_answer es = if_sound (finding_in es) (csv_content (tickets_csv es))

-- ---- a purge

-- b is the purge bound on the day of a moment
abbrev pub IsBoundAt : Setup → List EntryParts → List SpentKey → ℕ → ℕ → Type 0
IsBoundAt s es ks at b = IsPurgeBound es (number_after es ks) (day_of at) s.retention_days b

-- a purge at this bound counts the entries below it, unless the journal is damaged
abbrev pub purge_answer : List EntryParts → ℕ → Result Content Refusal
purge_answer es b = if_sound (finding_in es) (purged_content (length (entries_below b es)))

-- ---- every request

-- an entry that is asked for
abbrev pub asking : Situation → List ℕ → Kind → List ℕ → Asking
asking w key kind plate = record { now = w; key = key; kind = kind; plate = plate }

-- the answer to a request; b is the purge bound on the day of its moment. The journal is exported also if it is damaged
abbrev pub office_answer : Situation → ℕ → Request → Result Content Refusal
office_answer w b (Weigh key kind plate) = answer_by_verdict w.entries (verdict (asking w key kind plate))
office_answer w b (VoidOpen key plate) = answer_by_verdict w.entries (verdict (asking w key VoidKind plate))
office_answer w b (Ticket number) = ticket_answer w.entries number
office_answer w b Indication = Ok (text_content (text_of_indication w.setup (indicated w.setup w.history)))
office_answer w b JournalCsv = Ok (csv_content (journal_csv w.entries))
office_answer w b TicketsCsv = tickets_answer w.entries
office_answer w b Purge = purge_answer w.entries b
office_answer w b Check = Ok (check_answer w.entries)

-- ---- what a request makes of the journal

-- nothing, one entry more, or a purge of the entries below a bound
pub data Outcome : Type 0 where
  nothing : Outcome
  adds : EntryParts → Outcome
  purges : ℕ → Outcome

-- an accepted weighing or void adds its entry
abbrev pub outcome_of : Verdict → Outcome
outcome_of (accepted e) = adds e
outcome_of _ = nothing

-- a damaged journal is not purged
abbrev pub unless_damaged : Finding → ℕ → Outcome
unless_damaged (finding.Sound count) b = purges b
unless_damaged (finding.Damaged number) b = nothing

abbrev pub outcome : Situation → ℕ → Request → Outcome
outcome w b (Weigh key kind plate) = outcome_of (verdict (asking w key kind plate))
outcome w b (VoidOpen key plate) = outcome_of (verdict (asking w key VoidKind plate))
outcome w b Purge = unless_damaged (finding_in w.entries) b
outcome w b _ = nothing

-- the entries after it: a purge keeps those from the bound on
abbrev pub entries_after : Outcome → List EntryParts → List EntryParts
entries_after nothing es = es
entries_after (adds e) es = es ++ e ∷ []
entries_after (purges b) es = kept b es

abbrev pub entries_left : Situation → ℕ → Request → List EntryParts
entries_left w b request = entries_after (outcome w b request) w.entries

-- the spent keys after it: a purge spends those of the entries below the bound
abbrev pub spent_by_outcome : Outcome → List EntryParts → List SpentKey → List SpentKey
spent_by_outcome (purges b) es ks = spent_after_purge b es ks
spent_by_outcome _ es ks = ks

abbrev pub spent_left : Situation → ℕ → Request → List SpentKey
spent_left w b request = spent_by_outcome (outcome w b request) w.entries w.spent

-- a First, Second or Single that is added is marked on the scale as stored
abbrev pub is_marked : Outcome → Bool
is_marked (adds e) = not (is_void_kind e.kind)
is_marked _ = false

-- no bound decides what is marked
abbrev pub marks : Situation → Request → Bool
marks w request = is_marked (outcome w 0 request)
