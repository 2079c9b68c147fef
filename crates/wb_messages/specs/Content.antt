-- What the office's answers tell.
use Rattle.std.specs.Prelude.{ℕ, List, Result, Ok, Err}
use Rattle.wb_messages.specs.declared.answer.Answer.{Answer}
use Rattle.wb_messages.specs.declared.answer.Answer.TheVariants.{Slip, Ticket, Text, Csv, Purged, Sound, Damaged}
use Rattle.wb_messages.specs.declared.refusal.Refusal.{Refusal}

-- an answer: the bytes of its text, or its count or number
pub data Content : Type 0 where
  slip_content : List ℕ → Content
  ticket_content : List ℕ → Content
  text_content : List ℕ → Content
  csv_content : List ℕ → Content
  purged_content : ℕ → Content
  sound_content : ℕ → Content
  damaged_content : ℕ → Content

-- what an answer tells
abbrev pub content_of : Answer → Content
content_of (Slip text) = slip_content text.bytes
content_of (Ticket text) = ticket_content text.bytes
content_of (Text text) = text_content text.bytes
content_of (Csv text) = csv_content text
content_of (Purged count) = purged_content count
content_of (Sound count) = sound_content count
content_of (Damaged number) = damaged_content number

abbrev pub content_or_refusal : Result Answer Refusal → Result Content Refusal
content_or_refusal (Ok answer) = Ok (content_of answer)
content_or_refusal (Err why) = Err why
