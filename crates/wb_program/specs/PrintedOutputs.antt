-- The printed form of what is put out.
use Rattle.std.specs.Prelude.{◌≡◌, ℕ, Bool, true, false, List, [], ◌∷◌, ◌++◌, codes, decimal}
use Rattle.std.specs.List.{after_first}
use Rattle.std.specs.Str.Lines.{lines}
use Rattle.wb_trace.specs.Words.{after_word, first_word}
use Rattle.wb_sics.specs.declared.reply.Reply.{Reply}
use Rattle.wb_sics.specs.ReplyText.{reply_text}
use Rattle.wb_http.specs.declared.outcome.Outcome.{Outcome}
use Rattle.wb_http.specs.Response.{IsResponse, response_content}
use Rattle.wb_station.specs.Account.{Out, nothing, replied, responded}

-- `t `, the reply without its CR LF, and a line feed
abbrev pub printed_reply : Reply → List ℕ
printed_reply reply = codes "t " ++ reply_text reply ++ codes "\n"

abbrev pub printed_replies : List Reply → List ℕ
printed_replies [] = []
printed_replies (reply ∷ more) = printed_reply reply ++ printed_replies more

-- the second word of a response
abbrev pub status_of : List ℕ → List ℕ
status_of response = first_word (after_word response)

abbrev pub is_empty_line : List ℕ → Bool
is_empty_line [] = true
is_empty_line (b ∷ bs) = false

-- the lines of its body: those after the first empty one
abbrev pub body_lines : List ℕ → List (List ℕ)
body_lines response = after_first is_empty_line (lines response)

-- `| `, the line and a line feed
abbrev pub printed_body_line : List ℕ → List ℕ
printed_body_line line = codes "| " ++ line ++ codes "\n"

abbrev pub printed_lines : List (List ℕ) → List ℕ
printed_lines [] = []
printed_lines (line ∷ more) = printed_body_line line ++ printed_lines more

-- `o `, the status and a line feed, then the lines of the body
abbrev pub printed_response : List ℕ → List ℕ
printed_response response = codes "o " ++ status_of response ++ codes "\n" ++ printed_lines (body_lines response)

-- of a response, its own status and the lines of its own body
abbrev pub PrintsTold : Type 0
PrintsTold = (moment : ℕ) (outcome : Outcome) (response : List ℕ) → IsResponse moment outcome response
    → printed_response response ≡ codes "o " ++ decimal (response_content outcome).status ++ codes "\n" ++ printed_lines (lines (response_content outcome).body)

abbrev pub printed_out : Out → List ℕ
printed_out (replied rs) = printed_replies rs
printed_out (responded response) = printed_response response
printed_out nothing = []

-- all that was put out, the newest first
abbrev pub printed : List Out → List ℕ
printed [] = []
printed (out ∷ outs) = printed outs ++ printed_out out
