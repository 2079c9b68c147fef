-- The lines of a response's head, of which none is its body's.
use Rattle.std.proofs.Common.{◌≡◌, ℕ, ◌+◌, ◌-◌, Bool, true, false, List, [], ◌∷◌, ◌++◌, length, drop, refl, sym, ap, ◌∙◌, append_assoc, arith, suc}
use Rattle.std.specs.Prelude.{Option, None, Some, codes, decimal, not}
use Rattle.std.specs.List.{after_first, position_or_len}
use Rattle.std.specs.Str.Lines.{lines, lines_of_parts, strip_carriage_return}
use Rattle.std.proofs.lemmas.List.{length-append}
use Rattle.std.proofs.Math.Seq.{get_or-append_seam, take-append_seam}
use Rattle.std.proofs.lemmas.List.Elements.{All-weaker}
use Rattle.std.proofs.lemmas.List.Splits.{slice_split_at}
use Rattle.std.proofs.lemmas.List.Sums.{AllPass-from_list_all}
use Rattle.wb_program.specs.PrintedOutputs.{body_lines, is_empty_line, printed_lines, printed_response, status_of}
use Rattle.wb_http.specs.Faults.{fault_status}
use Rattle.wb_http.specs.Response.{ResponseContent, allow_line_text, length_lines, media_type_text, phrase_of_status, response_content, response_text, status_line, type_lines}
use Rattle.wb_http.specs.Routes.{method_text}
use Rattle.wb_http.specs.declared.fault.Method.{Method}
use Rattle.wb_trace.proofs.FirstLine.{line_feed, some_parts}
use Rattle.wb_program.proofs.OneLine.{OneLine, first_word-decimal, joined, known, no_feed, one_line-decimal, one_line-media, one_line-method}

strip-return : (text : List ℕ) → strip_carriage_return (text ++ codes "\r") ≡ text
strip-return text = let n : length (text ++ codes "\r") ≡ length text + 1 = length-append text (codes "\r") in
    let k : length (text ++ codes "\r") - 1 ≡ length text = grind (arith) in
    rw k (rw (get_or-append_seam text 13 [] 0) (take-append_seam text (codes "\r")))

lines-next : (text rest : List ℕ) → OneLine text → lines (text ++ codes "\r\n" ++ rest) ≡ text ∷ lines rest
lines-next text rest h =
    let one = joined h (known {text = codes "\r"} refl) in
    let parted : text ++ codes "\r\n" ++ rest ≡ text ++ codes "\r" ++ (10 ∷ rest) = append_assoc text (codes "\r\n") rest ∙ sym (append_assoc text (codes "\r") (10 ∷ rest)) in
    let none = All-weaker (λ b. not (line_feed b) ≡ true) (λ b. line_feed b ≡ false) no_feed (text ++ codes "\r") (AllPass-from_list_all (λ b. not (line_feed b)) (text ++ codes "\r") one.holds) in
    ap lines parted
    ∙ ap lines_of_parts (slice_split_at line_feed (text ++ codes "\r") 10 rest none refl)
    ∙ some_parts (text ++ codes "\r") rest
    ∙ ap (λ line. line ∷ lines rest) (strip-return text)

after-one : (n : ℕ) → 1 + n + 1 ≡ suc (n + 1)
after-one n = grind (arith)

-- a line of the head is none of the body's
body_lines-next : (text rest : List ℕ) → OneLine text → is_empty_line text ≡ false → body_lines (text ++ codes "\r\n" ++ rest) ≡ body_lines rest
body_lines-next [] rest h some = absurd (cc)
body_lines-next (b ∷ text) rest h some = ap (after_first is_empty_line) (lines-next (b ∷ text) rest h) ∙ ap (λ n. drop n ((b ∷ text) ∷ lines rest)) (after-one (position_or_len is_empty_line (lines rest)))

-- the body begins after the empty line
body_lines-body : (body : List ℕ) → body_lines (codes "\r\n" ++ body) ≡ lines body
body_lines-body body = ap (after_first is_empty_line) (some_parts (codes "\r") body)

body_lines-connection : (body : List ℕ) → body_lines (codes "Connection: close\r\n\r\n" ++ body) ≡ lines body
body_lines-connection body = body_lines-next (codes "Connection: close") (codes "\r\n" ++ body) (known refl) refl ∙ body_lines-body body

body_lines-allow : (allow : Option Method) (body : List ℕ) → body_lines (allow_line_text allow ++ (codes "Connection: close\r\n\r\n" ++ body)) ≡ lines body
body_lines-allow None body = body_lines-connection body
body_lines-allow (Some method) body =
    body_lines-next (codes "Allow: " ++ method_text method) (codes "Connection: close\r\n\r\n" ++ body) (joined (known {text = codes "Allow: "} refl) (one_line-method method)) refl ∙ body_lines-connection body

body_lines-length : (size : ℕ) (allow : Option Method) (body : List ℕ) → body_lines (length_lines size allow ++ body) ≡ lines body
unfolding length_lines
body_lines-length size allow body =
    let text = codes "Content-Length: " ++ decimal size in
    let last = codes "Connection: close\r\n\r\n" in
    ap body_lines (append_assoc (text ++ codes "\r\n" ++ allow_line_text allow) last body ∙ append_assoc (text ++ codes "\r\n") (allow_line_text allow) (last ++ body))
    ∙ body_lines-next text (allow_line_text allow ++ (last ++ body)) (joined (known {text = codes "Content-Length: "} refl) (one_line-decimal size)) refl
    ∙ body_lines-allow allow body

append-four : (a b c d rest : List ℕ) → a ++ b ++ c ++ d ++ rest ≡ a ++ (b ++ c ++ d ++ rest)
append-four a b c d rest = simp append_assoc refl

body_lines-type : (csv : Bool) (date rest : List ℕ) → OneLine date → body_lines (type_lines csv date ++ rest) ≡ body_lines rest
unfolding type_lines
body_lines-type csv date rest h =
    let line = codes "Date: " ++ date in
    let type = codes "Content-Type: " ++ media_type_text csv in
    let parted : line ++ codes "\r\nContent-Type: " ++ media_type_text csv ++ codes "\r\n" ++ rest ≡ line ++ codes "\r\n" ++ (type ++ codes "\r\n" ++ rest)
    = append-four line (codes "\r\nContent-Type: ") (media_type_text csv) (codes "\r\n") rest ∙ sym (append_assoc line (codes "\r\n") (type ++ codes "\r\n" ++ rest)) in
    ap body_lines parted
    ∙ body_lines-next line (type ++ codes "\r\n" ++ rest) (joined (known {text = codes "Date: "} refl) h) refl
    ∙ body_lines-next type rest (joined (known {text = codes "Content-Type: "} refl) (one_line-media csv)) refl

body_lines-status : (status : ℕ) (rest : List ℕ) → OneLine (phrase_of_status status) → body_lines (status_line status ++ rest) ≡ body_lines rest
unfolding status_line
body_lines-status status rest h =
    body_lines-next (codes "HTTP/1.1 " ++ decimal status ++ codes " " ++ phrase_of_status status) rest
    (joined (joined (joined (known {text = codes "HTTP/1.1 "} refl) (one_line-decimal status)) (known {text = codes " "} refl)) h) refl

status_of-status : (status : ℕ) (rest : List ℕ) → status_of (status_line status ++ rest) ≡ decimal status
unfolding status_line
status_of-status status rest =
    let parted : status_line status ++ rest ≡ codes "HTTP/1.1 " ++ (decimal status ++ (32 ∷ (phrase_of_status status ++ (codes "\r\n" ++ rest)))) = simp append_assoc refl in
    ap status_of parted ∙ first_word-decimal status (phrase_of_status status ++ (codes "\r\n" ++ rest))

pub prints : (content : ResponseContent) (date : List ℕ) → OneLine (phrase_of_status content.status) → OneLine date
    → printed_response (response_text content date) ≡ codes "o " ++ decimal content.status ++ codes "\n" ++ printed_lines (lines content.body)
unfolding response_text
prints content date h k =
    let size = length_lines (length content.body) content.allow in
    let type = type_lines content.csv date in
    let parted : response_text content date ≡ status_line content.status ++ (type ++ (size ++ content.body)) = append_assoc (status_line content.status ++ type) size content.body ∙ append_assoc (status_line content.status) type (size ++ content.body) in
    let status = ap status_of parted ∙ status_of-status content.status (type ++ (size ++ content.body)) in
    let body = ap body_lines parted ∙ body_lines-status content.status (type ++ (size ++ content.body)) h ∙ body_lines-type content.csv date (size ++ content.body) k ∙ body_lines-length (length content.body) content.allow content.body in
    rw (status, body) refl
