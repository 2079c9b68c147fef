-- Texts of one line: without an LF.
use Rattle.std.proofs.Common.{◌≡◌, ◌≤◌, ℕ, ◌+◌, ◌-◌, ◌==◌, ◌/◌, ◌%◌, Bool, true, false, List, [], ◌∷◌, ◌++◌, length, refl, ◌∙◌, arith, zero, suc}
use Rattle.std.specs.Prelude.{All, Result, Ok, Err, codes, decimal, if◌then◌else◌, nat_lt, not, slice_index_or}
use Rattle.std.specs.Fmt.{digit_glyph, digits, digits_onto}
use Rattle.std.specs.List.{AllPass, list_all, position_or_len}
use Rattle.std.proofs.lemmas.List.{length-append}
use Rattle.std.proofs.lemmas.Bool.Decides.{nat_tests}
use Rattle.std.proofs.Math.ListN.{get_or-append, get_or-eq_default}
use Rattle.std.proofs.Math.Seq.{get_or-append_seam, take-append_seam}
use Rattle.std.proofs.lemmas.List.Elements.{All-weaker}
use Rattle.std.proofs.lemmas.List.Folds.{list_all-append}
use Rattle.std.proofs.lemmas.List.Sums.{AllPass-from_list_all, list_all-from_AllPass, position_or_len_is}
use Rattle.httpdate.specs.Date.{date_text}
use Rattle.httpdate.specs.Text.{day_name, month_name, time_of_day, two_digits}
use Rattle.httpdate.specs.declared.parts.Parts.{Parts}
use Rattle.httpdate.specs.declared.date.HttpDate.{HttpDate}
use Rattle.wb_trace.specs.Words.{first_word}
use Rattle.wb_messages.specs.declared.refusal.Refusal.{Refusal}
use Rattle.wb_messages.specs.declared.refusal.Refusal.TheVariants as refusal
use Rattle.wb_messages.specs.declared.request.Request.{Request}
use Rattle.wb_messages.specs.declared.request.Request.TheVariants as request
use Rattle.wb_messages.specs.Content.{Content}
use Rattle.wb_messages.specs.Content.{content_or_refusal}
use Rattle.wb_http.specs.declared.fault.HttpFault.{HttpFault}
use Rattle.wb_http.specs.declared.fault.HttpFault.TheVariants.{BadField, HeadTooLarge, Malformed, Memory, NoLength, NoRoute, TooLarge, WrongMethod}
use Rattle.wb_http.specs.declared.outcome.Outcome.{Outcome}
use Rattle.wb_http.specs.declared.outcome.Outcome.TheVariants.{Fault, Office}
use Rattle.wb_http.specs.Faults.{fault_status}
use Rattle.wb_http.specs.Response.{media_type_text, phrase_of_status, status_of_answer, status_of_refusal, response_content, response_to_result}
use Rattle.wb_http.specs.Routes.{method_text}
use Rattle.wb_http.specs.declared.fault.Method.{Method}
use Rattle.wb_http.specs.declared.fault.Method.TheVariants.{Get, Post}
use Rattle.wb_trace.proofs.FirstLine.{line_feed}

-- a text of one line
abbrev pub is_one_line : List ℕ → Bool
is_one_line text = list_all (λ b. not (line_feed b)) text

pub record OneLine (text : List ℕ) : Type 0 where
  pub holds : is_one_line text ≡ true

pub known : {text : List ℕ} → is_one_line text ≡ true → OneLine text
known h = record { holds = h }

pub joined : {a b : List ℕ} → OneLine a → OneLine b → OneLine (a ++ b)
joined {a = a} {b = b} h k = record { holds = list_all-append (λ x. not (line_feed x)) a b ∙ rw (h.holds, k.holds) refl }

pub no_feed : (b : ℕ) → not (line_feed b) ≡ true → line_feed b ≡ false
no_feed b h = go (line_feed b) h
  where
    go : (t : Bool) → not t ≡ true → t ≡ false
    go true k = absurd (cc)
    go false k = refl

glyph_is_high : (d : ℕ) → nat_lt 47 (digit_glyph false d) ≡ true
glyph_is_high d = go (nat_lt d 10)
  where
    go : (t : Bool) → nat_lt 47 (if t then 48 + d else (87 + d)) ≡ true
    go true = grind (arith, nat_tests)
    go false = grind (arith, nat_tests)

digits_are_high : (k n : ℕ) (acc : List ℕ) → list_all (nat_lt 47) acc ≡ true → list_all (nat_lt 47) (digits_onto k 10 false n acc) ≡ true
digits_are_high zero n acc h = h
digits_are_high (suc k) n acc h = go (n / 10 == 0) (digits_are_high k (n / 10) (digit_glyph false (n % 10) ∷ acc))
  where
    more : list_all (nat_lt 47) (digit_glyph false (n % 10) ∷ acc) ≡ true
    more = rw (glyph_is_high (n % 10)) h

    go : (t : Bool) → (list_all (nat_lt 47) (digit_glyph false (n % 10) ∷ acc) ≡ true → list_all (nat_lt 47) (digits_onto k 10 false (n / 10) (digit_glyph false (n % 10) ∷ acc)) ≡ true)
        → list_all (nat_lt 47) (if t then digit_glyph false (n % 10) ∷ acc else digits_onto k 10 false (n / 10) (digit_glyph false (n % 10) ∷ acc)) ≡ true
    go true onward = more
    go false onward = onward more

above-weaker : (q : ℕ → Bool) (text : List ℕ) → ((b : ℕ) → nat_lt 47 b ≡ true → q b ≡ false) → list_all (nat_lt 47) text ≡ true → All (λ b. q b ≡ false) text
above-weaker q text fails h = All-weaker (λ b. nat_lt 47 b ≡ true) (λ b. q b ≡ false) fails text (AllPass-from_list_all (nat_lt 47) text h)

no_feed_above : (b : ℕ) → nat_lt 47 b ≡ true → (b == 10) ≡ false
no_feed_above b h = grind (arith, nat_tests)

no_blank_above : (b : ℕ) → nat_lt 47 b ≡ true → (b == 32) ≡ false
no_blank_above b h = grind (arith, nat_tests)

passes_not : (t : Bool) → t ≡ false → not t ≡ true
passes_not t e = rw e refl

decimal_is_high : (n : ℕ) → list_all (nat_lt 47) (decimal n) ≡ true
unfolding digits
decimal_is_high n = digits_are_high 64 n [] refl

pub one_line-decimal : (n : ℕ) → OneLine (decimal n)
one_line-decimal n = known (list_all-from_AllPass (λ b. not (line_feed b)) (decimal n)
    (All-weaker (λ b. line_feed b ≡ false) (λ b. not (line_feed b) ≡ true) (λ b. passes_not (line_feed b)) (decimal n) (above-weaker line_feed (decimal n) no_feed_above (decimal_is_high n))))

before_blank : (text rest : List ℕ) → All (λ b. (b == 32) ≡ false) text → first_word (text ++ (32 ∷ rest)) ≡ text
before_blank text rest none =
    let place : position_or_len (λ b. b == 32) (text ++ (32 ∷ rest)) ≡ length text = position_or_len_is (λ b. b == 32) (text ++ (32 ∷ rest)) (length text) 0
    (let n = length-append text (32 ∷ rest) in grind (arith))
    (λ k h. rw (get_or-append text (32 ∷ rest) 0 k h) (none k 0 h))
    (λ h. rw (get_or-append_seam text 32 rest 0) refl) in
    rw place (take-append_seam text (32 ∷ rest))

-- a number ends at the blank after it
pub first_word-decimal : (n : ℕ) (rest : List ℕ) → first_word (decimal n ++ (32 ∷ rest)) ≡ decimal n
first_word-decimal n rest = before_blank (decimal n) rest (above-weaker (λ b. b == 32) (decimal n) no_blank_above (decimal_is_high n))

one_line-element : (texts : List (List ℕ)) (k : ℕ) → AllPass is_one_line texts → OneLine (slice_index_or texts k [])
one_line-element texts k each = go (nat_lt k (length texts)) refl
  where
    go : (t : Bool) → nat_lt k (length texts) ≡ t → OneLine (slice_index_or texts k [])
    go true e = known (each k [] (grind (arith, nat_tests)))
    go false e = let beyond : length texts ≤ k = grind (arith, nat_tests) in known (rw (get_or-eq_default texts [] beyond) refl)

one_line-day : (day : ℕ) → OneLine (day_name day)
one_line-day day = let names = codes "Mon" ∷ codes "Tue" ∷ codes "Wed" ∷ codes "Thu" ∷ codes "Fri" ∷ codes "Sat" ∷ codes "Sun" ∷ [] in
    one_line-element names (day - 1) (AllPass-from_list_all is_one_line names refl)

one_line-month : (month : ℕ) → OneLine (month_name month)
one_line-month month = let names = codes "Jan" ∷ codes "Feb" ∷ codes "Mar" ∷ codes "Apr" ∷ codes "May" ∷ codes "Jun" ∷ codes "Jul" ∷ codes "Aug" ∷ codes "Sep" ∷ codes "Oct" ∷ codes "Nov" ∷ codes "Dec" ∷ [] in
    one_line-element names (month - 1) (AllPass-from_list_all is_one_line names refl)

two : (n : ℕ) → OneLine (two_digits n)
two n = let a : (48 + n / 10 == 10) ≡ false = grind (arith, nat_tests) in
    let b : (48 + n % 10 == 10) ≡ false = grind (arith, nat_tests) in
    known (rw (a, b) refl)

one_line-time : (p : Parts) → OneLine (time_of_day p)
one_line-time p = let colon = known {text = codes ":"} refl in joined (joined (joined (joined (two p.hour) colon) (two p.min)) colon) (two p.sec)

pub one_line-date : (date : HttpDate) → OneLine (date_text date)
one_line-date date =
    let p = date.parts in
    let day = joined (joined (joined (one_line-day p.wday) (known {text = codes ", "} refl)) (two p.day)) (known {text = codes " "} refl) in
    let month = joined (joined day (one_line-month p.mon)) (known {text = codes " "} refl) in
    let year = joined (joined month (joined (two (p.year / 100)) (two (p.year % 100)))) (known {text = codes " "} refl) in
    joined (joined year (one_line-time p)) (known refl)

pub one_line-media : (csv : Bool) → OneLine (media_type_text csv)
one_line-media true = known refl
one_line-media false = known refl

pub one_line-method : (method : Method) → OneLine (method_text method)
one_line-method Get = known refl
one_line-method Post = known refl

-- ---- the phrases of the statuses that are told

one_line-answer : (request : Request) → OneLine (phrase_of_status (status_of_answer request))
one_line-answer (request.Weigh key kind plate) = known refl
one_line-answer (request.VoidOpen key plate) = known refl
one_line-answer (request.Ticket number) = known refl
one_line-answer request.Indication = known refl
one_line-answer request.JournalCsv = known refl
one_line-answer request.TicketsCsv = known refl
one_line-answer request.Purge = known refl
one_line-answer request.Check = known refl

one_line-refusal : (why : Refusal) → OneLine (phrase_of_status (status_of_refusal why))
one_line-refusal refusal.KeyReused = known refl
one_line-refusal refusal.Gone = known refl
one_line-refusal refusal.ClockBack = known refl
one_line-refusal refusal.NoLoad = known refl
one_line-refusal refusal.Overload = known refl
one_line-refusal refusal.Underload = known refl
one_line-refusal refusal.Unstable = known refl
one_line-refusal refusal.BelowMin = known refl
one_line-refusal refusal.TareActive = known refl
one_line-refusal refusal.NoPreset = known refl
one_line-refusal refusal.NotCleared = known refl
one_line-refusal refusal.AlreadyOpen = known refl
one_line-refusal refusal.NoOpen = known refl
one_line-refusal refusal.JournalFull = known refl
one_line-refusal (refusal.Store fault) = known refl
one_line-refusal refusal.NoTicket = known refl
one_line-refusal refusal.Damaged = known refl

one_line-fault : (fault : HttpFault) → OneLine (phrase_of_status (fault_status fault))
one_line-fault HeadTooLarge = known refl
one_line-fault Malformed = known refl
one_line-fault NoRoute = known refl
one_line-fault (WrongMethod method) = known refl
one_line-fault NoLength = known refl
one_line-fault TooLarge = known refl
one_line-fault BadField = known refl
one_line-fault Memory = known refl

one_line-result : (request : Request) (result : Result Content Refusal) → OneLine (phrase_of_status (response_to_result request result).status)
one_line-result request (Ok answer) = one_line-answer request
one_line-result request (Err why) = one_line-refusal why

pub one_line-phrase : (outcome : Outcome) → OneLine (phrase_of_status (response_content outcome).status)
one_line-phrase (Office request result) = one_line-result request.now (content_or_refusal result.now)
one_line-phrase (Fault fault) = one_line-fault fault
