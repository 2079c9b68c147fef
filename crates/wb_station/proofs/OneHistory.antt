-- One account, and one output.
use Rattle.std.proofs.Common.{◌≡◌, ℕ, refl, sym, ap, subst, ◌∙◌, arith, Bool, true, false, List, [], ◌∷◌, if◌then◌else◌, Result, Ok, Err}
use Rattle.httpdate.proofs.Theorems.{unix_secs_injective}
use Rattle.httpdate.specs.Text.{imf_fixdate}
use Rattle.wb_instrument.specs.Setup.{Setup}
use Rattle.wb_messages.specs.declared.request.Request.{Request}
use Rattle.wb_messages.specs.declared.request.Request.TheVariants.{Purge}
use Rattle.wb_office.specs.Situation.{Situation}
use Rattle.wb_office.specs.Wanted.{Wanted, HasBound, IsWanted, wanted}
use Rattle.wb_sics.specs.Event as terminal
use Rattle.wb_sics.specs.Event.{TerminalEvent}
use Rattle.wb_sics.specs.Heard.{heard}
use Rattle.wb_sics.specs.Replies.{replies}
use Rattle.wb_sics.proofs.Theorems.{law_of_replies}
use Rattle.wb_http.specs.declared.fault.HttpFault.{HttpFault}
use Rattle.wb_station.specs.Account.{Account, Comes, ComesOf, IsAccount, IsResponseOut, Out, account_left, replied, responded, situation_at}
use Rattle.wb_messages.specs.Happening.{Happening, heard_of, reading, byte, hang_up, office}
use Rattle.wb_station.specs.Laws.{OneHistory, RepliesAlone}
use Rattle.wb_http.specs.Response.{ResponseContent, response_text, response_to_result}
use Rattle.wb_http.proofs.judgement.WholeRequests.{one_judgement}

one_response : (at : ℕ) (content : ResponseContent) (x y : Out) → IsResponseOut at content x → IsResponseOut at content y → x ≡ y
one_response at content x y a b =
    let same = unix_secs_injective a.1.0 b.1.0 (a.1.1 ∙ sym b.1.1) in
    a.2 ∙ ap (λ d. responded (response_text content d)) (a.1.2 ∙ ap imf_fixdate same ∙ sym b.1.2) ∙ sym b.2

same_wanted : (request : Request) (w : Situation) (b c : ℕ) → HasBound request w b → HasBound request w c → wanted request w b ≡ wanted request w c
same_wanted Purge w b c one two =
    let low = one.greatest c two.purgeable in
    let high = two.greatest b one.purgeable in
    let same : b ≡ c = omega (arith, low, high) in
    ap (wanted Purge w) same
same_wanted _ w b c one two = refl

one_wanted : (request : Request) (w : Situation) (x y : Wanted) → IsWanted request w x → IsWanted request w y → x ≡ y
one_wanted request w x y one two = one.is ∙ same_wanted request w one.bound two.bound one.is_bound two.is_bound ∙ sym two.is

-- an account and an output
record IsSame (a b : Account) (x y : Out) : Type 0 where
  account : a ≡ b
  out : x ≡ y

one_answer : (s : Setup) (at : ℕ) (r : Result Request HttpFault) (before a b : Account) (x y : Out) → ComesOf s at r before a x → ComesOf s at r before b y → IsSame a b x y
one_answer s at (Err fault) before a b x y one two = record { account = one.0 ∙ sym two.0; out = one_response at _ x y one.1 two.1 }
one_answer s at (Ok request) before a b x y one two =
    let same : one.0 ≡ two.0 = one_wanted request (situation_at s at before) one.0 two.0 one.1 two.1 in
    record {
      account = one.2 ∙ ap (λ want. account_left want before) same ∙ sym two.2;
      out = one_response at _ x y one.3 (subst (λ want. IsResponseOut at (response_to_result request want.answer) y) (sym same) two.3);
    }

one_comes : (s : Setup) (p : Happening) (before a b : Account) (x y : Out) → Comes s p before a x → Comes s p before b y → IsSame a b x y
one_comes s (reading r) before a b x y one two = record { account = one.0 ∙ sym two.0; out = one.1 ∙ sym two.1 }
one_comes s (byte c) before a b x y one two = record { account = one.0 ∙ sym two.0; out = one.1 ∙ sym two.1 }
one_comes s hang_up before a b x y one two = record { account = one.0 ∙ sym two.0; out = one.1 ∙ sym two.1 }
one_comes s (office at bytes true) before a b x y one two = record { account = one.0 ∙ sym two.0; out = one_response at _ x y one.1 two.1 }
one_comes s (office at bytes false) before a b x y one two =
    let same : one.0 ≡ two.0 = one_judgement bytes one.0 two.0 one.1 two.1 in
    one_answer s at one.0 before a b x y one.2 (subst (λ r. ComesOf s at r before b y) (sym same) two.2)

one_account : (s : Setup) (opening : Account) (h : List Happening) (a b : Account) → IsAccount s opening h a → IsAccount s opening h b → a ≡ b
one_account s opening [] a b one two = one ∙ sym two
one_account s opening (p ∷ h) a b one two =
    let same : one.0 ≡ two.0 = one_account s opening h one.0 two.0 one.1 two.1 in
    (one_comes s p one.0 a b one.2.0 two.2.0 one.2.1 (subst (λ before. Comes s p before b two.2.0) (sym same) two.2.1)).account

pub one_history : OneHistory
one_history = record {
  account = one_account;
  out = λ s opening p h x y one two.
      let same : one.0 ≡ two.0 = one_account s opening h one.0 two.0 one.1 two.1 in
      (one_comes s p one.0 one.2.0 two.2.0 x y one.2.1 (subst (λ before. Comes s p before two.2.0 y) (sym same) two.2.1)).out;
}

-- ---- what the terminal heard

heard_marked : (marks : Bool) (events : List TerminalEvent) → heard (if marks then terminal.stored ∷ events else events) ≡ heard events
heard_marked true events = refl
heard_marked false events = refl

heard_answer : (s : Setup) (at : ℕ) (r : Result Request HttpFault) (before a : Account) (x : Out) → ComesOf s at r before a x → heard a.terminal ≡ heard before.terminal
heard_answer s at (Err fault) before a x one = ap (λ c. heard c.terminal) one.0
heard_answer s at (Ok request) before a x one = ap (λ c. heard c.terminal) one.2 ∙ heard_marked one.0.marks before.terminal

heard_history : (s : Setup) (opening : Account) (h : List Happening) (a : Account) → opening.terminal ≡ [] → IsAccount s opening h a → heard a.terminal ≡ heard_of h
heard_history s opening [] a none is = ap (λ c. heard c.terminal) is ∙ ap heard none
heard_history s opening (reading r ∷ h) a none is = ap (λ c. heard c.terminal) is.2.1.0 ∙ ap (λ l. terminal.reading r ∷ l) (heard_history s opening h is.0 none is.1)
heard_history s opening (byte b ∷ h) a none is = ap (λ c. heard c.terminal) is.2.1.0 ∙ ap (λ l. terminal.byte b ∷ l) (heard_history s opening h is.0 none is.1)
heard_history s opening (hang_up ∷ h) a none is = ap (λ c. heard c.terminal) is.2.1.0 ∙ ap (λ l. terminal.hang_up ∷ l) (heard_history s opening h is.0 none is.1)
heard_history s opening (office at bytes true ∷ h) a none is = ap (λ c. heard c.terminal) is.2.1.0 ∙ heard_history s opening h is.0 none is.1
heard_history s opening (office at bytes false ∷ h) a none is =
    heard_answer s at is.2.1.0 is.0 a is.2.0 is.2.1.2 ∙ heard_history s opening h is.0 none is.1

alone : (s : Setup) (e : TerminalEvent) (events heard_events : List TerminalEvent) → heard events ≡ heard_events → replies s (e ∷ events) ≡ replies s (e ∷ heard_events)
alone s e events heard_events same = sym (law_of_replies s e events) ∙ ap (λ l. replies s (e ∷ l)) same

pub replies_alone : RepliesAlone
replies_alone s opening (reading r) h x none is = is.2.1.1 ∙ ap replied (alone s (terminal.reading r) is.0.terminal (heard_of h) (heard_history s opening h is.0 none is.1))
replies_alone s opening (byte b) h x none is = is.2.1.1 ∙ ap replied (alone s (terminal.byte b) is.0.terminal (heard_of h) (heard_history s opening h is.0 none is.1))
replies_alone s opening hang_up h x none is = is.2.1.1
replies_alone s opening (office at bytes unmade) h x none is = tt
