-- Notices of the terminal's events and of the office's answers.
use Rattle.std.proofs.Common.{◌≡◌, ◌≢◌, ℕ, refl, sym, ap, subst, ◌∙◌, arith, Bool, true, false, true≢false, List, [], ◌∷◌, Option, Some, None, Result, Ok, Err}
use Rattle.std.specs.Prelude.{option_map}
use Rattle.sqlite.specs.Store.{Ghosts}
use Rattle.wb_http.specs.declared.fault.HttpFault.{HttpFault}
use Rattle.wb_http.specs.declared.fault.HttpFault.TheVariants.{BadField, HeadTooLarge, Malformed, Memory, NoLength, NoRoute, TooLarge, WrongMethod}
use Rattle.wb_http.specs.Faults.{fault_status}
use Rattle.wb_http.specs.HttpJudgement.{IsJudged}
use Rattle.wb_http.specs.Response.{response_text, response_to_fault, response_to_result}
use Rattle.wb_http.specs.UnlessMemoryRefused.{IsOf, WasJudged}
use Rattle.wb_messages.specs.Content.{content_or_refusal}
use Rattle.wb_messages.specs.declared.answer.Answer.{Answer}
use Rattle.wb_messages.specs.declared.notice.EntryName.{EntryName}
use Rattle.wb_messages.specs.declared.notice.Notice.{Notice}
use Rattle.wb_messages.specs.declared.notice.Notice.TheVariants.{Answered}
use Rattle.wb_messages.specs.declared.refusal.Refusal.{Refusal}
use Rattle.wb_messages.specs.declared.refusal.Refusal.TheVariants.{KeyReused, Gone, ClockBack, NoLoad, Overload, Underload, Unstable, BelowMin, TareActive, NoPreset, NotCleared, AlreadyOpen, NoOpen, JournalFull, Store, NoTicket, Damaged}
use Rattle.wb_messages.specs.declared.request.Request.{Request}
use Rattle.wb_messages.specs.declared.request.Request.TheVariants.{Weigh, VoidOpen, Ticket, Indication, JournalCsv, TicketsCsv, Purge, Check}
use Rattle.wb_messages.specs.Happening.{Happening}
use Rattle.wb_office.specs.NamedEntry.{Names, entry_answered, name_of}
use Rattle.wb_office.specs.Serves.{IsNow, Serves, is_store_refusal}
use Rattle.wb_office.specs.Situation.{Situation}
use Rattle.wb_office.specs.Wanted.{IsWanted, asks_store}
use Rattle.wb_scale.specs.State.{State}
use Rattle.wb_sics.specs.Calls.{calls}
use Rattle.wb_sics.specs.declared.reply.Reply.{Reply}
use Rattle.wb_sics.specs.Event.{TerminalEvent}
use Rattle.wb_sics.specs.Replies.{replies}
use Rattle.wb_sics.specs.Stands.{TerminalStands, TerminalState, TerminalTakesAll}
use Rattle.wb_station.specs.Account.{Account, IsResponseOut, Out, responded, situation_at}
use Rattle.wb_station.specs.Notices.{IsAnswerNoticed, entry_judged, zero_if_set, zero_notice}
use Rattle.wb_station.specs.Stands.{StationStands}
use Rattle.wb_station.proofs.OfficeRequests.{is_open, now, refusal_told}
use Rattle.wb_store.specs.declared.fault.StoreFault.{StoreFault}
use Rattle.wb_store.specs.Journal.{IsHonest, StoreView}

-- ---- at the terminal

-- the zero after the event is that of the events with it
pub heard_noticed : (e : TerminalEvent) (t t' : TerminalState) (rs : List Reply) (notice : Option Notice) → TerminalTakesAll t t' (e ∷ [])
    → ((events : List TerminalEvent) → TerminalStands t events → rs ≡ replies t.scale.setup (e ∷ events))
    → ((events : List TerminalEvent) → TerminalStands t' events → notice ≡ zero_if_set t'.scale.setup rs events)
    → (events : List TerminalEvent) → TerminalStands t events → notice ≡ zero_notice t.scale.setup (e ∷ events)
heard_noticed e t t' rs notice takes same is events st =
    is (e ∷ events) (takes.stands events st) ∙ ap (λ s. zero_if_set s rs (e ∷ events)) takes.setup ∙ ap (λ l. zero_if_set t.scale.setup l (e ∷ events)) (same events st)

-- ---- statuses

-- no answer has the status 503, and no refusal except the store's
made_is_not_503 : (request : Request) (r : Result Answer Refusal) → is_store_refusal r ≡ false → (response_to_result request (content_or_refusal r)).status ≢ 503
made_is_not_503 (Weigh key kind plate) (Ok answer) plain is = omega (arith, is)
made_is_not_503 (VoidOpen key plate) (Ok answer) plain is = omega (arith, is)
made_is_not_503 (Ticket number) (Ok answer) plain is = omega (arith, is)
made_is_not_503 Indication (Ok answer) plain is = omega (arith, is)
made_is_not_503 JournalCsv (Ok answer) plain is = omega (arith, is)
made_is_not_503 TicketsCsv (Ok answer) plain is = omega (arith, is)
made_is_not_503 Purge (Ok answer) plain is = omega (arith, is)
made_is_not_503 Check (Ok answer) plain is = omega (arith, is)
made_is_not_503 request (Err KeyReused) plain is = omega (arith, is)
made_is_not_503 request (Err Gone) plain is = omega (arith, is)
made_is_not_503 request (Err ClockBack) plain is = omega (arith, is)
made_is_not_503 request (Err NoLoad) plain is = omega (arith, is)
made_is_not_503 request (Err Overload) plain is = omega (arith, is)
made_is_not_503 request (Err Underload) plain is = omega (arith, is)
made_is_not_503 request (Err Unstable) plain is = omega (arith, is)
made_is_not_503 request (Err BelowMin) plain is = omega (arith, is)
made_is_not_503 request (Err TareActive) plain is = omega (arith, is)
made_is_not_503 request (Err NoPreset) plain is = omega (arith, is)
made_is_not_503 request (Err NotCleared) plain is = omega (arith, is)
made_is_not_503 request (Err AlreadyOpen) plain is = omega (arith, is)
made_is_not_503 request (Err NoOpen) plain is = omega (arith, is)
made_is_not_503 request (Err JournalFull) plain is = omega (arith, is)
made_is_not_503 request (Err (Store fault)) plain is = absurd (cc plain)
made_is_not_503 request (Err NoTicket) plain is = omega (arith, is)
made_is_not_503 request (Err Damaged) plain is = omega (arith, is)

-- what asks no store is answered by no entry
no_entry : (request : Request) → asks_store request ≡ false → (w : Situation) → entry_answered w request ≡ None
no_entry (Weigh key kind plate) none w = absurd (cc none)
no_entry (VoidOpen key plate) none w = absurd (cc none)
no_entry (Ticket number) none w = refl
no_entry Indication none w = refl
no_entry JournalCsv none w = refl
no_entry TicketsCsv none w = refl
no_entry Purge none w = refl
no_entry Check none w = refl

-- ---- an answer

module _ {D : Type 0} (g : Ghosts D) (at : ℕ) (bytes : List ℕ) (request : Request) (judged : IsJudged bytes (Ok request))
    (t : TerminalState) (scale' : State) (j j' : StoreView D) (result : Result Answer Refusal) (name : Option EntryName)
    (serves : asks_store request ≡ true → Serves g j j' t.scale scale' at result (IsWanted request))
    (names : Names g j j' t.scale at result name (λ w. entry_answered w request))
    (nameless : asks_store request ≡ false → name ≡ None) where
  pub answer_noticed : (out : Out) (status : ℕ) (fault : Option StoreFault) → IsResponseOut at (response_to_result request (content_or_refusal result)) out
      → (response_to_result request (content_or_refusal result)).status ≡ status → IsAnswerNoticed g at bytes out t j j' (Some (Answered status name fault))
  answer_noticed out status fault response same = record {
    status = status;
    name = name;
    fault = fault;
    is = refl;
    has_status = (response_to_result request (content_or_refusal result), response.0, response.2, same);
    unnamed = λ is. unnamed is (is_store_refusal result) refl;
    named = λ o h st honest other. (Ok request, judged, named o h st honest other (asks_store request) refl);
  }
    where
      unnamed : status ≡ 503 → (b : Bool) → is_store_refusal result ≡ b → name ≡ None
      unnamed is true of_store = names.unnamed of_store
      unnamed is false plain = absurd (made_is_not_503 request result plain (same ∙ is))

      plain_named : (asks : asks_store request ≡ true) (o : Account) (h : List Happening) (st : StationStands g o t j h) → IsHonest g j' → status ≢ 503 → (b : Bool) → is_store_refusal result ≡ b
          → name ≡ option_map name_of (entry_answered (situation_at t.scale.setup at st.account) request)
      plain_named asks o h st honest other true of_store = absurd (other (sym same ∙ ap (λ c. c.status) (refusal_told request result of_store)))
      plain_named asks o h st honest other false plain =
          names.named (situation_at t.scale.setup at st.account) (now g at bytes request judged asks t scale' j j' result (serves asks) st.account st.at.terminal)
          (st.at.store (is_open g at bytes request judged asks t scale' j j' result (serves asks) plain)).stands honest plain

      named : (o : Account) (h : List Happening) (st : StationStands g o t j h) → IsHonest g j' → status ≢ 503 → (b : Bool) → asks_store request ≡ b
          → name ≡ option_map name_of (entry_judged (situation_at t.scale.setup at st.account) (Ok request))
      named o h st honest other true asks = plain_named asks o h st honest other (is_store_refusal result) refl
      named o h st honest other false none = nameless none ∙ sym (ap (option_map name_of) (no_entry request none (situation_at t.scale.setup at st.account)))

-- ---- a fault of HTTP

module _ {D : Type 0} (g : Ghosts D) (at : ℕ) (bytes : List ℕ) (t : TerminalState) (j j' : StoreView D) where
  -- the judgement of every fault except out of memory
  judged_so : (fault : HttpFault) → fault_status fault ≢ 503 → (r : Result Request HttpFault) → IsJudged bytes r → IsOf r (Err fault) → IsJudged bytes (Err fault)
  judged_so HeadTooLarge other r judged is = subst (IsJudged bytes) is judged
  judged_so Malformed other r judged is = subst (IsJudged bytes) is judged
  judged_so NoRoute other r judged is = subst (IsJudged bytes) is judged
  judged_so (WrongMethod method) other r judged is = subst (IsJudged bytes) is judged
  judged_so NoLength other r judged is = subst (IsJudged bytes) is judged
  judged_so TooLarge other r judged is = subst (IsJudged bytes) is judged
  judged_so BadField other r judged is = subst (IsJudged bytes) is judged
  judged_so Memory other r judged is = absurd (other refl)

  pub fault_noticed : (fault : HttpFault) → WasJudged bytes (Err fault) → (out : Out) → IsResponseOut at (response_to_fault fault) out
      → IsAnswerNoticed g at bytes out t j j' (Some (Answered (fault_status fault) None None))
  fault_noticed fault was out response = record {
    status = fault_status fault;
    name = None;
    fault = None;
    is = refl;
    has_status = (response_to_fault fault, response.0, response.2, refl);
    unnamed = λ is. refl;
    named = λ o h st honest other. (Err fault, judged_so fault other was.judged.0 was.judged.1 was.judged.2, refl);
  }

  -- memory was refused for a response
  pub memory_noticed : (out : Out) → IsResponseOut at (response_to_fault Memory) out → IsAnswerNoticed g at bytes out t j j' (Some (Answered (fault_status Memory) None None))
  memory_noticed out response = record {
    status = 503;
    name = None;
    fault = None;
    is = refl;
    has_status = (response_to_fault Memory, response.0, response.2, refl);
    unnamed = λ is. refl;
    named = λ o h st honest other. absurd (other refl);
  }
