-- Requests to the office: what each leaves.
use Rattle.std.proofs.Common.{◌≡◌, ℕ, ◌⊎◌, inl, inr, refl, sym, ap, subst, subst₂, ◌∙◌, Bool, true, false, true≢false, ◌==◌, not, List, [], ◌∷◌, ◌++◌, Option, Some, None, Result, Ok, Err, if◌then◌else◌, IsErrOf, arith}
use Rattle.std.proofs.lemmas.Bool.{eqb-true}
use Rattle.std.specs.List.{AllByRecursion}
use Rattle.sqlite.specs.Held.{state}
use Rattle.sqlite.specs.Store.{Ghosts}
use Rattle.sqlite.specs.Tree.{Trees}
use Rattle.wb_instrument.specs.Setup.{Setup}
use Rattle.wb_journal.specs.declared.entry.EntryParts.{EntryParts}
use Rattle.wb_journal.specs.declared.journal_check.Finding.{Finding}
use Rattle.wb_journal.specs.declared.journal_check.Finding.TheVariants as finding
use Rattle.wb_journal.specs.declared.kind.Kind.{Kind}
use Rattle.wb_journal.specs.declared.kind.Kind.TheVariants.{First, Second, Single, Void}
use Rattle.wb_journal.specs.Check.{finding_in}
use Rattle.wb_journal.specs.Moment.{day_of}
use Rattle.wb_journal.specs.Pairs.{with_number}
use Rattle.wb_journal.specs.Rising.{IsRising}
use Rattle.wb_messages.specs.declared.answer.Answer.{Answer}
use Rattle.wb_messages.specs.declared.refusal.Refusal.{Refusal}
use Rattle.wb_messages.specs.declared.refusal.Refusal.TheVariants.{KeyReused, Gone, ClockBack, NoLoad, Overload, Underload, Unstable, BelowMin, TareActive, NoPreset, NotCleared, AlreadyOpen, NoOpen, JournalFull, Store, NoTicket, Damaged}
use Rattle.wb_messages.specs.declared.request.Request.{Request}
use Rattle.wb_messages.specs.declared.request.Request.TheVariants.{Weigh, VoidOpen, Ticket, Indication, JournalCsv, TicketsCsv, Purge, Check}
use Rattle.wb_messages.specs.Content.{Content, text_content}
use Rattle.wb_office.specs.Answer.{text_of_indication, answer_by_verdict, asking, makes_a_ticket, if_sound, entry_content, ticket_of}
use Rattle.wb_office.specs.Situation.{Situation}
use Rattle.wb_office.specs.WithoutStore.{Outright}
use Rattle.wb_office.specs.Conditions.{is_damaged_entry}
use Rattle.wb_messages.specs.Content.{content_or_refusal}
use Rattle.wb_office.specs.Serves.{IsNow, Marks, Serves, is_store_refusal}
use Rattle.wb_office.specs.Wanted.{Wanted, IsWanted, asks_store, wanted}
use Rattle.wb_office.specs.Verdict.{Verdict, accepted, refused, repeated, verdict}
use Rattle.wb_scale.specs.History.{moments}
use Rattle.wb_scale.specs.Indication.{indicated}
use Rattle.wb_scale.specs.State.{State}
use Rattle.wb_sics.specs.Calls.{calls}
use Rattle.wb_sics.specs.Event.{TerminalEvent, stored}
use Rattle.wb_sics.specs.Heard.{heard}
use Rattle.wb_sics.specs.Stands.{TerminalState, TerminalStands}
use Rattle.wb_store.specs.declared.fault.StoreFault.TheVariants.{Closed}
use Rattle.wb_store.specs.Journal.{IsHonest, Reopens, StoreView, StoreStands}
use Rattle.wb_store.specs.Keeping.{LeavesOnly}
use Rattle.wb_tables.specs.Rows.{IsStorable}
use Rattle.wb_tables.specs.Lists.{AreLists, number_after}
use Rattle.wb_journal.proofs.Theorems.{law_of_one_bound}
use Rattle.wb_sics.proofs.Theorems.{law_of_stored_weighings}
use Rattle.wb_http.specs.declared.fault.HttpFault.{HttpFault}
use Rattle.wb_http.specs.declared.fault.HttpFault.TheVariants.{BadField, HeadTooLarge, Malformed, Memory, NoLength, NoRoute, TooLarge, WrongMethod}
use Rattle.wb_station.specs.Account.{Account, Comes, IsResponseOut, Out, account_left, responded, situation_at}
use Rattle.wb_messages.specs.Happening.{Happening, heard_of, office}
use Rattle.wb_http.specs.HttpJudgement.{IsJudged, MayWantMemory}
use Rattle.wb_http.specs.UnlessMemoryRefused.{IsOf}
use Rattle.wb_http.specs.Response.{ResponseContent, is_export, response_text, response_to_fault, response_to_result}
use Rattle.wb_station.specs.Stands.{Hears, IsLedTo, IsOfHistory, IsOutright, KeepsLists, LeavesSoon, MustBeUnmade, StationStands, StationStandsAt, Took}
use Rattle.wb_station.proofs.Accounts.{of_account, one_later, quiet_took}
use Rattle.wb_http.proofs.judgement.WholeRequests.{one_judgement}

-- ---- exports change nothing

text_is_no_export : (es : List EntryParts) (e : EntryParts) (kind : Kind) → is_export (Ok (entry_content es e kind)) ≡ false
text_is_no_export es e First = refl
text_is_no_export es e Second = refl
text_is_no_export es e Single = refl
text_is_no_export es e Void = refl

verdict_is_no_export : (es : List EntryParts) (v : Verdict) → is_export (answer_by_verdict es v) ≡ false
verdict_is_no_export es (refused why) = refl
verdict_is_no_export es (repeated e) = text_is_no_export es e e.kind
verdict_is_no_export es (accepted e) = text_is_no_export (es ++ e ∷ []) e e.kind

ticket_is_no_export : (es : List EntryParts) (found : Option EntryParts) → is_export (ticket_of es found) ≡ false
ticket_is_no_export es None = refl
ticket_is_no_export es (Some e) = by_kind (makes_a_ticket e) refl
  where
    by_damage : (d : Bool) → is_damaged_entry es e ≡ d → makes_a_ticket e ≡ true → is_export (ticket_of es (Some e)) ≡ false
    by_damage true is has = rw (has, is) refl
    by_damage false is has = rw (has, is) (text_is_no_export es e e.kind)

    by_kind : (k : Bool) → makes_a_ticket e ≡ k → is_export (ticket_of es (Some e)) ≡ false
    by_kind true is = by_damage (is_damaged_entry es e) refl is
    by_kind false is = rw is refl

no_export_of : (f : Finding) (t : Content) → is_export (Ok t) ≡ false → is_export (if_sound f t) ≡ false
no_export_of (finding.Sound count) t none = none
no_export_of (finding.Damaged number) t none = refl

-- what is wanted changes nothing
record IsQuiet (w : Situation) (want : Wanted) : Type 0 where
  entries : want.entries ≡ w.entries
  spent : want.spent ≡ w.spent
  marks : want.marks ≡ false

is_quiet : (w : Situation) (want : Wanted) (wants : Wanted) → want ≡ wants → IsQuiet w wants → IsQuiet w want
is_quiet w want wants same quiet = subst (IsQuiet w) (sym same) quiet

export_is_quiet : (request : Request) (w : Situation) (want : Wanted) → IsWanted request w want → is_export want.answer ≡ true → IsQuiet w want
export_is_quiet (Weigh key kind plate) w want is export =
    absurd (true≢false (sym export ∙ ap (λ o. is_export o.answer) is.is ∙ verdict_is_no_export w.entries (verdict (asking w key kind plate))))
export_is_quiet (VoidOpen key plate) w want is export =
    absurd (true≢false (sym export ∙ ap (λ o. is_export o.answer) is.is ∙ verdict_is_no_export w.entries (verdict (asking w key Void plate))))
export_is_quiet (Ticket number) w want is export = is_quiet w want _ is.is (record { entries = refl; spent = refl; marks = refl })
export_is_quiet Indication w want is export = is_quiet w want _ is.is (record { entries = refl; spent = refl; marks = refl })
export_is_quiet JournalCsv w want is export = is_quiet w want _ is.is (record { entries = refl; spent = refl; marks = refl })
export_is_quiet TicketsCsv w want is export = is_quiet w want _ is.is (record { entries = refl; spent = refl; marks = refl })
export_is_quiet Purge w want is export = absurd (true≢false (sym export ∙ ap (λ o. is_export o.answer) is.is ∙ no_export_of (finding_in w.entries) _ refl))
export_is_quiet Check w want is export = is_quiet w want _ is.is (record { entries = refl; spent = refl; marks = refl })

-- ---- something is wanted of every request

pub some_wanted : (request : Request) (w : Situation) → IsRising w.entries → (want : Wanted) × IsWanted request w want
some_wanted Purge w rising =
    let one = law_of_one_bound w.entries (number_after w.entries w.spent) (day_of w.at) w.setup.retention_days rising in
    (wanted Purge w one.0, record { bound = one.0; is_bound = one.1; is = refl })
some_wanted request w rising = (wanted request w 0, record { bound = 0; is_bound = tt; is = refl })

-- ---- one judgement

same_request : (a b : Request) → ◌≡◌ {A = Result Request HttpFault} (Ok a) (Ok b) → a ≡ b
same_request a b same = cc same

same_fault : (a b : HttpFault) → ◌≡◌ {A = Result Request HttpFault} (Err a) (Err b) → a ≡ b
same_fault a b same = cc same

no_both : (request : Request) (fault : HttpFault) → ◌≡◌ {A = Result Request HttpFault} (Ok request) (Err fault) → ⊥
no_both request fault same = cc same

-- what asks the store is none of those that are answered outright
pub not_outright : (s : Setup) (at : ℕ) (bytes : List ℕ) (request : Request) → IsJudged bytes (Ok request) → asks_store request ≡ true → (h : List Happening) (out : Out)
    → IsOutright s at bytes h out
not_outright s at bytes request judged asks h out = record {
  fault = λ fault judged'. absurd (no_both request fault (one_judgement bytes (Ok request) (Err fault) judged judged'));
  no_ticket = λ judged'. absurd (other (Ticket 0) refl judged');
  indication = λ judged'. absurd (other Indication refl judged');
}
  where
    other : (outright : Request) → asks_store outright ≡ false → IsJudged bytes (Ok outright) → ⊥
    other outright none judged' = true≢false (sym asks ∙ ap asks_store (same_request request outright (one_judgement bytes (Ok request) (Ok outright) judged judged')) ∙ none)

-- ---- the store is asked

closed_is_refusal : (r : Result Answer Refusal) → r ≡ Err (Store Closed) → is_store_refusal r ≡ true
closed_is_refusal r is = ap is_store_refusal is

module _ {D : Type 0} (g : Ghosts D) (at : ℕ) (bytes : List ℕ) (request : Request) (judged : IsJudged bytes (Ok request))
    (asks : asks_store request ≡ true) (t : TerminalState) (scale' : State) (j j' : StoreView D) (result : Result Answer Refusal) (serves : Serves g j j' t.scale scale' at result (IsWanted request)) where
  -- the terminal after it
  abbrev pub t' : TerminalState
  t' = record t { scale = scale' }

  pub now : (a : Account) → TerminalStands t a.terminal → IsNow t.scale at (situation_at t.scale.setup at a)
  now a st = record { setup = refl; calls = calls t.scale.setup a.terminal; stands = st.now.scale; history = refl; moment = refl }

  of_setup : (marks : Bool) → Marks t.scale scale' marks → scale'.setup ≡ t.scale.setup
  of_setup true takes = takes.setup
  of_setup false same = ap (λ s. s.setup) same

  marked : (marks : Bool) → Marks t.scale scale' marks → (events : List TerminalEvent) → TerminalStands t events → TerminalStands t' (if marks then stored ∷ events else events)
  marked true takes events st = (law_of_stored_weighings t scale' takes).stands events st
  marked false same events st = subst (λ sc. TerminalStands (record t { scale = sc }) events) (sym same) st

  still_hears : (marks : Bool) → Marks t.scale scale' marks → (unmade : Bool) (h : List Happening) → Hears t h → Hears t' (office at bytes unmade ∷ h)
  still_hears true takes unmade h ears = record { events = stored ∷ ears.events; stands = (law_of_stored_weighings t scale' takes).stands ears.events ears.stands; of_history = ears.of_history }
  still_hears false same unmade h ears =
      record { events = ears.events; stands = subst (λ sc. TerminalStands (record t { scale = sc }) ears.events) (sym same) ears.stands; of_history = ears.of_history }

  pub is_open : is_store_refusal result ≡ false → j.is_closed ≡ false
  is_open plain = go j.is_closed refl
    where
      go : (c : Bool) → j.is_closed ≡ c → j.is_closed ≡ false
      go true closed = absurd (true≢false (sym (closed_is_refusal result (serves.closed.1 closed)) ∙ plain))
      go false closed = closed

  -- the response to an answer
  response_to : (want : Wanted) (out : Out) → content_or_refusal result ≡ want.answer → IsResponseOut at (response_to_result request (content_or_refusal result)) out → IsResponseOut at (response_to_result request want.answer) out
  response_to want out is response = subst (λ r. IsResponseOut at (response_to_result request r) out) is response

  comes_of : (a : Account) (want : Wanted) (out : Out) → IsWanted request (situation_at t.scale.setup at a) want → IsResponseOut at (response_to_result request want.answer) out
      → Comes t.scale.setup (office at bytes false) a (account_left want a) out
  comes_of a want out is response = (Ok request, judged, (want, is, refl, response))

  -- where it is made, if the request is wanted so, a crash leaves the lists before it or those that are wanted
  crashes : (out : Out) → IsResponseOut at (response_to_fault Memory) out → (o : Account) (h : List Happening) (st : StationStands g o t j h) → IsHonest g j' → j.is_closed ≡ false
      → (db : Trees) → (state g j'.conn).may_leave db → Reopens db st.account.entries st.account.spent ⊎ IsLedTo t.scale.setup (office at bytes false) st.account db
  crashes out response o h st honest there db may =
      let kept = st.at.store there in
      let w = situation_at t.scale.setup at st.account in
      let some = some_wanted request w st.at.lists.rising in
      either some.0 some.1 (serves.leaves w (now st.account st.at.terminal) kept.stands honest some.0 some.1 db may)
    where
      either : (want : Wanted) → IsWanted request (situation_at t.scale.setup at st.account) want → Reopens db st.account.entries st.account.spent ⊎ Reopens db want.entries want.spent
          → Reopens db st.account.entries st.account.spent ⊎ IsLedTo t.scale.setup (office at bytes false) st.account db
      either want is (inl before) = inl before
      either want is (inr after) = inr (record {
        after = account_left want st.account;
        out = responded (response_text (response_to_result request want.answer) response.0);
        comes = comes_of st.account want _ is (response.0, response.1, refl);
        reopens = after;
      })

  -- it is answered, and there is a response
  pub made_took : is_store_refusal result ≡ false → (out : Out) → IsResponseOut at (response_to_result request (content_or_refusal result)) out → Took g (office at bytes false) out t j t' j'
  made_took plain out response = record {
    setup = of_setup serves.scale.0 serves.scale.1;
    may_be_unmade = tt;
    comes = λ o h st honest.
        let made = serves.judged (situation_at t.scale.setup at st.account) (now st.account st.at.terminal) (st.at.store (is_open plain)).stands honest plain in
        let left = made.2 in
        let came = comes_of st.account made.0 out made.1 (response_to made.0 out left.answered response) in (
          account_left made.0 st.account,
          came,
          record {
            terminal = marked made.0.marks left.marked st.account.terminal st.at.terminal;
            lists = left.stands.rests.holds.lists;
            store = λ there. record { stands = left.stands; only = left.only };
            soon = subst (λ s. LeavesSoon g s o j' (office at bytes false ∷ h)) (sym (of_setup serves.scale.0 serves.scale.1))
                (λ db may. of_account t.scale.setup o (office at bytes false ∷ h) db (account_left made.0 st.account) (st.account, st.is_account, (out, came)) (left.only db may));
          },
        );
    crash = λ o h st honest there db may.
        let made = serves.judged (situation_at t.scale.setup at st.account) (now st.account st.at.terminal) (st.at.store there).stands honest plain in
        inr (record {
          after = account_left made.0 st.account;
          out = out;
          comes = comes_of st.account made.0 out made.1 (response_to made.0 out made.2.answered response);
          reopens = made.2.only db may;
        });
    still = λ closed. absurd (true≢false (sym closed ∙ is_open plain));
    honest = serves.honest;
    hears = still_hears serves.scale.0 serves.scale.1 false;
    replies = λ h ears. tt;
    outright = λ h ears. not_outright t.scale.setup at bytes request judged asks h out;
  }

  -- what stands after a request that counts as never made
  module _ (out : Out) (response : IsResponseOut at (response_to_fault Memory) out) where
    soon_after : (o : Account) (h : List Happening) (st : StationStands g o t j h) → IsHonest g j' → (c : Bool) → j.is_closed ≡ c → LeavesSoon g t.scale.setup o j' (office at bytes true ∷ h)
    soon_after o h st honest true closed =
        subst (λ i. LeavesSoon g t.scale.setup o i (office at bytes true ∷ h)) (sym (serves.still closed))
        (λ db may. one_later t.scale.setup o h db (office at bytes true) (λ other judged' asks'. refl) (λ a. (a, out, (refl, response), refl, refl)) (st.at.soon db may))
    soon_after o h st honest false there = λ db may. either db (crashes out response o h st honest there db may)
      where
        either : (db : Trees) → Reopens db st.account.entries st.account.spent ⊎ IsLedTo t.scale.setup (office at bytes false) st.account db
            → IsOfHistory t.scale.setup o (office at bytes true ∷ h) db
        either db (inl before) = of_account t.scale.setup o (office at bytes true ∷ h) db st.account (st.account, st.is_account, (out, (refl, response))) before
        either db (inr led) = record {
          history = office at bytes false ∷ h;
          same = inr (inl refl);
          account = led.after;
          is_account = (st.account, st.is_account, (led.out, led.comes));
          reopens = led.reopens;
        }

    unmade : (same : (o : Account) (h : List Happening) → StationStands g o t j h → IsHonest g j' → scale' ≡ t.scale)
        → (kept : (o : Account) (h : List Happening) (st : StationStands g o t j h) → IsHonest g j' → j'.is_closed ≡ false → KeepsLists g j' st.account)
        → Took g (office at bytes true) out t j t' j'
    unmade same kept = record {
      setup = of_setup serves.scale.0 serves.scale.1;
      may_be_unmade = inr (request, judged, asks);
      comes = λ o h st honest. (
        st.account,
        (refl, response),
        subst (λ sc. StationStandsAt g o (record t { scale = sc }) j' (office at bytes true ∷ h) st.account) (sym (same o h st honest)) (record {
          terminal = st.at.terminal;
          lists = st.at.lists;
          store = kept o h st honest;
          soon = soon_after o h st honest j.is_closed refl;
        }),
      );
      crash = crashes out response;
      still = λ closed. (serves.still closed, λ other judged' asks'. refl);
      honest = serves.honest;
      hears = still_hears serves.scale.0 serves.scale.1 true;
      replies = λ h ears. tt;
      outright = λ h ears. response;
    }

    -- the store refuses
    pub refused_took : is_store_refusal result ≡ true → Took g (office at bytes true) out t j t' j'
    refused_took refusal = unmade (λ o h st honest. serves.unmarked refusal) (λ o h st honest there.
        let left = serves.kept st.account.entries st.account.spent (st.at.store (was_open j.is_closed refl there)).stands honest refusal there in
        record { stands = left.0; only = left.1 })
      where
        was_open : (c : Bool) → j.is_closed ≡ c → j'.is_closed ≡ false → j.is_closed ≡ false
        was_open true closed there = absurd (true≢false (sym closed ∙ sym (ap (λ i. i.is_closed) (serves.still closed)) ∙ there))
        was_open false open' there = open'

    -- memory is refused for the response to an export
    pub export_took : is_store_refusal result ≡ false → is_export (content_or_refusal result) ≡ true → Took g (office at bytes true) out t j t' j'
    export_took plain export = unmade (λ o h st honest. left_alone o h st honest) (λ o h st honest there.
        let made = serves.judged (situation_at t.scale.setup at st.account) (now st.account st.at.terminal) (st.at.store (is_open plain)).stands honest plain in
        let quiet = export_is_quiet request (situation_at t.scale.setup at st.account) made.0 made.1 (sym (ap is_export made.2.answered) ∙ export) in
        record {
          stands = subst₂ (λ es ks. StoreStands g j' es ks) quiet.entries quiet.spent made.2.stands;
          only = subst₂ (λ es ks. LeavesOnly g j' es ks) quiet.entries quiet.spent made.2.only;
        })
      where
        unmoved : (marks : Bool) → Marks t.scale scale' marks → marks ≡ false → scale' ≡ t.scale
        unmoved true takes none = absurd (true≢false none)
        unmoved false same none = same

        left_alone : (o : Account) (h : List Happening) → StationStands g o t j h → IsHonest g j' → scale' ≡ t.scale
        left_alone o h st honest =
            let made = serves.judged (situation_at t.scale.setup at st.account) (now st.account st.at.terminal) (st.at.store (is_open plain)).stands honest plain in
            let quiet = export_is_quiet request (situation_at t.scale.setup at st.account) made.0 made.1 (sym (ap is_export made.2.answered) ∙ export) in
            unmoved made.0.marks made.2.marked quiet.marks

-- ---- the store isn't asked

is_zero : (number : ℕ) → not (number == 0) ≡ false → number ≡ 0
is_zero number e = by_test (number == 0) refl
  where
    by_test : (b : Bool) → (number == 0) ≡ b → number ≡ 0
    by_test true is = eqb-true number 0 is
    by_test false is = absurd (true≢false (rw is at e))

unnumbered : (es : List EntryParts) → AllByRecursion IsStorable es → with_number 0 es ≡ None
unnumbered [] storable = refl
unnumbered (e ∷ es) storable = by_number (e.number == 0) refl (unnumbered es storable.1)
  where
    by_number : (b : Bool) → (e.number == 0) ≡ b → with_number 0 es ≡ None → with_number 0 (e ∷ es) ≡ None
    by_number true is rest = let zero : e.number ≡ 0 = eqb-true e.number 0 is in let low = storable.0.0.least in absurd (omega (arith, zero, low))
    by_number false is rest = rw is rest

-- no entry has the number 0
no_ticket : (es : List EntryParts) (number : ℕ) → number ≡ 0 → AllByRecursion IsStorable es → ticket_of es (with_number number es) ≡ Err NoTicket
no_ticket es number zero storable = ap (λ n. ticket_of es (with_number n es)) zero ∙ ap (ticket_of es) (unnumbered es storable)

-- what is answered outright is what is wanted, and changes nothing
pub outright_comes : (at : ℕ) (bytes : List ℕ) (request : Request) → IsJudged bytes (Ok request) → asks_store request ≡ false → (t : TerminalState) (result : Result Answer Refusal) → Outright t.scale request result
    → (out : Out) → IsResponseOut at (response_to_result request (content_or_refusal result)) out → (a : Account) → TerminalStands t a.terminal → AreLists a.entries a.spent → Comes t.scale.setup (office at bytes false) a a out
outright_comes at bytes Indication judged asks t result is out response a st lists =
    let text = is.2 (calls t.scale.setup a.terminal) st.now.scale in
    let w = situation_at t.scale.setup at a in (
      Ok Indication,
      judged,
      (
        wanted Indication w 0,
        record { bound = 0; is_bound = tt; is = refl },
        refl,
        subst (λ r. IsResponseOut at (response_to_result Indication r) out) (is.1 ∙ ap (λ x. Ok (text_content x)) text) response,
      ),
    )
outright_comes at bytes (Ticket number) judged asks t result is out response a st lists =
    let w = situation_at t.scale.setup at a in (
      Ok (Ticket number),
      judged,
      (
        wanted (Ticket number) w 0,
        record { bound = 0; is_bound = tt; is = refl },
        refl,
        subst (λ r. IsResponseOut at (response_to_result (Ticket number) r) out) (ap content_or_refusal is ∙ sym (no_ticket a.entries number (is_zero number asks) lists.storable)) response,
      ),
    )
outright_comes at bytes (Weigh key kind plate) judged asks t result is out response a st lists = absurd (cc)
outright_comes at bytes (VoidOpen key plate) judged asks t result is out response a st lists = absurd (cc)
outright_comes at bytes JournalCsv judged asks t result is out response a st lists = absurd (cc)
outright_comes at bytes TicketsCsv judged asks t result is out response a st lists = absurd (cc)
outright_comes at bytes Purge judged asks t result is out response a st lists = absurd (cc)
outright_comes at bytes Check judged asks t result is out response a st lists = absurd (cc)

-- on any account something comes of it, which leaves that account
outright_any : (at : ℕ) (bytes : List ℕ) (request : Request) → IsJudged bytes (Ok request) → asks_store request ≡ false → (s : Setup) (content : ResponseContent) (out : Out) → IsResponseOut at content out
    → (a : Account) → (other : Out) × Comes s (office at bytes false) a a other
outright_any at bytes Indication judged asks s content out response a =
    let want = wanted Indication (situation_at s at a) 0 in (
      responded (response_text (response_to_result Indication want.answer) response.0),
      (Ok Indication, judged, (want, record { bound = 0; is_bound = tt; is = refl }, refl, (response.0, response.1, refl))),
    )
outright_any at bytes (Ticket number) judged asks s content out response a =
    let want = wanted (Ticket number) (situation_at s at a) 0 in (
      responded (response_text (response_to_result (Ticket number) want.answer) response.0),
      (Ok (Ticket number), judged, (want, record { bound = 0; is_bound = tt; is = refl }, refl, (response.0, response.1, refl))),
    )
outright_any at bytes (Weigh key kind plate) judged asks s content out response a = absurd (cc asks)
outright_any at bytes (VoidOpen key plate) judged asks s content out response a = absurd (cc asks)
outright_any at bytes JournalCsv judged asks s content out response a = absurd (cc asks)
outright_any at bytes TicketsCsv judged asks s content out response a = absurd (cc asks)
outright_any at bytes Purge judged asks s content out response a = absurd (cc asks)
outright_any at bytes Check judged asks s content out response a = absurd (cc asks)

-- and it is answered so
answers_outright : (at : ℕ) (bytes : List ℕ) (request : Request) → IsJudged bytes (Ok request) → (t : TerminalState) (result : Result Answer Refusal) → Outright t.scale request result
    → (out : Out) → IsResponseOut at (response_to_result request (content_or_refusal result)) out → (h : List Happening) → Hears t h → IsOutright t.scale.setup at bytes h out
answers_outright at bytes request judged t result is out response h ears = record {
  fault = λ fault judged'. absurd (no_both request fault (one_judgement bytes (Ok request) (Err fault) judged judged'));
  no_ticket = λ judged'. ticket (same_request request (Ticket 0) (one_judgement bytes (Ok request) (Ok (Ticket 0)) judged judged'));
  indication = λ judged'. indication (same_request request Indication (one_judgement bytes (Ok request) (Ok Indication) judged judged'));
}
  where
    ticket : request ≡ Ticket 0 → IsResponseOut at (response_to_result (Ticket 0) (Err NoTicket)) out
    ticket same =
        let is' = subst (λ r. Outright t.scale r result) same is in
        subst (λ r. IsResponseOut at (response_to_result (Ticket 0) r) out) (ap content_or_refusal is') (subst (λ r. IsResponseOut at (response_to_result r (content_or_refusal result)) out) same response)

    indication : request ≡ Indication → (events : List TerminalEvent) × (heard events ≡ heard_of h)
        × IsResponseOut at (response_to_result Indication (Ok (text_content (text_of_indication t.scale.setup (indicated t.scale.setup (moments t.scale.setup (calls t.scale.setup events))))))) out
    indication same =
        let is' = subst (λ r. Outright t.scale r result) same is in
        let text = is'.2 (calls t.scale.setup ears.events) ears.stands.now.scale in (
          ears.events,
          ears.of_history,
          subst (λ r. IsResponseOut at (response_to_result Indication r) out) (is'.1 ∙ ap (λ x. Ok (text_content x)) text) (subst (λ r. IsResponseOut at (response_to_result r (content_or_refusal result)) out) same response),
        )

-- ---- what became of a request

-- a refusal of the store is told as want of memory is
pub refusal_told : (request : Request) (r : Result Answer Refusal) → is_store_refusal r ≡ true → response_to_result request (content_or_refusal r) ≡ response_to_fault Memory
refusal_told request (Ok answer) is = absurd (cc is)
refusal_told request (Err (Store fault)) is = refl
refusal_told request (Err KeyReused) is = absurd (cc is)
refusal_told request (Err Gone) is = absurd (cc is)
refusal_told request (Err ClockBack) is = absurd (cc is)
refusal_told request (Err NoLoad) is = absurd (cc is)
refusal_told request (Err Overload) is = absurd (cc is)
refusal_told request (Err Underload) is = absurd (cc is)
refusal_told request (Err Unstable) is = absurd (cc is)
refusal_told request (Err BelowMin) is = absurd (cc is)
refusal_told request (Err TareActive) is = absurd (cc is)
refusal_told request (Err NoPreset) is = absurd (cc is)
refusal_told request (Err NotCleared) is = absurd (cc is)
refusal_told request (Err AlreadyOpen) is = absurd (cc is)
refusal_told request (Err NoOpen) is = absurd (cc is)
refusal_told request (Err JournalFull) is = absurd (cc is)
refusal_told request (Err NoTicket) is = absurd (cc is)
refusal_told request (Err Damaged) is = absurd (cc is)

no_export_outright : (request : Request) (scale : State) (result : Result Answer Refusal) → asks_store request ≡ false → Outright scale request result → is_export (content_or_refusal result) ≡ false
no_export_outright Indication scale result none is = ap is_export is.1
no_export_outright (Ticket number) scale result none is = ap (λ r. is_export (content_or_refusal r)) is
no_export_outright (Weigh key kind plate) scale result none is = absurd (cc none)
no_export_outright (VoidOpen key plate) scale result none is = absurd (cc none)
no_export_outright JournalCsv scale result none is = absurd (cc none)
no_export_outright TicketsCsv scale result none is = absurd (cc none)
no_export_outright Purge scale result none is = absurd (cc none)
no_export_outright Check scale result none is = absurd (cc none)

-- a request that asks no store must not count as never made
pub need_not : (at : ℕ) (bytes : List ℕ) (request : Request) → IsJudged bytes (Ok request) → asks_store request ≡ false → MustBeUnmade (office at bytes false)
need_not at bytes request judged none other judged' asks =
    absurd (true≢false (sym asks ∙ ap asks_store (same_request other request (one_judgement bytes (Ok other) (Ok request) judged' judged)) ∙ none))

module _ {D : Type 0} (g : Ghosts D) (at : ℕ) (bytes : List ℕ) (request : Request) (judged : IsJudged bytes (Ok request))
    (t : TerminalState) (scale' : State) (j j' : StoreView D) (result : Result Answer Refusal)
    (serves : asks_store request ≡ true → Serves g j j' t.scale scale' at result (IsWanted request))
    (outright : asks_store request ≡ false → (j' ≡ j) × (scale' ≡ t.scale) × Outright t.scale request result) where
  -- there is a response to it
  pub answered_took : (out : Out) → IsResponseOut at (response_to_result request (content_or_refusal result)) out → (unmade : Bool) × Took g (office at bytes unmade) out t j (record t { scale = scale' }) j'
  answered_took out response = by_request (asks_store request) refl
    where
      by_refusal : (asks : asks_store request ≡ true) (b : Bool) → is_store_refusal result ≡ b → (unmade : Bool) × Took g (office at bytes unmade) out t j (record t { scale = scale' }) j'
      by_refusal asks true is =
          (true, refused_took g at bytes request judged asks t scale' j j' result (serves asks) out (subst (λ content. IsResponseOut at content out) (refusal_told request result is) response) is)
      by_refusal asks false is = (false, made_took g at bytes request judged asks t scale' j j' result (serves asks) is out response)

      by_request : (b : Bool) → asks_store request ≡ b → (unmade : Bool) × Took g (office at bytes unmade) out t j (record t { scale = scale' }) j'
      by_request true asks = by_refusal asks (is_store_refusal result) refl
      by_request false none =
          let is = outright none in (
            false,
            subst₂ (λ sc i. Took g (office at bytes false) out t j (record t { scale = sc }) i) (sym is.1) (sym is.0)
                (quiet_took g j at bytes false out t tt (need_not at bytes request judged none) (outright_comes at bytes request judged none t result is.2 out response)
                (outright_any at bytes request judged none t.scale.setup _ out response) (answers_outright at bytes request judged t result is.2 out response)),
          )

  -- memory was refused for its response
  pub failed_took : is_export (content_or_refusal result) ≡ true → (out : Out) → IsResponseOut at (response_to_fault Memory) out → (unmade : Bool) × Took g (office at bytes unmade) out t j (record t { scale = scale' }) j'
  failed_took export out response = by_request (asks_store request) refl
    where
      by_refusal : (asks : asks_store request ≡ true) (b : Bool) → is_store_refusal result ≡ b → (unmade : Bool) × Took g (office at bytes unmade) out t j (record t { scale = scale' }) j'
      by_refusal asks true is = (true, refused_took g at bytes request judged asks t scale' j j' result (serves asks) out response is)
      by_refusal asks false is = (true, export_took g at bytes request judged asks t scale' j j' result (serves asks) out response is export)

      by_request : (b : Bool) → asks_store request ≡ b → (unmade : Bool) × Took g (office at bytes unmade) out t j (record t { scale = scale' }) j'
      by_request true asks = by_refusal asks (is_store_refusal result) refl
      by_request false none = absurd (true≢false (sym export ∙ no_export_outright request t.scale result none (outright none).2))

-- ---- faults of HTTP

module _ {D : Type 0} (g : Ghosts D) (j : StoreView D) (at : ℕ) (bytes : List ℕ) (t : TerminalState) (out : Out) where
  -- a fault of the judgement is made
  fault_made : (fault : HttpFault) → IsJudged bytes (Err fault) → IsResponseOut at (response_to_fault fault) out → (unmade : Bool) × Took g (office at bytes unmade) out t j t j
  fault_made fault judged response = (
    false,
    quiet_took g j at bytes false out t tt (λ other judged' asks. absurd (none other judged')) (λ a st lists. (Err fault, judged, (refl, response)))
        (λ a. (out, (Err fault, judged, (refl, response)))) (λ h ears. record {
          fault = λ other judged'. subst (λ f. IsResponseOut at (response_to_fault f) out) (same_fault fault other (one_judgement bytes (Err fault) (Err other) judged judged')) response;
          no_ticket = λ judged'. absurd (none (Ticket 0) judged');
          indication = λ judged'. absurd (none Indication judged');
        }),
  )
    where
      none : (other : Request) → IsJudged bytes (Ok other) → ⊥
      none other judged' = no_both other fault (one_judgement bytes (Ok other) (Err fault) judged' judged)

  -- want of memory counts as never made
  memory_unmade : MayWantMemory bytes → IsResponseOut at (response_to_fault Memory) out → (unmade : Bool) × Took g (office at bytes unmade) out t j t j
  memory_unmade may response = (true, quiet_took g j at bytes true out t (inl may) (λ other judged' asks. refl) (λ a st lists. (refl, response)) (λ a. (out, (refl, response))) (λ h ears. response))

  pub fault_took : (fault : HttpFault) → (r : Result Request HttpFault) → IsJudged bytes r → IsOf r (Err fault) → (IsErrOf {T = Request} (Err fault) Memory → MayWantMemory bytes) → IsResponseOut at (response_to_fault fault) out
      → (unmade : Bool) × Took g (office at bytes unmade) out t j t j
  fault_took HeadTooLarge r judged is may response = fault_made HeadTooLarge (subst (IsJudged bytes) is judged) response
  fault_took Malformed r judged is may response = fault_made Malformed (subst (IsJudged bytes) is judged) response
  fault_took NoRoute r judged is may response = fault_made NoRoute (subst (IsJudged bytes) is judged) response
  fault_took (WrongMethod method) r judged is may response = fault_made (WrongMethod method) (subst (IsJudged bytes) is judged) response
  fault_took NoLength r judged is may response = fault_made NoLength (subst (IsJudged bytes) is judged) response
  fault_took TooLarge r judged is may response = fault_made TooLarge (subst (IsJudged bytes) is judged) response
  fault_took BadField r judged is may response = fault_made BadField (subst (IsJudged bytes) is judged) response
  fault_took Memory r judged is may response = memory_unmade (may refl) response
