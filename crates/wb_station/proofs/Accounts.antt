-- Accounts: one of a history, and what each event makes of it.
use Rattle.std.proofs.Common.{◌≡◌, ℕ, ◌⊎◌, inl, inr, refl, sym, ap, subst, ◌∙◌, Bool, true, false, List, [], ◌∷◌, ◌++◌, Result, Ok, Err, OnOk, IsOk, is_err}
use Rattle.sqlite.specs.Store.{Ghosts}
use Rattle.sqlite.specs.Tree.{Trees}
use Rattle.wb_instrument.specs.Setup.{Setup}
use Rattle.wb_sics.specs.declared.reply.Reply.{Reply}
use Rattle.wb_sics.specs.Event.{TerminalEvent}
use Rattle.wb_sics.specs.Event as terminal
use Rattle.wb_sics.specs.Heard.{heard}
use Rattle.wb_sics.specs.Replies.{replies}
use Rattle.wb_sics.specs.Stands.{TerminalTakesAll, TerminalState, TerminalStands}
use Rattle.wb_journal.specs.declared.entry.EntryParts.{EntryParts}
use Rattle.wb_store.specs.Journal.{Reopens, StoreView, StoreStands}
use Rattle.wb_store.specs.Keeping.{LeavesOnly}
use Rattle.wb_tables.specs.Rows.{SpentKey}
use Rattle.wb_tables.specs.Lists.{AreLists}
use Rattle.wb_sics.proofs.Theorems.{law_of_replies}
use Rattle.wb_station.specs.Account.{Account, Comes, IsAccount, IsResponseOut, Out, hears, nothing, opened, replied, responded}
use Rattle.wb_http.specs.Response.{IsDateOf, ResponseContent, response_text}
use Rattle.wb_messages.specs.Happening.{Happening, heard_of, reading, byte, hang_up, office}
use Rattle.wb_station.specs.Stands.{Hears, IsAnsweredOutright, IsButForOne, IsOfHistory, IsReplied, LeavesSoon, MustBeUnmade, StationStands, Took}
use Rattle.wb_station.specs.Unmade.{MayBeUnmade}
use Rattle.wb_window.specs.declared.reading.Reading.{Reading as Load}

module _ (s : Setup) (opening : Account) (h : List Happening) (db : Trees) where
  -- what a crash leaves is of a history too to which a happening came that adds nothing to the lists
  pub one_later : (p : Happening) → MustBeUnmade p → ((a : Account) → (b : Account) × (out : Out) × Comes s p a b out × (b.entries ≡ a.entries) × (b.spent ≡ a.spent))
      → IsOfHistory s opening h db → IsOfHistory s opening (p ∷ h) db
  one_later p must comes is =
      let next = comes is.account in
      record {
        history = p ∷ is.history;
        same = either is.same;
        account = next.0;
        is_account = (is.account, is.is_account, (next.1, next.2));
        reopens = subst (λ ks. Reopens db next.0.entries ks) (sym next.4) (subst (λ es. Reopens db es is.account.spent) (sym next.3) is.reopens);
      }
    where
      either : (is.history ≡ h) ⊎ IsButForOne h is.history → (p ∷ is.history ≡ p ∷ h) ⊎ IsButForOne (p ∷ h) (p ∷ is.history)
      either (inl same) = inl (ap (λ l. p ∷ l) same)
      either (inr but) = inr (inr (must, is.history, refl, but))

  -- it is that of the history itself
  pub of_account : (a : Account) → IsAccount s opening h a → Reopens db a.entries a.spent → IsOfHistory s opening h db
  of_account a is reopens = record { history = h; same = inl refl; account = a; is_account = is; reopens = reopens }

module _ {D : Type 0} (g : Ghosts D) (p : Happening) (e : TerminalEvent) (out : Out) (t t' : TerminalState) (j : StoreView D) where
  -- something comes to the terminal, and the store is as it was
  pub heard_took : TerminalTakesAll t t' (e ∷ []) → MayBeUnmade p → MustBeUnmade p
      → ((a : Account) → TerminalStands t a.terminal → Comes t.scale.setup p a (hears e a) out)
      → ((a : Account) → (other : Out) × Comes t.scale.setup p a (hears e a) other)
      → ((h : List Happening) → Hears t h → heard (e ∷ []) ++ heard_of h ≡ heard_of (p ∷ h))
      → ((events : List TerminalEvent) → heard (e ∷ events) ≡ heard (e ∷ []) ++ heard events)
      → ((h : List Happening) → Hears t h → IsReplied t.scale.setup p h out) → ((h : List Happening) → Hears t h → IsAnsweredOutright t.scale.setup p h out) → Took g p out t j t' j
  heard_took takes may must comes' any ears one replies' outright' = record {
    setup = takes.setup;
    may_be_unmade = may;
    comes = λ o h st honest. (
      hears e st.account,
      comes' st.account st.at.terminal,
      record {
        terminal = takes.stands st.account.terminal st.at.terminal;
        lists = st.at.lists;
        store = λ there. let kept = st.at.store there in record { stands = kept.stands; only = kept.only };
        soon = subst (λ s. LeavesSoon g s o j (p ∷ h)) (sym takes.setup)
            (λ db may. one_later t.scale.setup o h db p must (λ a. (hears e a, (any a).0, (any a).1, refl, refl)) (st.at.soon db may));
      },
    );
    crash = λ o h st honest there db may. inl ((st.at.store there).only db may);
    still = λ closed. (refl, must);
    honest = λ honest. honest;
    hears = λ h ears'. record {
      events = e ∷ ears'.events;
      stands = takes.stands ears'.events ears'.stands;
      of_history = one ears'.events ∙ ap (λ l. heard (e ∷ []) ++ l) ears'.of_history ∙ ears h ears';
    };
    replies = replies';
    outright = outright';
  }

-- the replies to what was heard
pub replies_heard : (e : TerminalEvent) (t : TerminalState) (h : List Happening) (rs : List Reply) → ((events : List TerminalEvent) → TerminalStands t events → rs ≡ replies t.scale.setup (e ∷ events))
    → Hears t h → rs ≡ replies t.scale.setup (e ∷ heard_of h)
replies_heard e t h rs is ears =
    is ears.events ears.stands ∙ sym (law_of_replies t.scale.setup e ears.events) ∙ ap (λ l. replies t.scale.setup (e ∷ l)) ears.of_history

module _ {D : Type 0} (g : Ghosts D) (j : StoreView D) where
  -- a reading
  pub reading_took : (r : Load) (rs : List Reply) (t t' : TerminalState) → TerminalTakesAll t t' (terminal.reading r ∷ [])
      → ((events : List TerminalEvent) → TerminalStands t events → rs ≡ replies t.scale.setup (terminal.reading r ∷ events)) → Took g (reading r) (replied rs) t j t' j
  reading_took r rs t t' takes is = heard_took g (reading r) (terminal.reading r) (replied rs) t t' j takes tt tt (λ a st. (refl, ap replied (is a.terminal st)))
      (λ a. (replied (replies t.scale.setup (terminal.reading r ∷ a.terminal)), (refl, refl))) (λ h ears. refl) (λ events. refl)
      (λ h ears. ap replied (replies_heard (terminal.reading r) t h rs is ears)) (λ h ears. tt)

  -- a byte
  pub byte_took : (b : ℕ) (rs : List Reply) (t t' : TerminalState) → TerminalTakesAll t t' (terminal.byte b ∷ [])
      → ((events : List TerminalEvent) → TerminalStands t events → rs ≡ replies t.scale.setup (terminal.byte b ∷ events)) → Took g (byte b) (replied rs) t j t' j
  byte_took b rs t t' takes is = heard_took g (byte b) (terminal.byte b) (replied rs) t t' j takes tt tt (λ a st. (refl, ap replied (is a.terminal st)))
      (λ a. (replied (replies t.scale.setup (terminal.byte b ∷ a.terminal)), (refl, refl))) (λ h ears. refl) (λ events. refl)
      (λ h ears. ap replied (replies_heard (terminal.byte b) t h rs is ears)) (λ h ears. tt)

  -- a hang-up
  pub hang_up_took : (t t' : TerminalState) → TerminalTakesAll t t' (terminal.hang_up ∷ []) → Took g hang_up nothing t j t' j
  hang_up_took t t' takes = heard_took g hang_up terminal.hang_up nothing t t' j takes tt tt (λ a st. (refl, refl)) (λ a. (nothing, (refl, refl))) (λ h ears. refl) (λ events. refl)
      (λ h ears. refl) (λ h ears. tt)

  -- a request after which all is as before
  pub quiet_took : (at : ℕ) (bytes : List ℕ) (unmade : Bool) (out : Out) (t : TerminalState) → MayBeUnmade (office at bytes unmade) → MustBeUnmade (office at bytes unmade)
      → ((a : Account) → TerminalStands t a.terminal → AreLists a.entries a.spent → Comes t.scale.setup (office at bytes unmade) a a out)
      → ((a : Account) → (other : Out) × Comes t.scale.setup (office at bytes unmade) a a other)
      → ((h : List Happening) → Hears t h → IsAnsweredOutright t.scale.setup (office at bytes unmade) h out) → Took g (office at bytes unmade) out t j t j
  quiet_took at bytes unmade out t may must comes' any outright' = record {
    setup = refl;
    may_be_unmade = may;
    comes = λ o h st honest. (
      st.account,
      comes' st.account st.at.terminal st.at.lists,
      record {
        terminal = st.at.terminal;
        lists = st.at.lists;
        store = st.at.store;
        soon = λ db may. one_later t.scale.setup o h db (office at bytes unmade) must (λ a. (a, (any a).0, (any a).1, refl, refl)) (st.at.soon db may);
      },
    );
    crash = λ o h st honest there db may. inl ((st.at.store there).only db may);
    still = λ closed. (refl, must);
    honest = λ honest. honest;
    hears = λ h ears. record { events = ears.events; stands = ears.stands; of_history = ears.of_history };
    replies = λ h ears. tt;
    outright = outright';
  }

-- what holds of a result that succeeds
pub when_ok : {X E : Type 0} {P : Type 0} (r : Result X E) → OnOk r P → IsOk r → P
when_ok (Ok x) holds ok = holds
when_ok (Err e) holds ok = absurd (cc ok)

pub when_not_err : {X E : Type 0} {P : Type 0} (r : Result X E) → OnOk r P → is_err r ≡ false → P
when_not_err (Ok x) holds not_err = holds
when_not_err (Err e) holds not_err = absurd (cc not_err)

-- what fails only if a condition holds
pub when_err : {X E : Type 0} (b : Bool) (r : Result X E) → (b ≡ false → IsOk r) → is_err r ≡ true → b ≡ true
when_err true r fits failed = refl
when_err false (Ok x) fits failed = absurd (cc failed)
when_err false (Err e) fits failed = absurd (cc (fits refl))

-- a response, with its moment and what it tells by other names
pub response_is : (at at' : ℕ) (told told' : ResponseContent) (bytes : List ℕ) → at' ≡ at → told' ≡ told → (date : List ℕ) × IsDateOf at' date × (bytes ≡ response_text told' date) → IsResponseOut at told (responded bytes)
response_is at at' told told' bytes moment tells is = (is.0, subst (λ x. IsDateOf x is.0) moment is.1, ap responded (is.2 ∙ ap (λ x. response_text x is.0) tells))

-- at the opening it stands after the empty history
pub opens : {D : Type 0} (g : Ghosts D) (t : TerminalState) (j j' : StoreView D) → j' ≡ j → TerminalStands t [] → (entries : List EntryParts) (spent : List SpentKey) → StoreStands g j entries spent
    → LeavesOnly g j entries spent → StationStands g (opened entries spent) t j' []
opens g t j j' same st entries spent stood only = subst (λ i. StationStands g (opened entries spent) t i []) (sym same) (record {
  account = opened entries spent;
  is_account = refl;
  at = record {
    terminal = st;
    lists = stood.rests.holds.lists;
    store = λ there. record { stands = stood; only = only };
    soon = λ db may. of_account t.scale.setup (opened entries spent) [] db (opened entries spent) refl (only db may);
  };
})
