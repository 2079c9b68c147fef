-- Events handled, one after the other, and turns of them.
use Rattle.std.proofs.Common.{◌≡◌, ℕ, ◌+◌, ◌<◌, Bool, false, List, [], ◌∷◌, ◌++◌, length, map, Option, Some, inl, inr, refl, sym, ap, subst, ◌∙◌, append_assoc, arith}
use Rattle.std.specs.Prelude.{⊤, Ok, Err}
use Rattle.std.specs.declared.result.Result.{Result}
use Rattle.std.proofs.lemmas.List.{append-nil, map-append}
use Rattle.sqlite.specs.Store.{Ghosts}
use Rattle.wb_program.specs.declared.serving.ServeEnd.TheVariants as end
use Rattle.wb_program.specs.declared.serving.Stop.{Stop}
use Rattle.wb_program.specs.declared.serving.Stop.TheVariants as stop
use Rattle.wb_input.specs.declared.sources.Converter.TheVariants.{Line}
use Rattle.wb_program.specs.Served.{EndsAfter, Handled, Served}
use Rattle.wb_program.specs.helpers.TurnParts.{ExchangeEnds, ExchangeServed, StretchServed, end_of, TurnEnds, TurnServed}
use Rattle.wb_station.specs.SourceAnswers.{Answer, Handed, SourceTells, Told, asked, bytes_asked, converted, exchanged, timed, took}
use Rattle.wb_station.specs.declared.sources.Exchange.{Exchange}
use Rattle.wb_program.specs.Turns.{Begun, Turn, all_handed_on, answers_begun, answers_of, answers_of_request, handed_on, happenings_of_request, happenings_begun, happenings_of, stretch}
use Rattle.wb_messages.specs.declared.notice.Notice.{Notice}
use Rattle.wb_program.proofs.SourceAnswers.{all_handed_on_append, only_output, tells_append, tells_none, without_notices_append}
use Rattle.wb_program.specs.HandedOn.{HandsOn, RanHandingOn, without_notices}
use Rattle.wb_station.specs.Notices.{IsNoticed}
use Rattle.wb_sics.specs.Stands.{TerminalState}
use Rattle.wb_station.proofs.offered.Runs.{ran_append, ran_more, ran_none, unmarked_happening}
use Rattle.wb_station.specs.Account.{Out}
use Rattle.wb_messages.specs.declared.event.Event.{Event}
use Rattle.wb_messages.specs.Happening.{Happening, happening, office, reading, unmarked}
use Rattle.wb_station.specs.Stands.{Took}
use Rattle.wb_store.specs.Journal.{StoreView}
use Rattle.wb_window.specs.declared.reading.Reading.{Reading}

module _ {D : Type 0} (g : Ghosts D) where
  -- ---- happenings one after the other

  handing_append : (ps qs : List Happening) (outs more : List Out) (hs ks : List Handed) (t : TerminalState) (j : StoreView D) (t' : TerminalState) (j' : StoreView D) (t'' : TerminalState) (j'' : StoreView D)
      → RanHandingOn g ps t j t' j' outs hs → RanHandingOn g qs t' j' t'' j'' more ks → RanHandingOn g (qs ++ ps) t j t'' j'' (more ++ outs) (ks ++ hs)
  handing_append ps [] outs more hs ks t j t' j' t'' j'' first next =
      subst (λ x. RanHandingOn g ps t j x j'' (more ++ outs) (ks ++ hs)) (sym next.0)
      (subst (λ x. RanHandingOn g ps t j t' x (more ++ outs) (ks ++ hs)) (sym next.1)
      (subst (λ l. RanHandingOn g ps t j t' j' (l ++ outs) (ks ++ hs)) (sym next.2)
      (subst (λ l. RanHandingOn g ps t j t' j' outs (l ++ hs)) (sym next.3) first)))
  handing_append ps (q ∷ qs) outs [] hs ks t j t' j' t'' j'' first next = absurd next
  handing_append ps (q ∷ qs) outs (out ∷ more) hs ks t j t' j' t'' j'' first next = (
    next.0,
    next.1,
    next.2 ++ hs,
    next.3,
    next.4,
    handing_append ps qs outs more hs next.2 t j t' j' next.0 next.1 first next.5,
    next.6,
    next.7,
    next.8,
    ap (λ l. l ++ hs) next.9 ∙ append_assoc next.3 next.2 hs,
  )

  -- a call answered, and nothing happened
  pub handled_none : (t : TerminalState) (j : StoreView D) (a b : Option Told) (answers : List Answer) → SourceTells answers [] a b → Handled g t j t j a b answers []
  handled_none t j a b answers told = record {
    happenings = [];
    outs = [];
    handed = [];
    as_happened = refl;
    ran = ran_none g t j;
    handing = (refl, refl, refl, refl);
    put_out = refl;
    told = told;
  }

  -- something happened, and its notice and what was put out were handed on
  pub handled_one : (p : Happening) (out : Out) (notice : Option Notice) (t : TerminalState) (j : StoreView D) (t' : TerminalState) (j' : StoreView D) (a b : Option Told)
      → Took g p out t j t' j' → IsNoticed g p out t j j' notice → HandsOn out notice a b → Handled g t j t' j' a b [] (unmarked p ∷ [])
  handled_one p out notice t j t' j' a b taken noted (hs, is, told) = record {
    happenings = p ∷ [];
    outs = out ∷ [];
    handed = hs;
    as_happened = refl;
    ran = ran_more g [] [] p out t j t j t' j' (ran_none g t j) taken;
    handing = (t, j, [], hs, notice, (refl, refl, refl, refl), taken, noted, is, sym (append-nil hs));
    put_out = only_output out notice hs is ∙ sym (append-nil (handed_on out));
    told = told;
  }

  -- an event was taken
  pub handled_event : (e : Event) (unmade : Bool) (out : Out) (notice : Option Notice) (t : TerminalState) (j : StoreView D) (t' : TerminalState) (j' : StoreView D) (a b : Option Told)
      → Took g (happening unmade e) out t j t' j' → IsNoticed g (happening unmade e) out t j j' notice → HandsOn out notice a b → Handled g t j t' j' a b [] (happening false e ∷ [])
  handled_event e unmade out notice t j t' j' a b taken noted told =
      subst (λ p. Handled g t j t' j' a b [] (p ∷ [])) (unmarked_happening unmade e) (handled_one (happening unmade e) out notice t j t' j' a b taken noted told)

  pub handled_append : (xs bs : List Answer) (ps qs : List Happening) (t : TerminalState) (j : StoreView D) (t' : TerminalState) (j' : StoreView D) (t'' : TerminalState) (j'' : StoreView D) (a b c : Option Told)
      → Handled g t j t' j' a b xs ps → Handled g t' j' t'' j'' b c bs qs → Handled g t j t'' j'' a c (bs ++ xs) (qs ++ ps)
  handled_append xs bs ps qs t j t' j' t'' j'' a b c first next = record {
    happenings = next.happenings ++ first.happenings;
    outs = next.outs ++ first.outs;
    handed = next.handed ++ first.handed;
    as_happened = map-append unmarked next.happenings first.happenings ∙ ap (λ l. l ++ map unmarked first.happenings) next.as_happened ∙ ap (λ l. qs ++ l) first.as_happened;
    ran = ran_append g first.happenings next.happenings first.outs next.outs t j t' j' t'' j'' first.ran next.ran;
    handing = handing_append first.happenings next.happenings first.outs next.outs first.handed next.handed t j t' j' t'' j'' first.handing next.handing;
    put_out = without_notices_append first.handed next.handed ∙ ap (λ l. l ++ without_notices first.handed) next.put_out ∙ ap (λ l. all_handed_on next.outs ++ l) first.put_out
        ∙ sym (all_handed_on_append first.outs next.outs);
    told = tells_append xs bs first.handed next.handed a b c first.told next.told;
  }

  -- a call answered, and then something happened
  pub handled_answer : (answers : List Answer) (ps : List Happening) (t : TerminalState) (j : StoreView D) (t' : TerminalState) (j' : StoreView D) (a b c : Option Told)
      → SourceTells answers [] a b → Handled g t j t' j' b c [] ps → Handled g t j t' j' a c answers ps
  handled_answer answers ps t j t' j' a b c told next = record {
    happenings = next.happenings;
    outs = next.outs;
    handed = next.handed;
    as_happened = next.as_happened;
    ran = next.ran;
    handing = next.handing;
    put_out = next.put_out;
    told = subst (λ hs. SourceTells answers hs a c) (append-nil next.handed) (tells_append answers [] [] next.handed a b c told next.told);
  }

  -- ---- an exchange

  pub exchange_served : (e : Exchange) (room : List ℕ) (moment : ℕ) (t : TerminalState) (j : StoreView D) (t' : TerminalState) (j' : StoreView D) (a b c : Option Told)
      → e.moment ≡ Some moment → SourceTells (exchanged (Some e) room) [] a b → Handled g t j t' j' b c [] (office moment (bytes_asked e.asked room) false ∷ [])
      → ExchangeServed g t j t' j' a c (Ok tt)
  exchange_served e room moment t j t' j' a b c is told handled =
      let request = Some (record { bytes = bytes_asked e.asked room; moment = moment }) in record {
        answers = answers_of_request request;
        happened = happenings_of_request request;
        handled = handled_answer (answers_of_request request) (happenings_of_request request) t j t' j' a b c
            (subst (λ m. SourceTells (timed m ∷ asked (Some (bytes_asked e.asked room)) ∷ []) [] a b) is told) handled;
        ends = (request, refl, refl);
      }

  -- ---- a turn

  turn_ends : (result : Result ⊤ Stop) (begun : Begun) (answers : List Answer) (happened : List Happening) → ExchangeEnds result answers happened
      → TurnEnds result (answers ++ answers_begun begun) (happened ++ happenings_begun begun)
  turn_ends (Ok done) begun answers happened ends = (
    record { begun = begun; request = ends.0 },
    ap (λ l. l ++ answers_begun begun) ends.1,
    ap (λ l. l ++ happenings_begun begun) ends.2,
  )
  turn_ends (Err stop.ConverterEnd) begun answers happened ends = absurd ends
  turn_ends (Err stop.ConverterFault) begun answers happened ends = absurd ends
  turn_ends (Err stop.ClockFault) begun answers happened ends = (
    begun,
    ap (λ l. l ++ happenings_begun begun) ends.2,
    ends.0,
    ap (λ l. l ++ answers_begun begun) ends.1,
  )

  module _ (result : Result ⊤ Stop) (r : Reading) (t : TerminalState) (j : StoreView D) (t1 : TerminalState) (j1 : StoreView D) (t2 : TerminalState) (j2 : StoreView D) (t3 : TerminalState) (j3 : StoreView D)
      (a b c d e : Option Told) (line : SourceTells (converted (Line r) ∷ []) [] a b) (read : Handled g t j t1 j1 b c [] (reading r ∷ []))
      (typed : StretchServed g t1 j1 t2 j2 c d) (exchange : ExchangeServed g t2 j2 t3 j3 d e result) where
    abbrev begun : Begun
    begun = record { reading = r; bytes = typed.bytes; hung_up = typed.hung_up }

    at_reading : Handled g t j t1 j1 a c (converted (Line r) ∷ []) (reading r ∷ [])
    at_reading = handled_answer (converted (Line r) ∷ []) (reading r ∷ []) t j t1 j1 a b c line read

    at_terminal : Handled g t j t2 j2 a d (answers_begun begun) (happenings_begun begun)
    at_terminal = handled_append (converted (Line r) ∷ []) (took typed.bytes typed.hung_up ∷ []) (reading r ∷ []) (stretch typed.bytes typed.hung_up) t j t1 j1 t2 j2 a c d at_reading typed.handled

    pub turn_served : TurnServed g t j t3 j3 a e result
    turn_served = record {
      answers = exchange.answers ++ answers_begun begun;
      happened = exchange.happened ++ happenings_begun begun;
      handled = handled_append (answers_begun begun) exchange.answers (happenings_begun begun) exchange.happened t j t2 j2 t3 j3 a d e at_terminal exchange.handled;
      ends = turn_ends result begun exchange.answers exchange.happened exchange.ends;
    }

  -- ---- turns

  -- so many whole turns were served
  pub record Serving (count : ℕ) (t : TerminalState) (j : StoreView D) (t' : TerminalState) (j' : StoreView D) (a b : Option Told) : Type 0 where
    pub turns : List Turn
    pub counted : length turns ≡ count
    pub handled : Handled g t j t' j' a b (answers_of turns) (happenings_of turns)

  pub serving_none : (t : TerminalState) (j : StoreView D) (a : Option Told) → Serving 0 t j t j a a
  serving_none t j a = record { turns = []; counted = refl; handled = handled_none t j a a [] (tells_none a) }

  module _ (count : ℕ) (t : TerminalState) (j : StoreView D) (t1 : TerminalState) (j1 : StoreView D) (t2 : TerminalState) (j2 : StoreView D) (a b c : Option Told)
      (so_far : Serving count t j t1 j1 a b) where
    both : (answers : List Answer) (happened : List Happening) → Handled g t1 j1 t2 j2 b c answers happened
        → Handled g t j t2 j2 a c (answers ++ answers_of so_far.turns) (happened ++ happenings_of so_far.turns)
    both answers happened next = handled_append (answers_of so_far.turns) answers (happenings_of so_far.turns) happened t j t1 j1 t2 j2 a b c so_far.handled next

    pub serving_next : (done : ⊤) → TurnServed g t1 j1 t2 j2 b c (Ok done) → Serving (count + 1) t j t2 j2 a c
    serving_next done turn = record {
      turns = turn.ends.0 ∷ so_far.turns;
      counted = omega (arith, so_far.counted);
      handled = subst (λ xs. Handled g t j t2 j2 a c (xs ++ answers_of so_far.turns) (happenings_of (turn.ends.0 ∷ so_far.turns))) turn.ends.1
          (subst (λ ps. Handled g t j t2 j2 a c (turn.answers ++ answers_of so_far.turns) (ps ++ happenings_of so_far.turns)) turn.ends.2 (both turn.answers turn.happened turn.handled));
    }

    ends_after : (limit : ℕ) (s : Stop) (answers : List Answer) (happened : List Happening) → count < limit → TurnEnds (Err s) answers happened
        → EndsAfter so_far.turns limit (end_of s count) (answers ++ answers_of so_far.turns) (happened ++ happenings_of so_far.turns)
    ends_after limit stop.ConverterEnd answers happened less ends = (
      sym so_far.counted,
      ap (λ l. l ++ happenings_of so_far.turns) ends.1,
      inr (less, ap (λ l. l ++ answers_of so_far.turns) ends.0),
    )
    ends_after limit stop.ConverterFault answers happened less ends = (
      subst (λ n. n < limit) (sym so_far.counted) less,
      ap (λ l. l ++ happenings_of so_far.turns) ends.1,
      ap (λ l. l ++ answers_of so_far.turns) ends.0,
    )
    ends_after limit stop.ClockFault answers happened less ends = (
      subst (λ n. n < limit) (sym so_far.counted) less,
      ends.0,
      ap (λ l. l ++ happenings_of so_far.turns) ends.1,
      ends.2,
      ap (λ l. l ++ answers_of so_far.turns) ends.3,
    )

    pub served_stopped : (limit : ℕ) (s : Stop) → count < limit → TurnServed g t1 j1 t2 j2 b c (Err s) → Served g t j t2 j2 a c limit (end_of s count)
    served_stopped limit s less turn = record {
      answers = turn.answers ++ answers_of so_far.turns;
      happened = turn.happened ++ happenings_of so_far.turns;
      turns = so_far.turns;
      handled = both turn.answers turn.happened turn.handled;
      ends = ends_after limit s turn.answers turn.happened less turn.ends;
    }

  pub served_all : (count limit : ℕ) (t : TerminalState) (j : StoreView D) (t' : TerminalState) (j' : StoreView D) (a b : Option Told) → count ≡ limit → Serving count t j t' j' a b
      → Served g t j t' j' a b limit (end.Turns limit)
  served_all count limit t j t' j' a b all so_far = record {
    answers = answers_of so_far.turns;
    happened = happenings_of so_far.turns;
    turns = so_far.turns;
    handled = so_far.handled;
    ends = (sym all ∙ sym so_far.counted, refl, inl (refl, refl));
  }
