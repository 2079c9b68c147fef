-- Runs of events, one event more at a time.
use Rattle.std.proofs.Common.{◌≡◌, ◌≢◌, ℕ, ◌+◌, ◌<◌, List, [], ◌∷◌, ◌++◌, length, map, sym, ap, ◌∙◌, append_assoc, Bool, false, take, get_or, subst, arith}
use Rattle.std.specs.Prelude.{reverse}
use Rattle.std.proofs.lemmas.List.{reverse-append, map-append, take_more}
use Rattle.sqlite.specs.Store.{Ghosts}
use Rattle.wb_sics.specs.Stands.{TerminalState}
use Rattle.wb_store.specs.Journal.{StoreView}
use Rattle.wb_messages.specs.declared.event.Event.{Event}
use Rattle.wb_station.specs.Account.{Out, bytes_of_out}
use Rattle.wb_messages.specs.Happening.{Happening, happening, unmarked}
use Rattle.wb_station.specs.RunOfEvents.{AreOf, Ran, Stopped, Went, at_place, taken_of}
use Rattle.wb_station.specs.Stands.{Took}
use Rattle.wb_station.proofs.offered.Runs.{ran_more, unmarked_happening}

of_one_more : (ps : List Happening) (events : List Event) (unmade : Bool) (e : Event) → AreOf ps events → AreOf (happening unmade e ∷ ps) (events ++ e ∷ [])
of_one_more ps events unmade e are =
    ap (λ p. p ∷ map unmarked ps) (unmarked_happening unmade e) ∙ ap (λ qs. happening false e ∷ qs) are
    ∙ sym (ap reverse (map-append (happening false) events (e ∷ [])) ∙ reverse-append (map (happening false) events) (happening false e ∷ []))

-- so many events were taken
pub record Running {D : Type 0} (g : Ghosts D) (events : List Event) (count : ℕ) (t : TerminalState) (j : StoreView D) (t' : TerminalState) (j' : StoreView D) (before after : List (ℕ × List ℕ)) : Type 0 where
  pub ps : List Happening
  pub outs : List Out
  pub went : Went g events t j t' j' before after ps outs outs
  pub counted : length outs ≡ count

module _ {D : Type 0} (g : Ghosts D) (events : List Event) (i : ℕ) (e : Event) (is_next : e ≡ get_or events i e) (within : i < length events) (t : TerminalState) (j : StoreView D) (t' : TerminalState) (j' : StoreView D)
    (before after : List (ℕ × List ℕ)) (so_far : Running g (take i events) i t j t' j' before after) (unmade : Bool) (out : Out) (t'' : TerminalState) (j'' : StoreView D)
    (took : Took g (happening unmade e) out t' j' t'' j'') where
  abbrev next : Happening
  next = happening unmade e

  of_events : AreOf (next ∷ so_far.ps) (take (i + 1) events)
  of_events = subst (AreOf (next ∷ so_far.ps)) (sym (take_more events i e within ∙ ap (λ x. take i events ++ x ∷ []) (sym is_next))) (of_one_more so_far.ps (take i events) unmade e so_far.went.of_events)

  ran : Ran g (next ∷ so_far.ps) t j t'' j'' (out ∷ so_far.outs)
  ran = ran_more g so_far.ps so_far.outs next out t j t' j' t'' j'' so_far.went.ran took

  pub running_next : (after' : List (ℕ × List ℕ)) → after' ≡ at_place (i + 1) (bytes_of_out out) ++ after → Running g (take (i + 1) events) (i + 1) t j t'' j'' before after'
  running_next after' is = record {
    ps = next ∷ so_far.ps;
    outs = out ∷ so_far.outs;
    went = record {
      of_events = of_events;
      ran = ran;
      taken = is ∙ ap (λ n. at_place (n + 1) (bytes_of_out out) ++ after) (sym so_far.counted)
          ∙ ap (λ l. at_place (length so_far.outs + 1) (bytes_of_out out) ++ l) so_far.went.taken
          ∙ sym (append_assoc (at_place (length so_far.outs + 1) (bytes_of_out out)) (taken_of so_far.outs) before);
    };
    counted = omega (arith, so_far.counted);
  }

  pub stops : (after' : List (ℕ × List ℕ)) → after' ≡ after → bytes_of_out out ≢ [] → Stopped g (take (i + 1) events) t j t'' j'' before after'
  stops after' is some = record {
    happenings = next ∷ so_far.ps;
    last = out;
    outs = so_far.outs;
    went = record { of_events = of_events; ran = ran; taken = is ∙ so_far.went.taken };
    some = some;
  }
