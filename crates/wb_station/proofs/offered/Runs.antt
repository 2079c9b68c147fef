-- Lemmas for the crates above: runs of happenings, one after the other.
use Rattle.std.proofs.Common.{◌≡◌, List, [], ◌∷◌, ◌++◌, refl, sym, ap, ◌∙◌, Bool, false, subst}
use Rattle.sqlite.specs.Store.{Ghosts}
use Rattle.wb_sics.specs.Stands.{TerminalState}
use Rattle.wb_store.specs.Journal.{IsHonest, StoreView}
use Rattle.wb_messages.specs.declared.event.Event.{Event}
use Rattle.wb_messages.specs.declared.event.Event.TheVariants.{Reading, Byte, Hangup, Office}
use Rattle.wb_station.specs.Account.{Account, IsAccount, IsOut, Out}
use Rattle.wb_messages.specs.Happening.{Happening, happening, unmarked}
use Rattle.wb_station.specs.RunOfEvents.{IsParted, Leads, Ran, RunsLead}
use Rattle.wb_station.specs.Stands.{IsReplied, StationStands, Took}

pub unmarked_happening : (unmade : Bool) (e : Event) → unmarked (happening unmade e) ≡ happening false e
unmarked_happening unmade (Reading r) = refl
unmarked_happening unmade (Byte b) = refl
unmarked_happening unmade Hangup = refl
unmarked_happening unmade (Office moment bytes) = refl

module _ {D : Type 0} (g : Ghosts D) where
  pub ran_none : (t : TerminalState) (j : StoreView D) → Ran g [] t j t j []
  ran_none t j = (refl, refl, refl)

  pub ran_more : (ps : List Happening) (outs : List Out) (p : Happening) (out : Out) (t : TerminalState) (j : StoreView D) (t' : TerminalState) (j' : StoreView D) (t'' : TerminalState) (j'' : StoreView D)
      → Ran g ps t j t' j' outs → Took g p out t' j' t'' j'' → Ran g (p ∷ ps) t j t'' j'' (out ∷ outs)
  ran_more ps outs p out t j t' j' t'' j'' ran took = (t', j', ran, took)

  -- some happenings, and then others
  pub ran_append : (ps qs : List Happening) (outs more : List Out) (t : TerminalState) (j : StoreView D) (t' : TerminalState) (j' : StoreView D) (t'' : TerminalState) (j'' : StoreView D)
      → Ran g ps t j t' j' outs → Ran g qs t' j' t'' j'' more → Ran g (qs ++ ps) t j t'' j'' (more ++ outs)
  ran_append ps [] outs more t j t' j' t'' j'' first next =
      subst (λ x. Ran g ps t j x j'' (more ++ outs)) (sym next.0) (subst (λ x. Ran g ps t j t' x (more ++ outs)) (sym next.1) (subst (λ l. Ran g ps t j t' j' (l ++ outs)) (sym next.2) first))
  ran_append ps (q ∷ qs) outs [] t j t' j' t'' j'' first next = absurd next
  ran_append ps (q ∷ qs) outs (out ∷ more) t j t' j' t'' j'' first next = (next.0, next.1, ran_append ps qs outs more t j t' j' next.0 next.1 first next.2, next.3)

  -- ---- where a run leads

  module _ (p : Happening) (out : Out) (t : TerminalState) (j : StoreView D) (t' : TerminalState) (j' : StoreView D) (took : Took g p out t j t' j') (opening : Account) (h : List Happening)
      (stood : StationStands g opening t j h) (honest : IsHonest g j') where
    stands_on : StationStands g opening t' j' (p ∷ h)
    stands_on =
        let came = took.comes opening h stood honest in
        record {
          account = came.0;
          is_account = subst (λ s. IsAccount s opening (p ∷ h) came.0) (sym took.setup) (stood.account, stood.is_account, (out, came.1));
          at = came.2;
        }

    is_out : IsOut t.scale.setup opening p h out
    is_out = let came = took.comes opening h stood honest in (stood.account, stood.is_account, (came.0, came.1))

  leads_nowhere : (t : TerminalState) (j : StoreView D) → Leads g [] t j t j []
  leads_nowhere t j = record {
    setup = refl;
    may_be_unmade = tt;
    stands = λ o h st honest. st;
    put_out = λ o h st honest. refl;
    still = λ closed. (refl, tt);
    honest = λ honest. honest;
    hears = λ h ears. ears;
    replies = λ h ears. refl;
  }

  leads_on : (ps : List Happening) (outs : List Out) (p : Happening) (out : Out) (t : TerminalState) (j : StoreView D) (t' : TerminalState) (j' : StoreView D) (t'' : TerminalState) (j'' : StoreView D)
      → Leads g ps t j t' j' outs → Took g p out t' j' t'' j'' → Leads g (p ∷ ps) t j t'' j'' (out ∷ outs)
  leads_on ps outs p out t j t' j' t'' j'' ran took = record {
    setup = took.setup ∙ ran.setup;
    may_be_unmade = (took.may_be_unmade, ran.may_be_unmade);
    stands = λ o h st honest. stands_on p out t' j' t'' j'' took o (ps ++ h) (ran.stands o h st (took.honest honest)) honest;
    put_out = λ o h st honest. (
      subst (λ s. IsOut s o p (ps ++ h) out) ran.setup (is_out p out t' j' t'' j'' took o (ps ++ h) (ran.stands o h st (took.honest honest)) honest),
      ran.put_out o h st (took.honest honest),
    );
    still = λ closed.
        let first = ran.still closed in
        let next = took.still (ap (λ i. i.is_closed) first.0 ∙ closed) in
        (next.0 ∙ first.0, (next.1, first.1));
    honest = λ honest. ran.honest (took.honest honest);
    hears = λ h ears. took.hears (ps ++ h) (ran.hears h ears);
    replies = λ h ears. (subst (λ s. IsReplied s p (ps ++ h) out) ran.setup (took.replies (ps ++ h) (ran.hears h ears)), ran.replies h ears);
  }

  pub leads : (ps : List Happening) (t : TerminalState) (j : StoreView D) (t' : TerminalState) (j' : StoreView D) (outs : List Out) → Ran g ps t j t' j' outs → Leads g ps t j t' j' outs
  leads [] t j t' j' outs ran =
      subst (λ x. Leads g [] t j x j' outs) (sym ran.0) (subst (λ x. Leads g [] t j t x outs) (sym ran.1) (subst (Leads g [] t j t j) (sym ran.2) (leads_nowhere t j)))
  leads (p ∷ ps) t j t' j' [] ran = absurd ran
  leads (p ∷ ps) t j t' j' (out ∷ outs) ran = leads_on ps outs p out t j ran.0 ran.1 t' j' (leads ps t j ran.0 ran.1 outs ran.2) ran.3

  -- ---- its places

  pub parted : (later earlier : List Happening) (t : TerminalState) (j : StoreView D) (t' : TerminalState) (j' : StoreView D) (outs : List Out) → Ran g (later ++ earlier) t j t' j' outs
      → IsParted g later earlier t j t' j' outs
  parted [] earlier t j t' j' outs ran =
      record { terminal = t'; store = j'; outs_later = []; outs_earlier = outs; is_outs = refl; ran_earlier = ran; ran_later = ran_none t' j' }
  parted (p ∷ later) earlier t j t' j' [] ran = absurd ran
  parted (p ∷ later) earlier t j t' j' (out ∷ outs) ran =
      let rest = parted later earlier t j ran.0 ran.1 outs ran.2 in
      record {
        terminal = rest.terminal;
        store = rest.store;
        outs_later = out ∷ rest.outs_later;
        outs_earlier = rest.outs_earlier;
        is_outs = ap (λ l. out ∷ l) rest.is_outs;
        ran_earlier = rest.ran_earlier;
        ran_later = (ran.0, ran.1, rest.ran_later, ran.3);
      }

  pub runs_lead : RunsLead g
  runs_lead = record { leads = leads; parted = parted }
