-- Performing happenings, one after the other.
use Rattle.std.proofs.Common.{◌≡◌, ℕ, suc, zero as nought, ◌+◌, ◌<◌, Bool, List, [], ◌∷◌, ◌++◌, get_or, length, map, replicate, take, Option, refl, sym, ap, subst, ◌∙◌, append_assoc, add-one}
use Rattle.std.specs.Prelude.{Ok, Err, OnOk, false, reverse}
use Rattle.std.specs.declared.result.Result.{Result}
use Rattle.std.specs.Io.KnownBytes.{Appends}
use Rattle.std.proofs.lemmas.List.{map-append, replicate_more, reverse-append, take_more}
use Rattle.sqlite.specs.Store.{Ghosts}
use Rattle.wb_program.specs.helpers.Performed.{Performed}
use Rattle.wb_program.specs.PrintedOutputs.{printed, printed_out}
use Rattle.wb_trace.specs.TraceLines.{typed}
use Rattle.wb_program.proofs.WrittenTexts.{Appends-append, Appends-none, printed-append}
use Rattle.wb_sics.specs.Stands.{TerminalState}
use Rattle.wb_station.proofs.offered.Runs.{ran_append, ran_more, ran_none, unmarked_happening}
use Rattle.wb_station.specs.Account.{Out}
use Rattle.wb_messages.specs.declared.event.Event.{Event}
use Rattle.wb_messages.specs.Happening.{Happening, byte, happening, unmarked}
use Rattle.wb_station.specs.Stands.{Took}
use Rattle.wb_store.specs.Journal.{StoreView}

module _ {D : Type 0} (g : Ghosts D) where
  pub Performed-none : (t : TerminalState) (j : StoreView D) (w : Option (List ℕ)) → Performed g [] t j t j w w
  Performed-none t j w = record { happenings = []; outs = []; as_asked = refl; ran = ran_none g t j; written = Appends-none w }

  -- an event was taken, and what was put out was printed
  Performed-one : (e : Event) (unmade : Bool) (out : Out) (t : TerminalState) (j : StoreView D) (t' : TerminalState) (j' : StoreView D) (w w' : Option (List ℕ))
      → Took g (happening unmade e) out t j t' j' → Appends w w' (printed_out out) → Performed g (happening false e ∷ []) t j t' j' w w'
  Performed-one e unmade out t j t' j' w w' took written = record {
    happenings = happening unmade e ∷ [];
    outs = out ∷ [];
    as_asked = ap (λ p. p ∷ []) (unmarked_happening unmade e);
    ran = ran_more g [] [] (happening unmade e) out t j t j t' j' (ran_none g t j) took;
    written = written;
  }

  pub Performed-printed : {T E : Type 0} (e : Event) (unmade : Bool) (out : Out) (t : TerminalState) (j : StoreView D) (t' : TerminalState) (j' : StoreView D) (w w' : Option (List ℕ)) (r : Result T E)
      → Took g (happening unmade e) out t j t' j' → OnOk r (Appends w w' (printed_out out)) → OnOk r (Performed g (happening false e ∷ []) t j t' j' w w')
  Performed-printed e unmade out t j t' j' w w' (Ok v) took written = Performed-one e unmade out t j t' j' w w' took written
  Performed-printed e unmade out t j t' j' w w' (Err f) took written = written

  pub Performed-append : (ps qs : List Happening) (t : TerminalState) (j : StoreView D) (t' : TerminalState) (j' : StoreView D) (t'' : TerminalState) (j'' : StoreView D) (x y z : Option (List ℕ))
      → Performed g ps t j t' j' x y → Performed g qs t' j' t'' j'' y z → Performed g (qs ++ ps) t j t'' j'' x z
  Performed-append ps qs t j t' j' t'' j'' x y z first next = record {
    happenings = next.happenings ++ first.happenings;
    outs = next.outs ++ first.outs;
    as_asked = map-append unmarked next.happenings first.happenings ∙ ap (λ l. l ++ map unmarked first.happenings) next.as_asked ∙ ap (λ l. qs ++ l) first.as_asked;
    ran = ran_append g first.happenings next.happenings first.outs next.outs t j t' j' t'' j'' first.ran next.ran;
    written = subst (Appends x z) (sym (printed-append first.outs next.outs)) (Appends-append (printed first.outs) (printed next.outs) x y z first.written next.written);
  }

-- so many of the same, read backward
pub reverse-replicate : {A : Type 0} (n : ℕ) (x : A) → reverse (replicate n x) ≡ replicate n x
reverse-replicate nought x = refl
reverse-replicate (suc n) x = reverse-append (x ∷ []) (replicate n x) ∙ ap (λ l. l ++ x ∷ []) (reverse-replicate n x) ∙ replicate_more n x ∙ rw add-one refl

pub replicate-more : {A : Type 0} (n : ℕ) (x : A) → (x ∷ []) ++ replicate n x ≡ replicate (n + 1) x
replicate-more n x = rw add-one refl

reversed-push : (bs : List ℕ) (b : ℕ) → reverse (map byte (bs ++ b ∷ [])) ≡ byte b ∷ reverse (map byte bs)
reversed-push bs b = ap reverse (map-append byte bs (b ∷ [])) ∙ reverse-append (map byte bs) (byte b ∷ [])

-- one byte more of a text
pub next-byte : (text : List ℕ) (i : ℕ) → i < length text → reverse (map byte (take (i + 1) text)) ≡ byte (get_or text i 0) ∷ reverse (map byte (take i text))
next-byte text i within = ap (λ l. reverse (map byte l)) (take_more text i 0 within) ∙ reversed-push (take i text) (get_or text i 0)

pub reversed-typed : (text : List ℕ) → reverse (typed text) ≡ byte 10 ∷ byte 13 ∷ reverse (map byte text)
reversed-typed text =
    ap (λ l. reverse (map byte l)) (sym (append_assoc text (13 ∷ []) (10 ∷ []))) ∙ reversed-push (text ++ 13 ∷ []) 10 ∙ ap (λ l. byte 10 ∷ l) (reversed-push text 13)
