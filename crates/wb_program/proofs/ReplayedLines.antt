-- Replaying a trace, line after line.
use Rattle.std.proofs.Common.{◌≡◌, ℕ, ◌+◌, ◌<◌, ◌≤◌, List, [], ◌∷◌, ◌++◌, length, take, Option, None, Some, refl, sym, ap, subst, ◌∙◌, append_assoc, arith}
use Rattle.std.specs.Prelude.{reverse, option_map, slice_get}
use Rattle.std.specs.Str.Lines.{lines}
use Rattle.std.proofs.lemmas.List.{append-nil, reverse-append, reverse-reverse, length-append}
use Rattle.sqlite.proofs.Callers.{memory_is_clean}
use Rattle.sqlite.specs.Steps.{over_memory}
use Rattle.sqlite_trees.specs.declared.memory.MemStore.{MemStore}
use Rattle.wb_program.specs.helpers.Performed.{Performed}
use Rattle.wb_program.specs.Replayed.{Replayed, StopsAt, at_first}
use Rattle.wb_trace.specs.Trace.{both, trace_events}
use Rattle.wb_trace.specs.TraceLines.{line_events}
use Rattle.wb_program.proofs.PerformedHappenings.{Performed-append, Performed-none}
use Rattle.wb_sics.specs.Stands.{TerminalState}
use Rattle.wb_station.proofs.offered.Runs.{leads}
use Rattle.wb_messages.specs.Happening.{Happening}
use Rattle.wb_station.specs.Stands.{Hears, StationStands}
use Rattle.wb_store.specs.Journal.{StoreView}

-- a journal in memory
abbrev pub Journal : Type 0
Journal = StoreView MemStore

both-assoc : (x y z : Option (List Happening)) → both (both x y) z ≡ both x (both y z)
both-assoc None y z = refl
both-assoc (Some a) None z = refl
both-assoc (Some a) (Some b) None = refl
both-assoc (Some a) (Some b) (Some c) = ap Some (append_assoc a b c)

both-nothing : (x : Option (List Happening)) → x ≡ both (Some []) x
both-nothing None = refl
both-nothing (Some a) = refl

trace_events-append : (ls ms : List (List ℕ)) → trace_events (ls ++ ms) ≡ both (trace_events ls) (trace_events ms)
trace_events-append [] ms = both-nothing (trace_events ms)
trace_events-append (l ∷ ls) ms = ap (both (line_events l)) (trace_events-append ls ms) ∙ sym (both-assoc (line_events l) (trace_events ls) (trace_events ms))

-- lines were performed: what they ask for, the newest first, led from one station to the other
pub record Progress (done : List (List ℕ)) (t : TerminalState) (j : Journal) (t' : TerminalState) (j' : Journal) (w w' : Option (List ℕ)) : Type 0 where
  pub asked : List Happening
  pub understood : trace_events done ≡ Some (reverse asked)
  pub performed : Performed over_memory asked t j t' j' w w'

pub Progress-none : (t : TerminalState) (j : Journal) (w : Option (List ℕ)) → Progress [] t j t j w w
Progress-none t j w = record { asked = []; understood = refl; performed = Performed-none over_memory t j w }

pub Progress-next : (done : List (List ℕ)) (line : List ℕ) (evs : List Happening) (t : TerminalState) (j : Journal) (t' : TerminalState) (j' : Journal) (t'' : TerminalState) (j'' : Journal) (x y z : Option (List ℕ))
    → line_events line ≡ Some evs → Progress done t j t' j' x y → Performed over_memory (reverse evs) t' j' t'' j'' y z → Progress (done ++ line ∷ []) t j t'' j'' x z
Progress-next done line evs t j t' j' t'' j'' x y z known so_far next = record {
  asked = reverse evs ++ so_far.asked;
  understood = trace_events-append done (line ∷ []) ∙ rw (so_far.understood, known)
      (ap Some (ap (λ l. reverse so_far.asked ++ l) (append-nil evs ∙ sym (reverse-reverse evs)) ∙ sym (reverse-append (reverse evs) so_far.asked)));
  performed = Performed-append over_memory so_far.asked (reverse evs) t j t' j' t'' j'' x y z so_far.performed next;
}

pub Replayed-from : (done : List (List ℕ)) (t : TerminalState) (j : Journal) (t' : TerminalState) (j' : Journal) (x y : Option (List ℕ)) → StationStands over_memory at_first t j [] → Hears t [] → Progress done t j t' j' x y
    → Replayed t.scale.setup done x y
Replayed-from done t j t' j' x y stood heard p = let ran = leads over_memory p.performed.happenings t j t' j' p.performed.outs p.performed.ran in record {
  happenings = p.performed.happenings;
  outs = p.performed.outs;
  understood = p.understood ∙ ap (λ l. Some (reverse l)) (sym p.performed.as_asked);
  ran = record { terminal = t; store = j; terminal_after = t'; store_after = j'; setup = refl; stands = stood; hears = heard; ran = p.performed.ran };
  may_be_unmade = ran.may_be_unmade;
  put_out = ran.put_out at_first [] stood (memory_is_clean j'.conn);
  replies = ran.replies [] heard;
  written = p.performed.written;
}

take-front : {A : Type 0} (xs ys : List A) → take (length xs) (xs ++ ys) ≡ xs
take-front [] ys = refl
take-front (x ∷ xs) ys = ap (λ l. x ∷ l) (take-front xs ys)

get-next : {A : Type 0} (xs ys : List A) (y : A) → slice_get (xs ++ y ∷ ys) (length xs) ≡ Some y
get-next [] ys y = refl
get-next (x ∷ xs) ys y = get-next xs ys y

-- so many lines of the trace were replayed, and the rest is left
pub record Replaying (trace rest : List ℕ) (number : ℕ) (t : TerminalState) (j : Journal) (t' : TerminalState) (j' : Journal) (w w' : Option (List ℕ)) : Type 0 where
  pub done : List (List ℕ)
  pub split : lines trace ≡ done ++ lines rest
  pub counted : number ≡ length done
  pub room : number + length rest ≤ length trace
  pub progress : Progress done t j t' j' w w'

pub Replaying-none : (trace : List ℕ) (t : TerminalState) (j : Journal) (w : Option (List ℕ)) → Replaying trace trace 0 t j t j w w
Replaying-none trace t j w = record { done = []; split = refl; counted = refl; room = omega arith; progress = Progress-none t j w }

pub Replaying-next : (trace rest after line : List ℕ) (n : ℕ) (evs : List Happening) (t : TerminalState) (j : Journal) (t' : TerminalState) (j' : Journal) (t'' : TerminalState) (j'' : Journal) (x y z : Option (List ℕ))
    → lines rest ≡ line ∷ lines after → length after < length rest
    → line_events line ≡ Some evs → Replaying trace rest n t j t' j' x y → Performed over_memory (reverse evs) t' j' t'' j'' y z → Replaying trace after (n + 1) t j t'' j'' x z
Replaying-next trace rest after line n evs t j t' j' t'' j'' x y z first shorter known r next =
    let room = r.room in
    let counted = r.counted in record {
      done = r.done ++ line ∷ [];
      split = r.split ∙ ap (λ l. r.done ++ l) first ∙ sym (append_assoc r.done (line ∷ []) (lines after));
      counted = simp length-append (omega arith);
      room = omega arith;
      progress = Progress-next r.done line evs t j t' j' t'' j'' x y z known r.progress next;
    }

module _ (trace rest : List ℕ) (n : ℕ) (t : TerminalState) (j : Journal) (t' : TerminalState) (j' : Journal) (x y : Option (List ℕ)) (r : Replaying trace rest n t j t' j' x y)
    (stood : StationStands over_memory at_first t j []) (heard : Hears t []) where
  replayed : Replayed t.scale.setup r.done x y
  replayed = Replayed-from r.done t j t' j' x y stood heard r.progress

  pub Replaying-all : rest ≡ [] → Replayed t.scale.setup (lines trace) x y
  Replaying-all e =
      let whole : lines trace ≡ r.done = r.split ∙ ap (λ l. r.done ++ lines l) e ∙ append-nil r.done in
      subst (λ ls. Replayed t.scale.setup ls x y) (sym whole) replayed

  pub Replaying-stops : (after line : List ℕ) → lines rest ≡ line ∷ lines after → line_events line ≡ None → StopsAt t.scale.setup (lines trace) (n + 1) x y
  Replaying-stops after line first unknown =
      let whole : lines trace ≡ r.done ++ line ∷ lines after = r.split ∙ ap (λ l. r.done ++ l) first in
      subst (λ ls. StopsAt t.scale.setup ls (n + 1) x y) (sym whole) (record {
        before = length r.done;
        number = ap (λ k. k + 1) r.counted;
        replayed = subst (λ ls. Replayed t.scale.setup ls x y) (sym (take-front r.done (line ∷ lines after))) replayed;
        not_understood = ap (option_map line_events) (get-next r.done (lines after) line) ∙ ap Some unknown;
      })
