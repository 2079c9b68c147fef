-- A terminal stands after a reading, a byte, a hang-up, a stored weighing, and when it is new.
use Rattle.std.proofs.Common.{◌≡◌, ℕ, ◌≤◌, Bool, true, false, cond, List, [], ◌∷◌, ◌++◌, take, reverse, refl, sym, ◌∙◌, ap, subst, Option, None}
use Rattle.std.specs.Prelude.{◌==◌}
use Rattle.wb_instrument.specs.Setup.{Setup}
use Rattle.wb_scale.specs.Call.{Call}
use Rattle.wb_scale.specs.History.{moments}
use Rattle.wb_scale.specs.Stands.{ScaleStands}
use Rattle.wb_scale.specs.State.{State}
use Rattle.wb_sics.specs.declared.command.Command.{Command}
use Rattle.wb_sics.specs.declared.reply.Reply.{Reply}
use Rattle.wb_sics.specs.declared.waiting.Awaited.TheVariants.{Weight as AwaitedWeight, Zero as AwaitedZero, Tare as AwaitedTare}
use Rattle.wb_sics.specs.declared.waiting.Waiting.{Waiting}
use Rattle.wb_sics.specs.Calls.{calls, calls_of_command}
use Rattle.wb_sics.specs.Event.{TerminalEvent, byte, hang_up, stored, reading}
use Rattle.wb_sics.specs.helpers.Kept.{asked_waiting, repeats_from, waiting_from, waiting_read}
use Rattle.wb_sics.specs.Lines.{line_command, unfinished}
use Rattle.wb_sics.specs.Replies.{moments_of, own_reply, refused_by, repeated_reply, replies, replies_read, waiting_after, weight_at}
use Rattle.wb_sics.specs.Stands.{TakesStored, TerminalStands, TerminalStandsAt, TerminalState, TerminalTakes}
use Rattle.wb_sics.specs.Waiting.{stable_at}
use Rattle.wb_window.specs.declared.reading.Reading.{Reading}
use Rattle.wb_sics.proofs.Conditions.{waits-byte, waits-hang_up, waits-nothing, waits-stored}
use Rattle.wb_sics.proofs.Repeating.{repeating-byte, repeating-line}
use Rattle.wb_sics.proofs.UnfinishedLine.{unfinished-byte, unfinished-line}
use Rattle.wb_sics.proofs.WhatWaits.{asked-waits, waiting-line, waiting-reading}

-- what a terminal shows of what it keeps
abbrev pub kept : State → Option Waiting → Bool → List ℕ → TerminalState
kept scale w on line = record { scale = scale; waiting = w; repeating = on; line = line }

-- ---- a reading

-- what a reading did to the scale and to what waits, and the replies, the repeated value last
pub record Reads (i : Setup) (k : List Call) (r : Reading) (scale : State) (w w' : Option Waiting) (on : Bool) (rs : List Reply) : Type 0 where
  pub scale_stands : ScaleStands scale (asked_waiting w r ++ k)
  pub waits : w' ≡ waiting_read i k r w
  pub replied : rs ≡ replies_read i k r w ++ repeated_reply i (moments i (asked_waiting w r ++ k)) on

-- the reply to what waited, and then the value, by the scale that took the reading
pub replied : (i j : Setup) (k after : List Call) (r : Reading) (w : Option Waiting) (on : Bool) (rs rs' : List Reply) → j ≡ i → rs ≡ replies_read i k r w
    → rs' ≡ rs ++ repeated_reply j (moments j after) on → rs' ≡ replies_read i k r w ++ repeated_reply i (moments i after) on
replied i j k after r w on rs rs' e p q =
    q ∙ ap (λ x. x ++ repeated_reply j (moments j after) on) p ∙ ap (λ s. replies_read i k r w ++ repeated_reply s (moments s after) on) e

pub StandsAt-reading : (i : Setup) (a b : State) (w w' : Option Waiting) (on : Bool) (line : List ℕ) (r : Reading) (rs : List Reply) (h : List TerminalEvent) → 1 ≤ i.window
    → TerminalStandsAt i (kept a w on line) h → Reads i (calls i h) r b w w' on rs → TerminalStandsAt i (kept b w' on line) (reading r ∷ h)
StandsAt-reading i a b w w' on line r rs h l st did = record {
  scale = subst (ScaleStands b) (ap (λ x. asked_waiting x r ++ calls i h) st.waiting ∙ asked-waits i r h) did.scale_stands;
  waiting = did.waits ∙ ap (waiting_read i (calls i h) r) st.waiting ∙ waiting-reading i r h l;
  repeating = st.repeating;
  line = st.line;
}

pub replies-reading : (i : Setup) (a b : State) (w w' : Option Waiting) (on : Bool) (line : List ℕ) (r : Reading) (rs : List Reply) (h : List TerminalEvent)
    → TerminalStandsAt i (kept a w on line) h → Reads i (calls i h) r b w w' on rs → rs ≡ replies i (reading r ∷ h)
unfolding replies
replies-reading i a b w w' on line r rs h st did =
    let k = calls i h in
    did.replied ∙ ap (λ o. replies_read i k r o ++ repeated_reply i (moments i (asked_waiting o r ++ k)) on) st.waiting
    ∙ ap (λ c. replies_read i k r (waiting_after i h) ++ repeated_reply i (moments i c) on) (asked-waits i r h)
    ∙ ap (λ t. replies_read i k r (waiting_after i h) ++ repeated_reply i (moments_of i (reading r ∷ h)) t) st.repeating

-- ---- any byte but LF

pub StandsAt-byte : (i : Setup) (a : State) (w : Option Waiting) (on : Bool) (line line' : List ℕ) (b : ℕ) (h : List TerminalEvent) → (b == 10) ≡ false
    → ((text : List ℕ) → line ≡ take 42 text → line' ≡ take 42 (text ++ b ∷ [])) → TerminalStandsAt i (kept a w on line) h → TerminalStandsAt i (kept a w on line') (byte b ∷ h)
StandsAt-byte i a w on line line' b h e k st = record {
  scale = subst (λ (x : Bool). ScaleStands a (cond x (calls_of_command (line_command h) ++ calls i h) (calls i h))) (sym e) st.scale;
  waiting = rw (waits-byte AwaitedWeight (weight_at i) i.wait b h e, waits-byte AwaitedZero (stable_at i) i.wait b h e, waits-byte AwaitedTare (stable_at i) i.wait b h e, e) st.waiting;
  repeating = st.repeating ∙ sym (repeating-byte b h e);
  line = k (reverse (unfinished h)) st.line ∙ ap (take 42) (sym (unfinished-byte b h e));
}

pub replies-byte : (i : Setup) (b : ℕ) (h : List TerminalEvent) → (b == 10) ≡ false → [] ≡ replies i (byte b ∷ h)
unfolding replies
replies-byte i b h e = rw e refl

-- ---- an LF

-- what a line did to the scale and to what waits, and the replies
pub record Performs (i : Setup) (k : List Call) (c : Command) (scale : State) (w w' : Option Waiting) (rs : List Reply) : Type 0 where
  pub scale_stands : ScaleStands scale (calls_of_command c ++ k)
  pub waits : w' ≡ waiting_from i (moments i k) c
  pub replied : rs ≡ refused_by c w ++ own_reply i (moments i k) c

pub StandsAt-line : (i : Setup) (a b : State) (w w' : Option Waiting) (on on' : Bool) (line : List ℕ) (x : ℕ) (c : Command) (rs : List Reply) (h : List TerminalEvent) → (x == 10) ≡ true → 1 ≤ i.wait → 1 ≤ i.window
    → c ≡ line_command h → on' ≡ repeats_from c on → TerminalStandsAt i (kept a w on line) h → Performs i (calls i h) c b w w' rs → TerminalStandsAt i (kept b w' on' []) (byte x ∷ h)
StandsAt-line i a b w w' on on' line x c rs h e wait window q t st did =
    let k = calls i h in
    record {
      scale = subst (λ (t : Bool). ScaleStands b (cond t (calls_of_command (line_command h) ++ k) k)) (sym e) (subst (λ (y : Command). ScaleStands b (calls_of_command y ++ k)) q did.scale_stands);
      waiting = did.waits ∙ ap (waiting_from i (moments i k)) q ∙ waiting-line i x h e wait window;
      repeating = t ∙ ap (λ y. repeats_from y on) q ∙ ap (repeats_from (line_command h)) st.repeating ∙ repeating-line x h e;
      line = rw (unfinished-line x h e) refl;
    }

pub replies-line : (i : Setup) (a b : State) (w w' : Option Waiting) (on : Bool) (line : List ℕ) (x : ℕ) (c : Command) (rs : List Reply) (h : List TerminalEvent) → (x == 10) ≡ true
    → c ≡ line_command h → TerminalStandsAt i (kept a w on line) h → Performs i (calls i h) c b w w' rs → rs ≡ replies i (byte x ∷ h)
unfolding replies
replies-line i a b w w' on line x c rs h e q st did = did.replied ∙ ap (λ o. refused_by c o ++ own_reply i (moments i (calls i h)) c) st.waiting ∙ rw (e, q) refl

-- ---- a hang-up, a stored weighing, the opening

pub StandsAt-hang_up : (i : Setup) (a : State) (w : Option Waiting) (on : Bool) (line : List ℕ) (h : List TerminalEvent) → TerminalStandsAt i (kept a w on line) h → TerminalStandsAt i (kept a None false []) (hang_up ∷ h)
StandsAt-hang_up i a w on line h st = record {
  scale = st.scale;
  waiting = rw (waits-hang_up AwaitedWeight (weight_at i) i.wait h, waits-hang_up AwaitedZero (stable_at i) i.wait h, waits-hang_up AwaitedTare (stable_at i) i.wait h) refl;
  repeating = refl;
  line = refl;
}

pub Stands-new : (a : State) → ScaleStands a [] → TerminalStands (kept a None false []) []
Stands-new a st =
    let i = a.setup in
    record {
      now = record {
        scale = st;
        waiting = rw (waits-nothing AwaitedWeight (weight_at i) i.wait, waits-nothing AwaitedZero (stable_at i) i.wait, waits-nothing AwaitedTare (stable_at i) i.wait) refl;
        repeating = refl;
        line = refl;
      };
    }

-- a terminal stands as its scale's setup says
pub Stands-at : (i : Setup) (s : TerminalState) (h : List TerminalEvent) → s.scale.setup ≡ i → TerminalStandsAt i s h → TerminalStands s h
Stands-at i s h e st = record { now = subst (λ j. TerminalStandsAt j s h) (sym e) st }

pub takes_stored : TakesStored
takes_stored s scale next =
    let i = s.scale.setup in
    record {
      setup = next.setup;
      stands = λ h st. Stands-at i (record s { scale = scale }) (stored ∷ h) next.setup (record {
        scale = next.stands (calls i h) st.now.scale;
        waiting = rw (waits-stored AwaitedWeight (weight_at i) i.wait h, waits-stored AwaitedZero (stable_at i) i.wait h, waits-stored AwaitedTare (stable_at i) i.wait h) st.now.waiting;
        repeating = st.now.repeating;
        line = st.now.line;
      });
    }

-- a terminal takes an event where the state behind what it shows does
pub Takes-behind : (s old new : TerminalState) (e : TerminalEvent) → s ≡ old → new.scale.setup ≡ s.scale.setup → ((h : List TerminalEvent) → TerminalStands s h → TerminalStands new (e ∷ h)) → TerminalTakes old new e
Takes-behind s old new e same setup stands = subst (λ t. TerminalTakes t new e) same (record { setup = setup; stands = stands })
