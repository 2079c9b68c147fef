-- Stored weighings change no reply.
use Rattle.std.proofs.Common.{◌≡◌, ℕ, ◌+◌, Bool, true, false, cond, List, [], ◌∷◌, ◌++◌, Option, Some, None, refl, sym, ◌∙◌, ap}
use Rattle.std.specs.List.{filter_map}
use Rattle.std.specs.Prelude.{◌==◌}
use Rattle.wb_instrument.specs.Setup.{Setup}
use Rattle.wb_window.specs.declared.reading.Reading.{Reading}
use Rattle.wb_scale.specs.Call.{Call, read}
use Rattle.wb_scale.specs.History.{moments}
use Rattle.wb_scale.specs.Unmarked.{AllSameUnmarked, SameUnmarked, unmarked_calls}
use Rattle.wb_sics.specs.declared.command.Command.{Command}
use Rattle.wb_sics.specs.declared.command.Command.TheVariants.{Weight, WeightNow, Repeat, Zero, Tare, TareValue, PresetTare, BadTare, ClearTare, Cancel, Commands, SerialNumber, Unknown}
use Rattle.wb_sics.specs.declared.waiting.Awaited.{Awaited}
use Rattle.wb_sics.specs.declared.waiting.Awaited.TheVariants.{Weight as AwaitedWeight, Zero as AwaitedZero, Tare as AwaitedTare}
use Rattle.wb_sics.specs.declared.waiting.Waiting.{Waiting}
use Rattle.wb_sics.specs.Calls.{asked_at, calls, calls_of_command}
use Rattle.wb_sics.specs.Event.{TerminalEvent, reading, byte, hang_up, stored, readings_of}
use Rattle.wb_sics.specs.Heard.{RepliesToHeard, heard}
use Rattle.wb_sics.specs.Lines.{commanded, commands, line_command, stream}
use Rattle.wb_sics.specs.Repetition.{is_repeating, newest_or_off, turned_by}
use Rattle.wb_sics.specs.Replies.{decided, moments_of, own_reply, repeated_reply, replies, replies_read, reply_at, waiting_after, weight_at, weight_waits}
use Rattle.wb_sics.specs.Waiting.{held_since, readings_since, stable_at, tare_waits, waits, zero_waits}

-- ---- the words on events

stream-heard : (h : List TerminalEvent) → stream (heard h) ≡ stream h
stream-heard [] = refl
stream-heard (reading r ∷ h) = stream-heard h
stream-heard (byte b ∷ h) = ap (λ bs. b ∷ bs) (stream-heard h)
stream-heard (hang_up ∷ h) = refl
stream-heard (stored ∷ h) = stream-heard h

line_command-heard : (h : List TerminalEvent) → line_command (heard h) ≡ line_command h
unfolding line_command
line_command-heard h = rw (stream-heard h) refl

commanded-heard : (h : List TerminalEvent) → commanded (heard h) ≡ commanded h
commanded-heard [] = refl
commanded-heard (reading r ∷ h) = commanded-heard h
commanded-heard (byte b ∷ h) = rw (line_command-heard h, commanded-heard h) refl
commanded-heard (hang_up ∷ h) = refl
commanded-heard (stored ∷ h) = commanded-heard h

commands-heard : (h : List TerminalEvent) → commands (heard h) ≡ commands h
commands-heard [] = refl
commands-heard (reading r ∷ h) = commands-heard h
commands-heard (byte b ∷ h) = rw (line_command-heard h, commands-heard h) refl
commands-heard (hang_up ∷ h) = refl
commands-heard (stored ∷ h) = commands-heard h

is_repeating-heard : (h : List TerminalEvent) → is_repeating (heard h) ≡ is_repeating h
is_repeating-heard h = ap (λ cs. newest_or_off (filter_map turned_by cs)) (commands-heard h)

readings_since-heard : (h : List TerminalEvent) → readings_since (heard h) ≡ readings_since h
readings_since-heard [] = refl
readings_since-heard (reading r ∷ h) = ap (λ n. n + 1) (readings_since-heard h)
readings_since-heard (byte b ∷ h) = rw (readings_since-heard h) refl
readings_since-heard (hang_up ∷ h) = refl
readings_since-heard (stored ∷ h) = readings_since-heard h

readings_of-heard : (h : List TerminalEvent) → readings_of (heard h) ≡ readings_of h
readings_of-heard [] = refl
readings_of-heard (reading r ∷ h) = ap (λ rs. r ∷ rs) (readings_of-heard h)
readings_of-heard (byte b ∷ h) = readings_of-heard h
readings_of-heard (hang_up ∷ h) = readings_of-heard h
readings_of-heard (stored ∷ h) = readings_of-heard h

held_since-heard : (now : List TerminalEvent → Bool) → ((h : List TerminalEvent) → now (heard h) ≡ now h) → (h : List TerminalEvent) → held_since now (heard h) ≡ held_since now h
held_since-heard now same [] = refl
held_since-heard now same (reading r ∷ h) = rw (same (reading r ∷ h), held_since-heard now same h) refl
held_since-heard now same (byte b ∷ h) = rw (same (byte b ∷ h), held_since-heard now same h) refl
held_since-heard now same (hang_up ∷ h) = refl
held_since-heard now same (stored ∷ h) = held_since-heard now same h

waits-heard : (kind : Awaited) (now : List TerminalEvent → Bool) (limit : ℕ) → ((h : List TerminalEvent) → now (heard h) ≡ now h) → (h : List TerminalEvent)
    → waits kind now limit (heard h) ≡ waits kind now limit h
unfolding waits
waits-heard kind now limit same h = rw (commanded-heard h, held_since-heard now same h, readings_since-heard h) refl

stable_at-heard : (s : Setup) (h : List TerminalEvent) → stable_at s (heard h) ≡ stable_at s h
stable_at-heard s h = rw (readings_of-heard h) refl

zero_waits-heard : (s : Setup) (h : List TerminalEvent) → zero_waits s (heard h) ≡ zero_waits s h
zero_waits-heard s h = waits-heard AwaitedZero (stable_at s) s.wait (stable_at-heard s) h

tare_waits-heard : (s : Setup) (h : List TerminalEvent) → tare_waits s (heard h) ≡ tare_waits s h
tare_waits-heard s h = waits-heard AwaitedTare (stable_at s) s.wait (stable_at-heard s) h

-- ---- the calls of the scale

asked-unmarked : (c : Command) (k : List Call) → unmarked_calls (calls_of_command c ++ k) ≡ calls_of_command c ++ unmarked_calls k
asked-unmarked Weight k = refl
asked-unmarked WeightNow k = refl
asked-unmarked Repeat k = refl
asked-unmarked Zero k = refl
asked-unmarked Tare k = refl
asked-unmarked TareValue k = refl
asked-unmarked (PresetTare grams) k = refl
asked-unmarked BadTare k = refl
asked-unmarked ClearTare k = refl
asked-unmarked Cancel k = refl
asked-unmarked Commands k = refl
asked-unmarked SerialNumber k = refl
asked-unmarked Unknown k = refl

asked_at-unmarked : (zero tare : Bool) (r : Reading) (k : List Call) → unmarked_calls (asked_at zero tare r ++ k) ≡ asked_at zero tare r ++ unmarked_calls k
asked_at-unmarked true tare r k = refl
asked_at-unmarked false true r k = refl
asked_at-unmarked false false r k = refl

line-unmarked : (line : Bool) (c : Command) (k : List Call) → unmarked_calls (cond line (calls_of_command c ++ k) k) ≡ cond line (calls_of_command c ++ unmarked_calls k) (unmarked_calls k)
line-unmarked true c k = asked-unmarked c k
line-unmarked false c k = refl

calls-heard : (s : Setup) (h : List TerminalEvent) → calls s (heard h) ≡ unmarked_calls (calls s h)
calls-heard s [] = refl
calls-heard s (reading r ∷ h) =
    rw (zero_waits-heard s h, tare_waits-heard s h, calls-heard s h) (sym (asked_at-unmarked (zero_waits s h) (tare_waits s h) r (calls s h)))
calls-heard s (byte b ∷ h) = rw (line_command-heard h, calls-heard s h) (sym (line-unmarked (b == 10) (line_command h) (calls s h)))
calls-heard s (hang_up ∷ h) = calls-heard s h
calls-heard s (stored ∷ h) = calls-heard s h

-- ---- the replies

weight_at-heard : AllSameUnmarked → (s : Setup) (h : List TerminalEvent) → weight_at s (heard h) ≡ weight_at s h
weight_at-heard same s h = rw (calls-heard s h, (same s (calls s h)).indicated) refl

weight_waits-heard : AllSameUnmarked → (s : Setup) (h : List TerminalEvent) → weight_waits s (heard h) ≡ weight_waits s h
weight_waits-heard same s h = waits-heard AwaitedWeight (weight_at s) s.wait (weight_at-heard same s) h

own_reply-unmarked : (s : Setup) (k : List Call) (c : Command) → SameUnmarked s k → own_reply s (moments s (unmarked_calls k)) c ≡ own_reply s (moments s k) c
own_reply-unmarked s k Weight u = rw u.indicated refl
own_reply-unmarked s k WeightNow u = rw u.indicated refl
own_reply-unmarked s k Repeat u = refl
own_reply-unmarked s k Zero u = rw u.readings refl
own_reply-unmarked s k Tare u = rw u.tare refl
own_reply-unmarked s k TareValue u = rw u.tare_now refl
own_reply-unmarked s k (PresetTare grams) u = rw (u.preset grams) refl
own_reply-unmarked s k BadTare u = refl
own_reply-unmarked s k ClearTare u = refl
own_reply-unmarked s k Cancel u = refl
own_reply-unmarked s k Commands u = refl
own_reply-unmarked s k SerialNumber u = refl
own_reply-unmarked s k Unknown u = refl

waiting_after-heard : AllSameUnmarked → (s : Setup) (h : List TerminalEvent) → waiting_after s (heard h) ≡ waiting_after s h
waiting_after-heard same s h = rw (weight_waits-heard same s h, zero_waits-heard s h, tare_waits-heard s h, readings_since-heard h) refl

decided-unmarked : (s : Setup) (k : List Call) (kind : Awaited) → SameUnmarked s k → decided s (moments s (unmarked_calls k)) kind ≡ decided s (moments s k) kind
decided-unmarked s k AwaitedWeight u = rw u.indicated refl
decided-unmarked s k AwaitedZero u = rw u.readings refl
decided-unmarked s k AwaitedTare u = rw u.tare refl

replies_read-unmarked : (s : Setup) (k : List Call) (r : Reading) (w : Option Waiting) → SameUnmarked s (read r ∷ k) → replies_read s (unmarked_calls k) r w ≡ replies_read s k r w
replies_read-unmarked s k r None u = refl
replies_read-unmarked s k r (Some w) u = ap (λ d. reply_at d w) (decided-unmarked s (read r ∷ k) w.awaited u)

repeated-unmarked : (s : Setup) (k : List Call) (on : Bool) → SameUnmarked s k → repeated_reply s (moments s (unmarked_calls k)) on ≡ repeated_reply s (moments s k) on
repeated-unmarked s k true u = rw u.indicated refl
repeated-unmarked s k false u = refl

repeated-heard : AllSameUnmarked → (s : Setup) (r : Reading) (h : List TerminalEvent)
    → repeated_reply s (moments_of s (reading r ∷ heard h)) (is_repeating (heard h)) ≡ repeated_reply s (moments_of s (reading r ∷ h)) (is_repeating h)
repeated-heard same s r h =
    let k = calls s (reading r ∷ h) in
    ap (λ on. repeated_reply s (moments_of s (reading r ∷ heard h)) on) (is_repeating-heard h) ∙ ap (λ c. repeated_reply s (moments s c) (is_repeating h)) (calls-heard s (reading r ∷ h))
    ∙ repeated-unmarked s k (is_repeating h) (same s k)

waited-heard : AllSameUnmarked → (s : Setup) (r : Reading) (h : List TerminalEvent)
    → replies_read s (calls s (heard h)) r (waiting_after s (heard h)) ≡ replies_read s (calls s h) r (waiting_after s h)
waited-heard same s r h = rw (waiting_after-heard same s h, calls-heard s h) (replies_read-unmarked s (calls s h) r (waiting_after s h) (same s (read r ∷ calls s h)))

pub replies_to_heard : AllSameUnmarked → RepliesToHeard
unfolding replies
replies_to_heard same s (reading r) h = rw (waited-heard same s r h) (ap (λ rs. replies_read s (calls s h) r (waiting_after s h) ++ rs) (repeated-heard same s r h))
replies_to_heard same s (byte b) h =
    let own = own_reply-unmarked s (calls s h) (line_command h) (same s (calls s h)) in
    rw (waiting_after-heard same s h, line_command-heard h, calls-heard s h, own) refl
replies_to_heard same s hang_up h = refl
replies_to_heard same s stored h = refl
