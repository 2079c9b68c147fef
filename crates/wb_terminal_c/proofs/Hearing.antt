-- Bytes that are handed in together, taken one after the other.
use Rattle.std.proofs.Common.{◌≡◌, ℕ, suc, ◌+◌, ◌<◌, false, List, [], ◌∷◌, ◌++◌, length, take, drop, get_or, refl, ap, ◌∙◌, arith, drop-cons}
use Rattle.std.proofs.lemmas.Bool.Decides.{nat_tests}
use Rattle.std.proofs.lemmas.List.{drop_all, take_more}
use Rattle.std.specs.Prelude.{◌==◌, if◌then◌else◌}
use Rattle.wb_instrument.specs.Setup.{Setup}
use Rattle.wb_sics.specs.Event.{TerminalEvent, byte}
use Rattle.wb_sics.specs.Replies.{replies}
use Rattle.wb_terminal_c.specs.Heard.{heard_after, until_reply}

heard-push : (bs : List ℕ) (b : ℕ) (h : List TerminalEvent) → heard_after (bs ++ b ∷ []) h ≡ byte b ∷ heard_after bs h
heard-push [] b h = refl
heard-push (x ∷ bs) b h = heard-push bs b (byte x ∷ h)

-- one byte more
pub heard-next : (bs : List ℕ) (i : ℕ) (h : List TerminalEvent) → i < length bs → heard_after (take (i + 1) bs) h ≡ byte (get_or bs i 0) ∷ heard_after (take i bs) h
heard-next bs i h lt = ap (λ xs. heard_after xs h) (take_more bs i 0 lt) ∙ heard-push (take i bs) (get_or bs i 0) h

-- i of the bytes were taken, with no reply
abbrev pub Taken : Setup → List TerminalEvent → List ℕ → ℕ → Type 0
Taken s h bs i = i + until_reply s (heard_after (take i bs) h) (drop i bs) ≡ until_reply s h bs

pub Taken-none : (s : Setup) (h : List TerminalEvent) (bs : List ℕ) → Taken s h bs 0
Taken-none s h bs = omega arith

drop-next : (bs : List ℕ) (i : ℕ) → i < length bs → drop i bs ≡ get_or bs i 0 ∷ drop (i + 1) bs
drop-next bs i lt = let on : suc i ≡ i + 1 = omega arith in drop-cons bs i 0 lt ∙ ap (λ n. get_or bs i 0 ∷ drop n bs) on

at-next : (s : Setup) (h : List TerminalEvent) (bs : List ℕ) (i : ℕ) → i < length bs
    → until_reply s (heard_after (take i bs) h) (drop i bs)
    ≡ (if length (replies s (heard_after (take (i + 1) bs) h)) == 0 then suc (until_reply s (heard_after (take (i + 1) bs) h) (drop (i + 1) bs)) else 1)
at-next s h bs i lt = rw (heard-next bs i h lt, drop-next bs i lt) refl

chosen : (n k : ℕ) → n ≡ 0 → (if n == 0 then suc k else 1) ≡ suc k
chosen n k e = rw e refl

passed : (n k : ℕ) → ¬ (n ≡ 0) → (if n == 0 then suc k else 1) ≡ 1
passed n k not = let is : (n == 0) ≡ false = grind (arith, nat_tests, not) in rw is refl

pub Taken-next : (s : Setup) (h : List TerminalEvent) (bs : List ℕ) (i : ℕ) → i < length bs → length (replies s (heard_after (take (i + 1) bs) h)) ≡ 0 → Taken s h bs i → Taken s h bs (i + 1)
Taken-next s h bs i lt none taken = omega (arith, at-next s h bs i lt, chosen _ (until_reply s (heard_after (take (i + 1) bs) h) (drop (i + 1) bs)) none, taken)

-- there is a reply at the next one
pub Taken-last : (s : Setup) (h : List TerminalEvent) (bs : List ℕ) (i : ℕ) → i < length bs → ¬ (length (replies s (heard_after (take (i + 1) bs) h)) ≡ 0) → Taken s h bs i → i + 1 ≡ until_reply s h bs
Taken-last s h bs i lt some taken = omega (arith, at-next s h bs i lt, passed _ (until_reply s (heard_after (take (i + 1) bs) h) (drop (i + 1) bs)) some, taken)

-- all were taken
pub Taken-all : (s : Setup) (h : List TerminalEvent) (bs : List ℕ) → Taken s h bs (length bs) → length bs ≡ until_reply s h bs
Taken-all s h bs taken =
    let nothing : drop (length bs) bs ≡ [] = drop_all (length bs) bs (omega arith) in
    let none : until_reply s (heard_after (take (length bs) bs) h) (drop (length bs) bs) ≡ 0 = rw nothing refl in
    omega (arith, none, taken)
