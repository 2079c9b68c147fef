-- What was written, piece by piece.
use Rattle.std.proofs.Common.{◌≡◌, ℕ, ◌+◌, ◌<◌, List, [], ◌∷◌, ◌++◌, length, take, get_or, Option, None, Some, refl, sym, ap, subst, ◌∙◌, append_assoc}
use Rattle.std.specs.Io.KnownBytes.{Appends}
use Rattle.std.proofs.lemmas.List.{append-nil, take_more}
use Rattle.wb_sics.specs.declared.reply.Reply.{Reply}
use Rattle.wb_station.specs.Account.{Out}
use Rattle.wb_program.specs.PrintedOutputs.{printed_body_line, printed, printed_lines, printed_out, printed_replies, printed_reply}

pub Appends-none : (w : Option (List ℕ)) → Appends w w []
Appends-none None = tt
Appends-none (Some xs) = sym (append-nil xs)

pub Appends-append : (xs ys : List ℕ) (a b c : Option (List ℕ)) → Appends a b xs → Appends b c ys → Appends a c (xs ++ ys)
Appends-append xs ys None b c first next = tt
Appends-append xs ys (Some ws) None c first next = absurd first
Appends-append xs ys (Some ws) (Some bs) None first next = absurd next
Appends-append xs ys (Some ws) (Some bs) (Some cs) first next = next ∙ ap (λ l. l ++ ys) first ∙ append_assoc ws xs ys

-- the printed form of one reply more
pub printed_replies-push : (rs : List Reply) (r : Reply) → printed_replies (rs ++ r ∷ []) ≡ printed_replies rs ++ printed_reply r
printed_replies-push [] r = append-nil (printed_reply r)
printed_replies-push (q ∷ rs) r = ap (λ l. printed_reply q ++ l) (printed_replies-push rs r) ∙ sym (append_assoc (printed_reply q) (printed_replies rs) (printed_reply r))

pub Appends-reply : (rs : List Reply) (i : ℕ) (d r : Reply) (x y z : Option (List ℕ)) → i < length rs → get_or rs i d ≡ r → Appends x y (printed_replies (take i rs))
    → Appends y z (printed_reply r) → Appends x z (printed_replies (take (i + 1) rs))
Appends-reply rs i d r x y z l e so_far next =
    let more : printed_replies (take (i + 1) rs) ≡ printed_replies (take i rs) ++ printed_reply r =
    ap printed_replies (take_more rs i d l ∙ ap (λ q. take i rs ++ q ∷ []) e) ∙ printed_replies-push (take i rs) r in
    subst (Appends x z) (sym more) (Appends-append (printed_replies (take i rs)) (printed_reply r) x y z so_far next)

-- what is printed of some outputs, and then of more
pub printed-append : (outs more : List Out) → printed (more ++ outs) ≡ printed outs ++ printed more
printed-append outs [] = sym (append-nil (printed outs))
printed-append outs (out ∷ more) = ap (λ l. l ++ printed_out out) (printed-append outs more) ∙ append_assoc (printed outs) (printed more) (printed_out out)

-- some of the lines were printed, and the others are left
pub record PrintedSoFar (all rest : List (List ℕ)) (w w' : Option (List ℕ)) : Type 0 where
  pub done : List (List ℕ)
  pub split : all ≡ done ++ rest
  pub written : Appends w w' (printed_lines done)

pub none-printed : (all : List (List ℕ)) (w : Option (List ℕ)) → PrintedSoFar all all w w
none-printed all w = record { done = []; split = refl; written = Appends-none w }

printed_lines-push : (done : List (List ℕ)) (line : List ℕ) → printed_lines (done ++ line ∷ []) ≡ printed_lines done ++ printed_body_line line
printed_lines-push [] line = append-nil (printed_body_line line)
printed_lines-push (first ∷ done) line = ap (λ l. printed_body_line first ++ l) (printed_lines-push done line) ∙ sym (append_assoc (printed_body_line first) (printed_lines done) (printed_body_line line))

pub one-printed : (all rest after : List (List ℕ)) (line : List ℕ) (x y z : Option (List ℕ)) → rest ≡ line ∷ after → PrintedSoFar all rest x y
    → Appends y z (printed_body_line line) → PrintedSoFar all after x z
one-printed all rest after line x y z next so_far written = record {
  done = so_far.done ++ line ∷ [];
  split = so_far.split ∙ ap (λ l. so_far.done ++ l) next ∙ sym (append_assoc so_far.done (line ∷ []) after);
  written = subst (Appends x z) (sym (printed_lines-push so_far.done line)) (Appends-append (printed_lines so_far.done) (printed_body_line line) x y z so_far.written written);
}

pub all-printed : (all rest : List (List ℕ)) (x y : Option (List ℕ)) → rest ≡ [] → PrintedSoFar all rest x y → Appends x y (printed_lines all)
all-printed all rest x y none so_far = subst (λ ls. Appends x y (printed_lines ls)) (sym (so_far.split ∙ ap (λ l. so_far.done ++ l) none ∙ append-nil so_far.done)) so_far.written
