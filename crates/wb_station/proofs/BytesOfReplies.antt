-- The bytes of replies, one after the other.
use Rattle.std.proofs.Common.{◌≡◌, ℕ, ◌+◌, ◌<◌, sym, ap, ◌∙◌, List, [], ◌∷◌, ◌++◌, append_assoc, append-nil, get_or, length, take}
use Rattle.std.proofs.lemmas.List.{take_more}
use Rattle.wb_sics.specs.declared.reply.Reply.{Reply}
use Rattle.wb_sics.specs.ReplyText.{reply_bytes}
use Rattle.wb_station.specs.Account.{bytes_of_replies}

last_bytes : (rs : List Reply) (r : Reply) → bytes_of_replies (rs ++ r ∷ []) ≡ bytes_of_replies rs ++ reply_bytes r
last_bytes [] r = append-nil (reply_bytes r)
last_bytes (x ∷ rs) r = ap (λ l. reply_bytes x ++ l) (last_bytes rs r) ∙ sym (append_assoc (reply_bytes x) (bytes_of_replies rs) (reply_bytes r))

-- those of one reply more
pub next_bytes : (rs : List Reply) (i : ℕ) (r : Reply) → i < length rs → r ≡ get_or rs i r → bytes_of_replies (take (i + 1) rs) ≡ bytes_of_replies (take i rs) ++ reply_bytes r
next_bytes rs i r within is =
    ap bytes_of_replies (take_more rs i r within) ∙ last_bytes (take i rs) (get_or rs i r) ∙ ap (λ x. bytes_of_replies (take i rs) ++ reply_bytes x) (sym is)
