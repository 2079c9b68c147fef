-- What sources told, piece by piece.
use Rattle.std.proofs.Common.{◌≡◌, List, [], ◌∷◌, ◌++◌, Option, None, Some, inl, inr, refl, sym, ap, ◌∙◌, append_assoc}
use Rattle.std.specs.Prelude.{option_map}
use Rattle.wb_station.specs.SourceAnswers.{Answer, Handed, SourceTells, Told, tells_more}
use Rattle.wb_program.specs.Turns.{all_handed_on, handed_on}
use Rattle.std.proofs.Common.{subst, ℕ}
use Rattle.std.proofs.lemmas.List.{append-nil}
use Rattle.wb_messages.specs.declared.notice.Notice.{Notice}
use Rattle.wb_program.specs.HandedOn.{HandsOn, IsHandedOn, MayNoticeIfAny, without_notices}
use Rattle.wb_sics.specs.declared.reply.Reply.{Reply}
use Rattle.wb_station.specs.Account.{Out, nothing, replied, responded}
use Rattle.wb_station.specs.SourceAnswers.{noticed, to_office, to_terminal}

pub tells_none : (x : Option Told) → SourceTells [] [] x x
tells_none None = inl refl
tells_none (Some told) = inr refl

more_and_more : (xs bs : List Answer) (hs ks : List Handed) (told : Told) → tells_more bs ks (tells_more xs hs told) ≡ tells_more (bs ++ xs) (ks ++ hs) told
more_and_more xs bs hs ks told =
    ap (λ l. record { answers = l; handed = ks ++ (hs ++ told.handed) }) (sym (append_assoc bs xs told.answers))
    ∙ ap (λ l. record { answers = (bs ++ xs) ++ told.answers; handed = l }) (sym (append_assoc ks hs told.handed))

pub tells_append : (xs bs : List Answer) (hs ks : List Handed) (a b c : Option Told) → SourceTells xs hs a b → SourceTells bs ks b c → SourceTells (bs ++ xs) (ks ++ hs) a c
tells_append xs bs hs ks a b c first (inl none) = inl none
tells_append xs bs hs ks a b c (inl none) (inr more) = inl (more ∙ ap (option_map (tells_more bs ks)) none)
tells_append xs bs hs ks None b c (inr one) (inr more) = inl (more ∙ ap (option_map (tells_more bs ks)) one)
tells_append xs bs hs ks (Some told) b c (inr one) (inr more) = inr (more ∙ ap (option_map (tells_more bs ks)) one ∙ ap Some (more_and_more xs bs hs ks told))

pub all_handed_on_append : (outs more : List Out) → all_handed_on (more ++ outs) ≡ all_handed_on more ++ all_handed_on outs
all_handed_on_append outs [] = refl
all_handed_on_append outs (out ∷ more) = ap (λ l. handed_on out ++ l) (all_handed_on_append outs more) ∙ sym (append_assoc (handed_on out) (all_handed_on more) (all_handed_on outs))

-- ---- a notice, and then the output

pub hands_on : (out : Out) (notice : Option Notice) (a b c : Option Told) → MayNoticeIfAny notice a b → SourceTells [] (handed_on out) b c → HandsOn out notice a c
hands_on out None a b c first next = (handed_on out, refl, subst (λ hs. SourceTells [] hs a c) (append-nil (handed_on out)) (tells_append [] [] [] (handed_on out) a b c first next))
hands_on out (Some notice) a b c (inl dropped) next =
    (handed_on out, inl refl, subst (λ hs. SourceTells [] hs a c) (append-nil (handed_on out)) (tells_append [] [] [] (handed_on out) a b c dropped next))
hands_on out (Some notice) a b c (inr told) next = (handed_on out ++ noticed notice ∷ [], inr refl, tells_append [] [] (noticed notice ∷ []) (handed_on out) a b c told next)

pub without_notices_append : (hs more : List Handed) → without_notices (more ++ hs) ≡ without_notices more ++ without_notices hs
without_notices_append hs [] = refl
without_notices_append hs (to_terminal bytes ∷ more) = ap (λ l. to_terminal bytes ∷ l) (without_notices_append hs more)
without_notices_append hs (to_office bytes ∷ more) = ap (λ l. to_office bytes ∷ l) (without_notices_append hs more)
without_notices_append hs (noticed notice ∷ more) = without_notices_append hs more

output_stays : (out : Out) → without_notices (handed_on out) ≡ handed_on out
output_stays (replied []) = refl
output_stays (replied (reply ∷ more)) = refl
output_stays (responded bytes) = refl
output_stays nothing = refl

notice_goes : (out : Out) (notice : Notice) → without_notices (handed_on out ++ noticed notice ∷ []) ≡ handed_on out
notice_goes (replied []) notice = refl
notice_goes (replied (reply ∷ more)) notice = refl
notice_goes (responded bytes) notice = refl
notice_goes nothing notice = refl

pub only_output : (out : Out) (notice : Option Notice) (hs : List Handed) → IsHandedOn out notice hs → without_notices hs ≡ handed_on out
only_output out None hs is = ap without_notices is ∙ output_stays out
only_output out (Some notice) hs (inl is) = ap without_notices is ∙ output_stays out
only_output out (Some notice) hs (inr is) = ap without_notices is ∙ notice_goes out notice
