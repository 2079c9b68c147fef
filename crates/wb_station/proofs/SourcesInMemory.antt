-- What sources in memory keep.
use Rattle.std.proofs.Common.{◌≡◌, Bool, true, false, List, [], ◌∷◌, ◌++◌, map, Some, inl, inr, refl, ap, ◌∙◌}
use Rattle.std.specs.Prelude.{reverse}
use Rattle.std.proofs.lemmas.List.{map-append, reverse-append}
use Rattle.wb_station.specs.declared.list_sources.Answered.{Answered}
use Rattle.wb_station.specs.declared.list_sources.HandedIn.{HandedIn}
use Rattle.wb_station.specs.SourcesInMemory.{answer_of, handed_of, told_of}
use Rattle.wb_station.specs.SourceAnswers.{SourceTells}

-- the newest comes first
newest : {A B : Type 0} (f : A → B) (xs : List A) (x : A) → reverse (map f (xs ++ x ∷ [])) ≡ f x ∷ reverse (map f xs)
newest f xs x = ap reverse (map-append f xs (x ∷ [])) ∙ reverse-append (map f xs) (f x ∷ [])

pub answer_kept : (fault : Bool) (ans : List Answered) (hs : List HandedIn) (a : Answered) → SourceTells (answer_of a ∷ []) [] (told_of fault ans hs) (told_of fault (ans ++ a ∷ []) hs)
answer_kept true ans hs a = inl refl
answer_kept false ans hs a = inr (ap (λ l. Some (record { answers = l; handed = reverse (map handed_of hs) })) (newest answer_of ans a))

pub handed_kept : (fault : Bool) (ans : List Answered) (hs : List HandedIn) (h : HandedIn) → SourceTells [] (handed_of h ∷ []) (told_of fault ans hs) (told_of fault ans (hs ++ h ∷ []))
handed_kept true ans hs h = inl refl
handed_kept false ans hs h = inr (ap (λ l. Some (record { answers = reverse (map answer_of ans); handed = l })) (newest handed_of hs h))
