-- Which requests may count as never made, because they are answered 503.
use Rattle.std.specs.Prelude.{◌≡◌, ◌⊎◌, true, false, List, [], ◌∷◌, Ok}
use Rattle.wb_messages.specs.declared.request.Request.{Request}
use Rattle.wb_office.specs.Wanted.{asks_store}
use Rattle.wb_messages.specs.Happening.{Happening, reading, byte, hang_up, office}
use Rattle.wb_http.specs.HttpJudgement.{IsJudged, MayWantMemory}

-- the request may want memory for its form, or asks the store
abbrev pub MayBeUnmade : Happening → Type 0
MayBeUnmade (reading r) = Unit {0}
MayBeUnmade (byte b) = Unit {0}
MayBeUnmade hang_up = Unit {0}
MayBeUnmade (office at bytes false) = Unit {0}
MayBeUnmade (office at bytes true) = MayWantMemory bytes ⊎ ((request : Request) × IsJudged bytes (Ok request) × (asks_store request ≡ true))

abbrev pub AllMayBeUnmade : List Happening → Type 0
AllMayBeUnmade [] = Unit {0}
AllMayBeUnmade (p ∷ h) = MayBeUnmade p × AllMayBeUnmade h
