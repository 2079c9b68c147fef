-- When a request is whole: more bytes change nothing of how it is judged.
use Rattle.std.specs.Prelude.{◌≡◌, ℕ, Bool, true, ◌||◌, not, nat_lt, List, ◌++◌, length, Option, Some, None, is_some, Result}
use Rattle.wb_messages.specs.declared.request.Request.{Request}
use Rattle.wb_http.specs.declared.fault.HttpFault.{HttpFault}
use Rattle.wb_http.specs.HttpJudgement.{IsJudged, cut_short, first_fault, of_head}
use Rattle.wb_http.specs.RequestBytes.{IsRead, Received}

-- a head is there, with a fault of its own, or the body isn't cut short; or no head is there in more than 8,192 bytes
abbrev pub is_whole : List ℕ → Option Received → Bool
is_whole bytes None = nat_lt 8192 (length bytes)
is_whole bytes (Some x) = is_some (first_fault of_head x) || not (cut_short x)

-- whether the bytes are whole, by what is read of them
abbrev pub TellsWhole : List ℕ → Bool → Type 0
TellsWhole bytes whole = (x : Option Received) × IsRead bytes x × (whole ≡ is_whole bytes x)

-- bytes are judged in one way
abbrev pub OneJudgement : Type 0
OneJudgement = (bytes : List ℕ) (r s : Result Request HttpFault) → IsJudged bytes r → IsJudged bytes s → r ≡ s

-- once they are whole, they are judged so with whatever follows
abbrev pub WholeStays : Type 0
WholeStays =
    (bytes more : List ℕ) (r : Result Request HttpFault) → TellsWhole bytes true → IsJudged bytes r → IsJudged (bytes ++ more) r
