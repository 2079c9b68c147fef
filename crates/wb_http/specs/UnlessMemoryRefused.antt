-- A result that is the one defined, unless memory was refused.
use Rattle.std.specs.Prelude.{◌≡◌, ⊤, ℕ, List, Result, Ok, Err, IsErrOf}
use Rattle.wb_messages.specs.declared.request.Request.{Request}
use Rattle.wb_http.specs.declared.fault.HttpFault.{HttpFault}
use Rattle.wb_http.specs.declared.fault.HttpFault.TheVariants.{BadField, HeadTooLarge, Malformed, Memory, NoLength, NoRoute, TooLarge, WrongMethod}
use Rattle.wb_http.specs.HttpJudgement.{IsJudged, MayWantMemory}

abbrev pub IsOf : {X : Type 0} → Result X HttpFault → Result X HttpFault → Type 0
IsOf defined (Ok x) = defined ≡ Ok x
IsOf defined (Err HeadTooLarge) = defined ≡ Err HeadTooLarge
IsOf defined (Err Malformed) = defined ≡ Err Malformed
IsOf defined (Err NoRoute) = defined ≡ Err NoRoute
IsOf defined (Err (WrongMethod method)) = defined ≡ Err (WrongMethod method)
IsOf defined (Err NoLength) = defined ≡ Err NoLength
IsOf defined (Err TooLarge) = defined ≡ Err TooLarge
IsOf defined (Err BadField) = defined ≡ Err BadField
IsOf defined (Err Memory) = ⊤

-- the bytes were judged so; or memory was refused, which they may want
pub record WasJudged (bytes : List ℕ) (result : Result Request HttpFault) : Type 0 where
  pub judged : (r : Result Request HttpFault) × IsJudged bytes r × IsOf r result
  pub memory : IsErrOf result Memory → MayWantMemory bytes
