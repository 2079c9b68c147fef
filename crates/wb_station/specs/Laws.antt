-- Laws of whole histories.
use Rattle.std.specs.Prelude.{◌≡◌, List, []}
use Rattle.wb_instrument.specs.Setup.{Setup}
use Rattle.wb_station.specs.Account.{Account, IsAccount, IsOut, Out}
use Rattle.wb_messages.specs.Happening.{Happening}
use Rattle.wb_station.specs.Stands.{IsReplied}

-- a history has one account, and at each happening one output
pub record OneHistory : Type 0 where
  pub account : (s : Setup) (opening : Account) (h : List Happening) (a b : Account) → IsAccount s opening h a → IsAccount s opening h b → a ≡ b
  pub out : (s : Setup) (opening : Account) (p : Happening) (h : List Happening) (a b : Out) → IsOut s opening p h a → IsOut s opening p h b → a ≡ b

-- requests to the office change no reply: the replies are those of the readings, bytes and hang-ups alone
abbrev pub RepliesAlone : Type 0
RepliesAlone = (s : Setup) (opening : Account) (p : Happening) (h : List Happening) (out : Out) → opening.terminal ≡ [] → IsOut s opening p h out
    → IsReplied s p h out
