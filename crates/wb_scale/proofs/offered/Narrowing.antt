-- A gross and net that are in range keep their value in 16 bits, as the instrument weighs them.
use Rattle.std.proofs.Common.{arith, ◌≡◌, Bool, ℤ, to_z, of_z, w16, w32}
use Rattle.std.proofs.lemmas.Int.{ints}
use Rattle.wb_instrument.specs.Setup.{IsSetup, Setup}
use Rattle.wb_scale.specs.Indication.{IsIndicationInRange}
use Rattle.wb_scale.specs.declared.answers.Indicated.TheVariants.{Shown}

pub narrowed-shown : (s : Setup) (gross net : ℤ) (stable : Bool) → IsSetup s → IsIndicationInRange s (Shown gross net stable)
    → (to_z w16 (of_z w16 (to_z w32 (of_z w32 gross))) ≡ gross) × (to_z w16 (of_z w16 (to_z w32 (of_z w32 net))) ≡ net)
narrowed-shown s gross net stable is range = let most = is.max.2 in (omega (arith, ints), omega (arith, ints))
