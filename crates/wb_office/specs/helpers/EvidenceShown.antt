-- What was found out about a weighing or void, and the lists and the history that it shows.
use Rattle.std.specs.Prelude.{◌≡◌}
use Rattle.wb_scale.specs.Cleared.{is_cleared}
use Rattle.wb_scale.specs.Indication.{indicated}
use Rattle.wb_scale.specs.Tare.{tare_now}
use Rattle.wb_store.specs.Sight.{overview}
use Rattle.wb_office.specs.declared.evidence.Evidence.{Evidence}
use Rattle.wb_office.specs.declared.evidence.OfScale.{OfScale}
use Rattle.wb_office.specs.Situation.{Asking, Situation}
use Rattle.wb_office.specs.helpers.JudgedByVerdict.{AsksFor}

-- what the scale shows
pub record ShowsScale (s : OfScale) (w : Situation) : Type 0 where
  pub shown : s.indicated ≡ indicated w.setup w.history
  pub in_force : s.tare ≡ tare_now w.history
  pub bridge : s.is_cleared ≡ is_cleared w.history

-- all that a weighing or void with a new key is judged on
pub record Shows (e : Evidence) (a : Asking) : Type 0 where
  pub asks : AsksFor e.asked a
  pub most : e.capacity ≡ a.now.setup.capacity
  pub scale_shown : ShowsScale e.scale a.now
  pub journal_shown : e.journal ≡ overview a.now.entries a.now.spent a.plate
