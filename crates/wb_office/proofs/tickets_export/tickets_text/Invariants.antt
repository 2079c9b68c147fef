use Rattle.std.proofs.Common.{◌≡◌}
use Rattle.wb_office.proofs.Common.{IsRising}
use Rattle.wb_office.proofs.ExportRecords.{tickets_to}
use Rattle.wb_office.proofs.tickets_export.tickets_text.Given as goal

abbrev pub invariant-loop-place : goal.invariant-loop-place
invariant-loop-place l = IsRising l.entries → l.export ≡ tickets_to l.place l.entries
