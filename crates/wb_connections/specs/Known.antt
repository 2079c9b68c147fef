-- Loads of which it is known that they came while the service listened.
use Rattle.std.specs.Prelude.{Bool, true, false, Option, IsSome, IsTrue}
use Rattle.std.specs.declared.time.Instant.{Instant}
use Rattle.wb_connections.specs.declared.source.Source.{Source}
use Rattle.wb_connections.specs.declared.source.Source.TheVariants.{Stream, Device, Plain}
use Rattle.wb_input.specs.declared.sources.Converter.{Converter}
use Rattle.wb_input.specs.declared.sources.Converter.TheVariants.{Line, End, Fault}
use Rattle.wb_window.specs.declared.reading.Reading.TheVariants.{Load, Lost}

-- the bytes of a connection, FIFO or device come in their own time; those of a plain file are all there
abbrev pub is_live : {S : Type 0} → Source S → Bool
is_live (Stream stream) = true
is_live (Device file) = true
is_live (Plain file) = false

-- no load of a live source is passed on before a poll found nothing
abbrev pub IsKnown : Bool → Option Instant → Converter → Type 0
IsKnown is_live looked (Line (Load load)) = IsTrue is_live → IsSome looked
IsKnown is_live looked (Line Lost) = Unit {0}
IsKnown is_live looked End = Unit {0}
IsKnown is_live looked Fault = Unit {0}
