-- What keeps an address or a converter from being used.
use Rattle.std.specs.Prelude.{Bool, false, true}
use Rattle.wb_connections.specs.declared.cause.Cause.{Cause}
use Rattle.wb_connections.specs.declared.cause.Cause.TheVariants.{NotLoopback, Folder, NotThere, NotPermitted, InUse, NobodyListens, System}

-- it stays, however often it is tried
abbrev pub stays : Cause → Bool
stays NotLoopback = true
stays Folder = true
stays NotThere = false
stays NotPermitted = false
stays InUse = false
stays NobodyListens = false
stays System = false
