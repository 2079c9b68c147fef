use Rattle.std.proofs.Common.{◌≡◌, ◌++◌, drop, map}
use Rattle.httparse.specs.Spans.{header_bytes}
use Rattle.wb_http.specs.RequestBytes.{values}
use Rattle.wb_http.specs.helpers.FoundBytes.{bytes_found}
use Rattle.wb_http.proofs.body_length.value_of.Given as goal

abbrev pub invariant-loop-field : goal.invariant-loop-field
invariant-loop-field l =
    values l.name (map (header_bytes l.head.front.now) l.head.fields.now)
    ≡ bytes_found l.found ++ values l.name (map (header_bytes l.head.front.now) (drop l.field-index l.head.fields.now))
