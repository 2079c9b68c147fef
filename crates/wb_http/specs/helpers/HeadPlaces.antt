-- Where the parts of a head are in its bytes.
use Rattle.std.specs.Prelude.{◌≡◌, ℕ, List, drop, map, take}
use Rattle.httparse.specs.Spans.{IsRequestAt, header_bytes}
use Rattle.httparse.specs.declared.spans.HeaderSpan.{HeaderSpan}
use Rattle.httparse.specs.declared.spans.RequestSpans.{RequestSpans}
use Rattle.wb_http.specs.declared.head.Head.{Head}
use Rattle.wb_http.specs.RequestBytes.{ReadsAs, Received, fields}

-- the places are those of a head in the first 8,192 bytes, and the bytes begin with it
pub record IsReadAt (bytes : List ℕ) (spans : List HeaderSpan) (r : RequestSpans) (x : Received) : Type 0 where
  pub reads : ReadsAs bytes x
  pub places : IsRequestAt (take 8192 bytes) spans r x.head
  pub rest : drop r.len bytes ≡ x.rest

-- the parts are those of what was read
pub record IsHeadOf (h : Head) (x : Received) : Type 0 where
  pub method : h.method.now ≡ x.head.method
  pub target : h.target.now ≡ x.head.target
  pub fields : map (header_bytes h.front.now) h.fields.now ≡ fields x
  pub rest : h.rest.now ≡ x.rest
