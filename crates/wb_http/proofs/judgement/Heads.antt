-- A head in the first 8,192 bytes is one at the front of all.
use Rattle.std.proofs.Common.{◌≡◌, ℕ, ◌+◌, ◌-◌, ◌≤◌, List, ◌++◌, length, take, drop, refl, sym, ◌∙◌, ap, subst, append_assoc, arith}
use Rattle.std.proofs.lemmas.List.{length-take, take-append-drop}
use Rattle.std.proofs.Math.Seq.{take-append-add, take-append_seam}
use Rattle.httparse.specs.Grammar.{ReadsRequest, RequestHead, print_request}
use Rattle.httparse.specs.Spans.{IsRequestAt}
use Rattle.httparse.specs.declared.spans.HeaderSpan.{HeaderSpan}
use Rattle.httparse.specs.declared.spans.RequestSpans.{RequestSpans}
use Rattle.wb_http.specs.helpers.HeadPlaces.{IsReadAt}
use Rattle.wb_http.specs.RequestBytes.{ReadsAs, Received}

front : (text rest more : List ℕ) → take (length text) ((text ++ rest) ++ more) ≡ text
front text rest more = simp append_assoc (take-append_seam text (rest ++ more))

-- what follows a head in the first bytes, and then the others
pub whole : (n len : ℕ) (text bytes : List ℕ) → take n bytes ≡ text ++ drop len (take n bytes) → len ≡ length text → bytes ≡ text ++ drop len bytes
whole n len text bytes e l =
    let all : bytes ≡ (text ++ drop len (take n bytes)) ++ drop n bytes = sym (take-append-drop n bytes) ∙ ap (λ w. w ++ drop n bytes) e in
    let begins : take len bytes ≡ text = ap (take len) all ∙ ap (λ k. take k ((text ++ drop len (take n bytes)) ++ drop n bytes)) l ∙ front text _ _ in
    sym (take-append-drop len bytes) ∙ ap (λ w. w ++ drop len bytes) begins

read_from : (bytes : List ℕ) (spans : List HeaderSpan) (r : RequestSpans) (h : RequestHead) → IsRequestAt (take 8192 bytes) spans r h
    → length h.fields ≤ 64 → r.len ≤ length (take 8192 bytes) → (x : Received) × IsReadAt bytes spans r x
read_from bytes spans r h at few within =
    let size : r.len ≤ 8192 = omega (arith, within, length-take 8192 bytes) in
    let small : length (print_request h) ≤ 8192 = omega (arith, size, at.len) in (
      record { head = h; rest = drop r.len bytes },
      record {
        reads = (record { head = at.reads.0; fields = few; size = small }, whole 8192 r.len (print_request h) bytes at.reads.1 at.len);
        places = at;
        rest = refl;
      },
    )

-- the same, with a name for the first bytes
pub read_at : (bytes first : List ℕ) (spans : List HeaderSpan) (r : RequestSpans) (h : RequestHead) → first ≡ take 8192 bytes
    → IsRequestAt first spans r h → length h.fields ≤ 64 → r.len ≤ length first → (x : Received) × IsReadAt bytes spans r x
read_at bytes first spans r h e at few within =
    subst (λ (f : List ℕ). IsRequestAt f spans r h → r.len ≤ length f → (x : Received) × IsReadAt bytes spans r x) (sym e)
    (λ (a : IsRequestAt (take 8192 bytes) spans r h). λ (w : r.len ≤ length (take 8192 bytes)). read_from bytes spans r h a few w) at within

pub read_front : (bytes : List ℕ) (x : Received) → ReadsAs bytes x
    → ReadsRequest (take 8192 bytes) x.head (take (8192 - length (print_request x.head)) x.rest)
read_front bytes x e =
    let size = e.0.size in
    let n : 8192 ≡ length (print_request x.head) + (8192 - length (print_request x.head)) = omega (arith, size) in
    (e.0.head, ap (take 8192) e.1 ∙ ap (λ k. take k (print_request x.head ++ x.rest)) n ∙ take-append-add (print_request x.head) x.rest _)
