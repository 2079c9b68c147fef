use Rattle.wb_http.specs.RequestBytes.{ReadsAs, Received}
use Rattle.wb_http.proofs.judgement.Heads.{read_at, read_front}
use Rattle.wb_http.proofs.head.places_of.Goals as goal

pub returns-in-Some-clause-read : goal.returns-in-Some-clause-read
returns-in-Some-clause-read c =
    let there = c.in-Some.ensures.head in
    read_at c.args.bytes.now _ _ c.in-Some.places there.0 c.front_of.ensures there.1 (c.in-Some.ensures.few there.0 there.1) c.in-Some.ensures.within.section.len_fits

pub returns-in-None-clause-none : goal.returns-in-None-clause-none
returns-in-None-clause-none c =
    let missing = rw c.front_of.ensures at c.in-None.ensures.missing in
    (λ (x : Received) (reads : ReadsAs c.args.bytes.now x). missing x.head _ (read_front c.args.bytes.now x reads) reads.0.fields, c.headless.ensures)
