use Rattle.std.proofs.Common.{arith, length, take, ◌≡◌, Some, map}
use Rattle.std.proofs.lemmas.List.{length-map}
use Rattle.wb_converter.proofs.LinesOfCounts.{none_counted, all_counted, more_counted}
use Rattle.wb_converter.proofs.sampling.read_counts.Goals as goal

pub loop-init : goal.loop-init
loop-init g c = rw (c.new-counts.ensures.items, c.new-line.ensures) (none_counted (g.I.Read.remaining c.args.input.now) c.args.lines)

pub returns-then-len-lines-clause-value : goal.returns-then-len-lines-clause-value
returns-then-len-lines-clause-value g c =
    let n : length (map Some c.loop.counts.items) ≡ c.args.lines = omega (arith, c.if-len-lines.true, c.len.ensures, length-map c.loop.counts.items Some) in
    all_counted (g.I.Read.remaining c.args.input.now) (g.I.Read.remaining c.loop.input) (map Some c.loop.counts.items) c.loop.line (rw n c.loop.invariant)

pub loop-preserved : goal.loop-preserved
loop-preserved g c =
    let n = length-map c.loop.counts.items Some in
    more_counted (g.I.Read.remaining c.args.input.now) (g.I.Read.remaining c.loop.input) (g.I.Read.remaining c.read.new.self) c.args.lines (map Some c.loop.counts.items) _ c.loop.line _
    (take c.in-Ok.count c.read.new.buf) c.loop.invariant (λ is. c.if-len-lines.false (omega (arith, is, n, c.len.ensures))) c.in-Ok.ensures.bytes.0
    (λ begun after few endless held. c.in_ok-push_counts-in-Ok.ensures begun after (omega (arith, few, n)) endless held)
