use Rattle.std.proofs.Common.{◌≡◌, ◌<◌, ℕ, List, [], ◌++◌, Some, None, Option, IfSome, length, rules, sym, ◌∙◌, ap, append-nil}
use Rattle.std.specs.Io.KnownBytes.{Consumes, IsAtEnd}
use Rattle.wb_trace.proofs.trace.read_trace.Goals as goal

whole : (a b c : Option (List ℕ)) (all : List ℕ) → Consumes a b all → Consumes b c [] → IsAtEnd c → IfSome a (λ xs. all ≡ xs)
whole None b c all x y z = tt
whole (Some xs) None c all x y z = absurd x
whole (Some xs) (Some ys) None all x y z = absurd y
whole (Some xs) (Some ys) (Some zs) all x y z = sym (x ∙ ap (λ w. all ++ w) (y ∙ z) ∙ append-nil all)

pub returns-in-Ok-eq0-clause-whole : goal.returns-in-Ok-eq0-clause-whole
returns-in-Ok-eq0-clause-whole g c =
    let gave = c.in-Ok-eq0.ensures.bytes in
    let none = rw c.in-Ok-eq0.field-0-test at gave.0 in
    let room : 0 < length c.read.new.buf = search rules in
    whole (g.R.Read.remaining c.args.reader.now) (g.R.Read.remaining c.reads.reader) (g.R.Read.remaining c.read.new.self) c.reads.trace.items c.reads.invariant.0 none (gave.1 c.in-Ok-eq0.field-0-test room)
