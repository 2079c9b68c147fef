use Rattle.std.proofs.Common.{rules, ◌≡◌, ◌∷◌}
use Rattle.wb_sics.specs.Event.{reading}
use Rattle.wb_window.specs.Reading.{reading_of}
use Rattle.wb_terminal_c.specs.declared.handle.Handle.{Handle}
use Rattle.wb_terminal_c.specs.Keeps.{KeepsTerminal}
use Rattle.wb_terminal_c.proofs.Keeping.{Keeps-after}
use Rattle.wb_terminal_c.proofs.handle.read.Goals as goal

pub returns-clause-keeps : goal.returns-clause-keeps
returns-clause-keeps c = λ s h k.
    let after : Handle = record { terminal = c.reading_into.new.self; replies = c.reading_into.new.room } in
    let e : c.of.result ≡ reading_of c.args.tenths = search rules in
    let kept : KeepsTerminal after s (reading c.of.result ∷ h) = Keeps-after c.args.handle.now after s h (reading c.of.result) k c.reading_into.ensures.takes (λ stands. c.reading_into.ensures.replies h stands) in
    rw e at kept
