use Rattle.std.proofs.Common.{ap, ◌∙◌}
use Rattle.wb_terminal_c.proofs.Keeping.{replies-nothing}
use Rattle.wb_terminal_c.proofs.handle.of_instrument.Goals as goal

pub returns : goal.returns
returns c = record {
  setup = ap (λ s. s.setup) c.new-2.ensures.scale ∙ c.new.ensures.setup;
  stands = c.new-2.ensures.stands c.new.ensures.stands;
  replies = c.new-3.ensures ∙ replies-nothing c.args.instrument;
}
