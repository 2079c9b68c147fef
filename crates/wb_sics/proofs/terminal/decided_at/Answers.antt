use Rattle.std.proofs.Common.{◌∷◌, ◌∙◌}
use Rattle.wb_scale.specs.Call.{read}
use Rattle.wb_sics.proofs.Decided.{tare-decided, weight-decided, zero-decided}
use Rattle.wb_sics.proofs.terminal.decided_at.Goals as goal

pub returns-in-Weight-clause-decided : goal.returns-in-Weight-clause-decided
returns-in-Weight-clause-decided g c = λ h st.
    rw c.in-Weight.is (weight-decided c.args.scale.now.setup c.read.new.self.setup c.instrument.result.now h c.args.reading c.indicated.result c.weight_reply.result
    c.weight_reply.ensures c.instrument.ensures.value c.read.ensures.takes.setup (c.indicated.ensures.value (read c.args.reading ∷ h) (c.read.ensures.takes.stands h st)))

pub returns-in-Zero-clause-decided : goal.returns-in-Zero-clause-decided
returns-in-Zero-clause-decided g c = λ h st.
    rw c.in-Zero.is (zero-decided c.args.scale.now.setup h c.args.reading c.read_for_zero.result c.zero_reply.result
    c.zero_reply.ensures (c.read_for_zero.ensures.answer h st))

pub returns-in-Tare-clause-takes : goal.returns-in-Tare-clause-takes
returns-in-Tare-clause-takes g c = rw c.in-Tare.is (record {
  setup = c.tare.ensures.takes.setup ∙ c.read-in-Tare.ensures.takes.setup;
  stands = λ h st. c.tare.ensures.takes.stands (read c.args.reading ∷ h) (c.read-in-Tare.ensures.takes.stands h st);
})

pub returns-in-Tare-clause-decided : goal.returns-in-Tare-clause-decided
returns-in-Tare-clause-decided g c = λ h st.
    rw c.in-Tare.is (tare-decided c.args.scale.now.setup c.read-in-Tare.new.self.setup h c.args.reading c.tare.result c.tare_reply.result
    c.tare_reply.ensures c.read-in-Tare.ensures.takes.setup (c.tare.ensures.answer (read c.args.reading ∷ h) (c.read-in-Tare.ensures.takes.stands h st)))
