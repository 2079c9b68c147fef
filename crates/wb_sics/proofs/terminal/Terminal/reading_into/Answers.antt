use Rattle.std.proofs.Common.{◌++◌}
use Rattle.wb_sics.specs.Calls.{calls}
use Rattle.wb_sics.specs.Event.{reading}
use Rattle.wb_sics.specs.helpers.Kept.{asked_waiting}
use Rattle.wb_sics.specs.Stands.{TerminalStands}
use Rattle.wb_sics.proofs.Standing.{Reads, Stands-at, StandsAt-reading, Takes-behind, kept, replied, replies-reading}
use Rattle.wb_sics.proofs.terminal.Terminal.reading_into.Goals as goal

pub returns-clause-takes : goal.returns-clause-takes
returns-clause-takes g c =
    let s = c.self.inside in
    let i = s.scale.setup in
    let b = c.take_reading-waiting.new.scale in
    Takes-behind (kept s.scale s.waiting s.repeating s.line.items) _ _ (reading c.args.reading) c.self.view_is c.take_reading-waiting.ensures.takes.setup (λ h from.
    let k = calls i h in
    let stands = c.take_reading-waiting.ensures.takes.stands k from.now.scale in
    let did : Reads i k c.args.reading b s.waiting c.take_reading-waiting.result s.repeating c.repeat.new.replies.items = record {
      scale_stands = stands;
      waits = c.take_reading-waiting.ensures.waiting k from.now.scale;
      replied = replied i _ k (asked_waiting s.waiting c.args.reading ++ k) c.args.reading s.waiting s.repeating _ _
          c.take_reading-waiting.ensures.takes.setup (c.take_reading-waiting.ensures.replies k from.now.scale) (c.repeat.ensures _ stands);
    } in
    Stands-at i (kept b c.take_reading-waiting.result s.repeating s.line.items) _ c.take_reading-waiting.ensures.takes.setup
    (StandsAt-reading i s.scale b s.waiting c.take_reading-waiting.result s.repeating s.line.items c.args.reading c.repeat.new.replies.items h c.take_reading-waiting.ensures.window from.now did))

pub returns-clause-replies : goal.returns-clause-replies
returns-clause-replies g c = λ h st.
    let s = c.self.inside in
    let i = s.scale.setup in
    let b = c.take_reading-waiting.new.scale in
    let from : TerminalStands (kept s.scale s.waiting s.repeating s.line.items) h = rw c.self.view_is st in
    let k = calls i h in
    let stands = c.take_reading-waiting.ensures.takes.stands k from.now.scale in
    let did : Reads i k c.args.reading b s.waiting c.take_reading-waiting.result s.repeating c.repeat.new.replies.items = record {
      scale_stands = stands;
      waits = c.take_reading-waiting.ensures.waiting k from.now.scale;
      replied = replied i _ k (asked_waiting s.waiting c.args.reading ++ k) c.args.reading s.waiting s.repeating _ _
          c.take_reading-waiting.ensures.takes.setup (c.take_reading-waiting.ensures.replies k from.now.scale) (c.repeat.ensures _ stands);
    } in
    rw (← c.self.view_is)
    (replies-reading i s.scale b s.waiting c.take_reading-waiting.result s.repeating s.line.items c.args.reading c.repeat.new.replies.items h from.now did)
