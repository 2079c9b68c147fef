use Rattle.std.proofs.Common.{◌≡◌, [], true, false, refl, ◌∙◌, arith}
use Rattle.std.specs.Prelude.{◌==◌}
use Rattle.std.proofs.lemmas.Bool.Decides.{nat_tests}
use Rattle.wb_sics.specs.Calls.{calls}
use Rattle.wb_sics.specs.Event.{byte}
use Rattle.wb_sics.specs.Lines.{line_command}
use Rattle.wb_sics.specs.Stands.{TerminalStands}
use Rattle.wb_sics.proofs.Standing.{Performs, Stands-at, StandsAt-byte, StandsAt-line, Takes-behind, kept, replies-byte, replies-line}
use Rattle.wb_sics.proofs.UnfinishedLine.{line_command-kept}
use Rattle.wb_sics.proofs.terminal.Terminal.byte_into.Goals as goal

pub returns-then-byte-ne-LINE_FEED-clause-takes : goal.returns-then-byte-ne-LINE_FEED-clause-takes
returns-then-byte-ne-LINE_FEED-clause-takes g c =
    let s = c.self.inside in
    let no : (c.args.byte == 10) ≡ false = grind (arith, nat_tests) in
    Takes-behind (kept s.scale s.waiting s.repeating s.line.items) _ _ (byte c.args.byte) c.self.view_is refl
    (λ h from. record { now = StandsAt-byte s.scale.setup s.scale s.waiting s.repeating s.line.items c.keep.new.line.items c.args.byte h no c.keep.ensures from.now })

pub returns-then-byte-ne-LINE_FEED-clause-replies : goal.returns-then-byte-ne-LINE_FEED-clause-replies
returns-then-byte-ne-LINE_FEED-clause-replies g c = λ h st.
    let no : (c.args.byte == 10) ≡ false = grind (arith, nat_tests) in
    c.clear.ensures ∙ replies-byte c.args.self.now.scale.setup c.args.byte h no

pub returns-clause-takes : goal.returns-clause-takes
returns-clause-takes g c =
    let s = c.self.inside in
    let i = s.scale.setup in
    let b = c.perform-waiting.new.scale in
    let command = c.kept_command-command.result in
    Takes-behind (kept s.scale s.waiting s.repeating s.line.items) _ _ (byte c.args.byte) c.self.view_is c.perform-waiting.ensures.takes.setup (λ h from.
    let lf : (c.args.byte == 10) ≡ true = grind (arith, nat_tests) in
    let is : command ≡ line_command h = line_command-kept c.as_slice.result.now h command (c.as_slice.ensures.value ∙ from.now.line) c.kept_command-command.ensures in
    let did : Performs i (calls i h) command b s.waiting c.perform-waiting.result c.perform-waiting.new.replies.items = record {
      scale_stands = c.perform-waiting.ensures.takes.stands (calls i h) from.now.scale;
      waits = c.perform-waiting.ensures.waiting (calls i h) from.now.scale;
      replied = rw c.give_up.ensures.items at (c.perform-waiting.ensures.replies (calls i h) from.now.scale);
    } in
    let stands = StandsAt-line i s.scale b s.waiting c.perform-waiting.result s.repeating c.repeating_from-repeating.result s.line.items c.args.byte command c.perform-waiting.new.replies.items h lf
    c.perform-waiting.ensures.wait c.perform-waiting.ensures.window is c.repeating_from-repeating.ensures from.now did in
    rw c.clear-2.ensures (Stands-at i (kept b c.perform-waiting.result c.repeating_from-repeating.result []) _ c.perform-waiting.ensures.takes.setup stands))

pub returns-clause-replies : goal.returns-clause-replies
returns-clause-replies g c = λ h st.
    let s = c.self.inside in
    let i = s.scale.setup in
    let b = c.perform-waiting.new.scale in
    let command = c.kept_command-command.result in
    let from : TerminalStands (kept s.scale s.waiting s.repeating s.line.items) h = rw c.self.view_is st in
    let lf : (c.args.byte == 10) ≡ true = grind (arith, nat_tests) in
    let is : command ≡ line_command h = line_command-kept c.as_slice.result.now h command (c.as_slice.ensures.value ∙ from.now.line) c.kept_command-command.ensures in
    let did : Performs i (calls i h) command b s.waiting c.perform-waiting.result c.perform-waiting.new.replies.items = record {
      scale_stands = c.perform-waiting.ensures.takes.stands (calls i h) from.now.scale;
      waits = c.perform-waiting.ensures.waiting (calls i h) from.now.scale;
      replied = rw c.give_up.ensures.items at (c.perform-waiting.ensures.replies (calls i h) from.now.scale);
    } in
    rw (← c.self.view_is)
    (replies-line i s.scale b s.waiting c.perform-waiting.result s.repeating s.line.items c.args.byte command c.perform-waiting.new.replies.items h lf is from.now did)
