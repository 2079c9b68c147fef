-- What lies in the caller's memory after an event that its terminal took.
use Rattle.std.proofs.Common.{◌≡◌, List, [], ◌∷◌, refl, ap, ◌∙◌}
use Rattle.wb_instrument.specs.Setup.{Setup}
use Rattle.wb_sics.specs.Event.{TerminalEvent, hang_up}
use Rattle.wb_sics.specs.Replies.{replies}
use Rattle.wb_sics.specs.Stands.{TerminalStands, TerminalTakes}
use Rattle.wb_terminal_c.specs.declared.handle.Handle.{Handle}
use Rattle.wb_terminal_c.specs.Keeps.{KeepsTerminal}

pub replies-nothing : (s : Setup) → [] ≡ replies s []
unfolding replies
replies-nothing s = refl

pub replies-hang_up : (s : Setup) (h : List TerminalEvent) → [] ≡ replies s (hang_up ∷ h)
unfolding replies
replies-hang_up s h = refl

-- the terminal took an event, and the replies at it are kept
pub Keeps-after : (x y : Handle) (s : Setup) (h : List TerminalEvent) (event : TerminalEvent) → KeepsTerminal x s h → TerminalTakes x.terminal y.terminal event
    → (TerminalStands x.terminal h → y.replies.items ≡ replies x.terminal.scale.setup (event ∷ h)) → KeepsTerminal y s (event ∷ h)
Keeps-after x y s h event k takes said =
    record { setup = takes.setup ∙ k.setup; stands = takes.stands h k.stands; replies = said k.stands ∙ ap (λ i. replies i (event ∷ h)) k.setup }
