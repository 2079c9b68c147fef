-- A terminal in the caller's memory. `Testable` of a clause says that the machine may compare the pointer with null: that its place in what
-- it points into is below 2 ^ 63, as of each pointer that C makes.
use Rattle.std.specs.Prelude.{◌≡◌, ◌==◌, ℕ, Bool, true, false, List, []}
use Rattle.std.specs.Borrow.{full_share}
use Rattle.std.specs.Ptr.{Ptr, block_ptr, lies_at, null_ptr, room_at}
use Rattle.wb_instrument.specs.Setup.{Setup}
use Rattle.wb_sics.specs.declared.reply.Reply.{Reply}
use Rattle.wb_sics.specs.Event.{TerminalEvent}
use Rattle.wb_sics.specs.Replies.{replies}
use Rattle.wb_terminal_c.specs.Heard.{until_reply}
use Rattle.wb_terminal_c.specs.Keeps.{KeepsTerminal}
use Rattle.wb_terminal_c.specs.Passed.{Opens}
use Rattle.wb_terminal_c.specs.Shown.{indication_after}
use Rattle.wb_terminal_c.specs.declared.handle.Handle.{Handle}
use Rattle.wb_terminal_c.specs.declared.indication.Indication.{Indication}
use Rattle.wb_terminal_c.specs.contracts.handle.Handle.{the_row}
use base.Fml.{Fml, fex, fsep, ftrue}
use denote.Memory.{lone}
use denote.RattleType.{RattleType}
use prog.Memory.{align}

-- what the address of a value is a multiple of
abbrev pub type_alignment : RattleType → ℕ
type_alignment R = align (lone R.mir)

-- room for a terminal at the pointer, whatever it holds now
abbrev pub room_for_terminal : Ptr → Fml
room_for_terminal p = room_at the_row p

-- a terminal of this setup that stands after this history lies at the pointer, and is all the caller's
abbrev pub terminal_at : Setup → List TerminalEvent → Ptr → Fml
terminal_at s h p = fex Handle (λ x. fsep (lies_at the_row full_share p x) (fex (KeepsTerminal x s h) (λ _. ftrue)))

-- the answer to a call: 0, or 10 at null
abbrev pub answer_at : Ptr → ℕ
answer_at (block_ptr b o) = 0
answer_at null_ptr = 10

-- the answer to a setup: that of `Opens`, or 10 at null
abbrev pub IsOpened : Ptr → Setup → ℕ → Type 0
IsOpened (block_ptr b o) s answer = Opens s answer
IsOpened null_ptr s answer = answer ≡ 10

-- a terminal after nothing, or room still
abbrev pub opened_or_room : Bool → Setup → Ptr → Fml
opened_or_room true s p = terminal_at s [] p
opened_or_room false s p = room_for_terminal p

-- what is at the pointer after this answer to a setup
abbrev pub opened_at : Setup → ℕ → Ptr → Fml
opened_at s answer p = opened_or_room (answer == 0) s p

-- the replies at the newest event; none at null
abbrev pub replies_at : Ptr → Setup → List TerminalEvent → List Reply
replies_at (block_ptr b o) s h = replies s h
replies_at null_ptr s h = []

-- how many of these bytes are taken; none at null
abbrev pub taken_at : Ptr → Setup → List TerminalEvent → List ℕ → ℕ
taken_at (block_ptr b o) s h bytes = until_reply s h bytes
taken_at null_ptr s h bytes = 0

-- how many of these bytes are taken; at null the greatest number of 64 bits, which no slice has as its length
abbrev pub count_at : Ptr → Setup → List TerminalEvent → List ℕ → ℕ
count_at (block_ptr b o) s h bytes = until_reply s h bytes
count_at null_ptr s h bytes = 18446744073709551615

-- what is indicated; at null what was there stays
abbrev pub indication_at : Ptr → Setup → List TerminalEvent → Indication → Indication
indication_at (block_ptr b o) s h before = indication_after s h
indication_at null_ptr s h before = before
