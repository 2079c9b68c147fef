use Rattle.std.proofs.Common.{◌≡◌, length, take, true, arith, take_all}
use Rattle.std.proofs.lemmas.Bool.Decides.{nat_tests}
use Rattle.std.specs.Prelude.{nat_le}
use Rattle.wb_window.proofs.deque.DequeWindowWindow.stable.Goals as goal

pub returns-then-len-capacity : goal.returns-then-len-capacity
returns-then-len-capacity c =
    let ring = c.self.inside.ring in
    let full : nat_le ring.capacity (length ring.items) ≡ true = grind (arith, nat_tests) in
    let all : take ring.capacity ring.items ≡ ring.items = take_all ring.capacity ring.items (omega arith) in
    rw (← c.self.view_is) (rw (full, all) (c.agree.ensures ring.capacity ring.items c.self.invariant))
