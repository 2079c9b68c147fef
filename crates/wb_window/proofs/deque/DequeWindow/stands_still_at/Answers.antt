use Rattle.std.proofs.Common.{◌≡◌, replicate, length, sym, subst, arith}
use Rattle.wb_window.proofs.deque.DequeWindow.stands_still_at.Goals as goal

pub returns-then-len-capacity : goal.returns-then-len-capacity
returns-then-len-capacity c all =
    let ring = c.self.inside.ring in
    let held : ring.items ≡ replicate (length ring.items) c.args.reading = c.are_all.ensures ring.capacity ring.items c.self.invariant all in
    let full : length ring.items ≡ ring.capacity = omega arith in
    rw (sym c.self.view_is) (subst (λ n. ring.items ≡ replicate n c.args.reading) full held)
