use Rattle.std.proofs.Common.{rules, ◌≡◌, sym, ◌∙◌, ap, w32, to_z, of_z}
use Rattle.wb_window.proofs.Entering.{Kept-all, Kept-drop, queue_of-enter}
use Rattle.wb_window.proofs.candidates.Candidates.enter.Goals as goal

pub loop-self-init : goal.loop-self-init
loop-self-init c = record { extreme = search rules; capacity = search rules; kept = Kept-all _ _ _ }

pub loop-self-preserved : goal.loop-self-preserved
loop-self-preserved c =
    rw c.pop_back.ensures.items
    (record {
      extreme = c.loop-self.invariant.extreme;
      capacity = c.loop-self.invariant.capacity;
      kept = Kept-drop _ _ _ _ c.loop-self.invariant.kept (sym c.is_beyond_last.ensures ∙ c.loop-self-test.true);
    })

pub returns : goal.returns
returns c extreme size readings short e =
    let kept = c.loop-self.self in
    let load : to_z w32 (of_z w32 c.args.load) ≡ c.args.load = search rules in
    let sought : kept.extreme ≡ extreme = c.loop-self.invariant.extreme ∙ ap (λ queue. queue.extreme) e in
    let room : kept.loads.capacity ≡ size = c.loop-self.invariant.capacity ∙ ap (λ queue. queue.loads.capacity) e in
    let all = ap (λ queue. queue.loads.items) e in
    let behind = sym c.is_beyond_last.ensures ∙ c.loop-self-test.false in
    rw (c.push_back.ensures.items, room, sought, load)
    (queue_of-enter extreme size readings c.args.load c.args.self.now.loads.items kept.loads.items short all
    (rw (sought, load) at c.loop-self.invariant.kept) (rw (sought, load) at behind))
