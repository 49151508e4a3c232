use Rattle.std.proofs.Common.{◌≡◌, ℕ, Bool, length, Some, ap, sym, subst, ◌∙◌, rules, arith}
use Rattle.std.specs.Prelude.{filter, IfSome}
use Rattle.ttp_base.specs.NodeSet.{below, has_node}
use Rattle.ttp_world.specs.Hypothesis.{jumps_now}
use Rattle.hypothesis.specs.Standing.{told_start}
use Rattle.hypothesis.specs.Walks.{all_in}
use Rattle.broken_faults.specs.Faults.{faulty_in, newest_fault}
use Rattle.broken_faults.specs.Seen.{told_fault, IsFault}
use Rattle.broken_faults.proofs.Newest.{newest-in, newest-out, sieved}
use Rattle.broken_faults.proofs.few.newest_jump.Goals as goal
use Rattle.broken_faults.proofs.few.newest_jump.Goals.{then-has, else-has}

pub loop-node-preserved : goal.loop-node-preserved
loop-node-preserved c =
    let list = c.args.list.now in
    let script = c.args.script.now in
    let start = told_start c.args.start in
    let jumps : ℕ → Bool = has_node c.args.faults.now.jumped in
    let before = told_fault c.args.before in
    let node = c.loop-node.node in
    let slot = c.args.slot in
    elim c.if-has.branch [
      | then-has w ↦ record {
        told = ap told_fault w.newest-is
            ∙ (λ i. Some (record { slot = w.by_jump-fault.ensures.slot i; node = w.by_jump-fault.ensures.node i }))
            ∙ sym (newest-in before slot jumps node (search rules));
        known = subst (λ f. IfSome f (IsFault list script start)) (sym w.newest-is) w.by_jump-fault.ensures.known;
      }
      | else-has w ↦ record {
        told = ap told_fault w.newest-is ∙ c.loop-node.invariant.told
            ∙ sym (newest-out before slot jumps node (search rules));
        known = subst (λ f. IfSome f (IsFault list script start)) (sym w.newest-is) c.loop-node.invariant.known;
      }
    ]

pub returns-clause-told : goal.returns-clause-told
returns-clause-told c =
    let list = c.args.list.now in
    let script = c.args.script.now in
    let all : c.loop-node.node ≡ length list.slots = omega arith in
    c.loop-node.invariant.told
    ∙ ap (λ n. newest_fault (told_fault c.args.before)
    (all_in c.args.slot (filter (has_node c.args.faults.now.jumped) (below n)))) all
    ∙ ap (λ ks. newest_fault (told_fault c.args.before) (all_in c.args.slot ks))
    (sieved (jumps_now script (faulty_in list script (told_start c.args.start) c.args.slot) c.args.slot)
    (length list.slots) c.args.faults.now.jumped c.requires.faults.jumped)
