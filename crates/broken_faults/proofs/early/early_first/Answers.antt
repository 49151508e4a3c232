use Rattle.std.proofs.Common.{◌≡◌, ℕ, Bool, not, ◌&&◌, [], ◌∷◌, length, drop, Some, None}
use Rattle.std.proofs.Common.{ap, sym, subst, ◌∙◌, rules, arith}
use Rattle.std.specs.Prelude.{◌==◌, slice_get}
use Rattle.ttp_base.proofs.NodeLists.{without_node-filter}
use Rattle.ttp_base.proofs.NodeTests.{nil_from_first}
use Rattle.ttp_base.specs.NodeSet.{without_node}
use Rattle.ttp_world.proofs.Lists.{nodes-most}
use Rattle.ttp_world.specs.Hypothesis.{jumps_now}
use Rattle.hypothesis.specs.Standing.{told_start}
use Rattle.hypothesis.specs.Walks.{all_in}
use Rattle.broken_faults.specs.declared.early.Since.TheVariants as since
use Rattle.broken_faults.specs.Faults.{faulty_in}
use Rattle.broken_faults.specs.Seen.{LooksOver}
use Rattle.broken_faults.proofs.Over.{headed, over-same, jump-early, jump-second, jump-alone}
use Rattle.broken_faults.proofs.Pairs.{without-first, first-small}
use Rattle.broken_faults.proofs.early.early_first.Goals as goal

pub by_jump-fault-requires-clause-node : goal.by_jump-fault-requires-clause-node
by_jump-fault-requires-clause-node c =
    let list = c.args.list.now in
    let jumps : ℕ → Bool =
    jumps_now c.args.script.now (faulty_in list c.args.script.now (told_start c.args.start) c.args.slot) c.args.slot in
    first-small jumps (length list.slots) c.args.node (nodes-most list c.requires.valid)
    (ap (λ s. slice_get s 0) (sym c.requires.faults.jumped) ∙ c.requires.first)

pub without-requires : goal.without-requires
without-requires c =
    let list = c.args.list.now in
    let jumps : ℕ → Bool =
    jumps_now c.args.script.now (faulty_in list c.args.script.now (told_start c.args.start) c.args.slot) c.args.slot in
    first-small jumps (length list.slots) c.args.node (nodes-most list c.requires.valid)
    (ap (λ s. slice_get s 0) (sym c.requires.faults.jumped) ∙ c.requires.first)

pub by_jump-second-requires-clause-node : goal.by_jump-second-requires-clause-node
by_jump-second-requires-clause-node c =
    let list = c.args.list.now in
    let node = c.args.node in
    let jumps : ℕ → Bool =
    jumps_now c.args.script.now (faulty_in list c.args.script.now (told_start c.args.start) c.args.slot) c.args.slot in
    let second : slice_get (without_node c.args.faults.now.jumped node) 0 ≡ Some c.in-Some.next = search rules in
    first-small (λ j. jumps j && not (j == node)) (length list.slots) c.in-Some.next (nodes-most list c.requires.valid)
    (ap (λ s. slice_get s 0) (sym (ap (λ s. without_node s node) c.requires.faults.jumped
    ∙ without_node-filter jumps (length list.slots) node)) ∙ second)

pub returns-then-is_some-clause-early : goal.returns-then-is_some-clause-early
returns-then-is_some-clause-early c =
    let list = c.args.list.now in
    let script = c.args.script.now in
    let start = told_start c.args.start in
    jump-early list script start c.args.since.now c.early_with-early.new.since c.args.slot c.args.node
    c.args.faults.now.jumped c.early_with-early.result c.requires.first (search rules)
    (over-same list script start c.args.since.now c.early_with-early.new.since c.by_jump-fault.result.slot c.args.slot
    c.by_jump-fault.result.node c.args.node c.early_with-early.result c.by_jump-fault.ensures.slot
    c.by_jump-fault.ensures.node c.early_with-early.ensures.early)

pub returns-in-Some-clause-early : goal.returns-in-Some-clause-early
returns-in-Some-clause-early c =
    let list = c.args.list.now in
    let script = c.args.script.now in
    let start = told_start c.args.start in
    let slot = c.args.slot in
    let node = c.args.node in
    let jumped = c.args.faults.now.jumped in
    let jumps : ℕ → Bool = jumps_now script (faulty_in list script start slot) slot in
    let others : without_node jumped node ≡ drop 1 jumped =
    ap (λ s. without_node s node) c.requires.faults.jumped
    ∙ without-first jumps (length list.slots) node (drop 1 jumped)
    (sym c.requires.faults.jumped ∙ headed jumped node c.requires.first) in
    let next : slice_get (without_node jumped node) 0 ≡ Some c.in-Some.next = search rules in
    let second : slice_get (drop 1 jumped) 0 ≡ Some c.in-Some.next = ap (λ s. slice_get s 0) (sym others) ∙ next in
    let since : c.early_with-early.new.since ≡ since.Fault slot node =
    c.early_with-early.ensures.since
    ∙ (λ i. since.Fault (c.by_jump-fault.ensures.slot i) (c.by_jump-fault.ensures.node i)) in
    jump-second list script start c.args.since.now c.early_with.new.since slot node c.in-Some.next jumped
    c.early_with-early.result c.early_with.result
    (omega (arith, c.requires.valid.count)) c.requires.first second (search rules)
    (subst (λ n. LooksOver list script start c.args.since.now
    (all_in slot (node ∷ [])) c.early_with-early.result n) since
    (over-same list script start c.args.since.now c.early_with-early.new.since c.by_jump-fault.result.slot slot
    c.by_jump-fault.result.node node c.early_with-early.result c.by_jump-fault.ensures.slot
    c.by_jump-fault.ensures.node c.early_with-early.ensures.early))
    (subst (λ b. LooksOver list script start b (all_in slot (c.in-Some.next ∷ [])) c.early_with.result
    c.early_with.new.since) since
    (over-same list script start c.early_with-early.new.since c.early_with.new.since c.by_jump-second.result.slot slot
    c.by_jump-second.result.node c.in-Some.next c.early_with.result c.by_jump-second.ensures.slot
    c.by_jump-second.ensures.node c.early_with.ensures.early))

pub returns-in-None-clause-early : goal.returns-in-None-clause-early
returns-in-None-clause-early c =
    let list = c.args.list.now in
    let script = c.args.script.now in
    let start = told_start c.args.start in
    let slot = c.args.slot in
    let node = c.args.node in
    let jumped = c.args.faults.now.jumped in
    let jumps : ℕ → Bool = jumps_now script (faulty_in list script start slot) slot in
    let others : without_node jumped node ≡ drop 1 jumped =
    ap (λ s. without_node s node) c.requires.faults.jumped
    ∙ without-first jumps (length list.slots) node (drop 1 jumped)
    (sym c.requires.faults.jumped ∙ headed jumped node c.requires.first) in
    let none : slice_get (without_node jumped node) 0 ≡ None = search rules in
    let nobody : drop 1 jumped ≡ [] = nil_from_first (drop 1 jumped) (ap (λ s. slice_get s 0) (sym others) ∙ none) in
    jump-alone list script start c.args.since.now c.early_with-early.new.since
    slot node jumped c.early_with-early.result
    c.requires.first nobody (search rules)
    (over-same list script start c.args.since.now c.early_with-early.new.since c.by_jump-fault.result.slot slot
    c.by_jump-fault.result.node node c.early_with-early.result c.by_jump-fault.ensures.slot
    c.by_jump-fault.ensures.node c.early_with-early.ensures.early)
