use Rattle.std.proofs.Common.{◌≡◌, true, false, cond, ap, sym, ◌∙◌, rules}
use Rattle.ttp_base.specs.NodeSet.{has_node}
use Rattle.ttp_world.specs.Hypothesis.{nodes_made, loss_in, expected_sender}
use Rattle.hypothesis.specs.Standing.{told_start}
use Rattle.broken_faults.specs.Faults.{faulty_in, cause_of_loss, losers_in, may_cause_loss, place_of_first, is_jump_in}
use Rattle.broken_faults.proofs.causes.cause_of.Goals as goal

pub returns-then-not-fault : goal.returns-then-not-fault
returns-then-not-fault c =
    let list = c.args.list.now in
    let script = c.args.script.now in
    let start = told_start c.args.start in
    let slot = c.args.fault.now.slot in
    let node = c.args.fault.now.node in
    let faulty = faulty_in list script start slot in
    let lost : has_node (nodes_made (loss_in list script start faulty slot)) node ≡ false =
    sym c.requires.known.lost ∙ search rules in
    c.first_jump_in.ensures ∙ sym (ap (λ b. cond b
    (cause_of_loss list script faulty (expected_sender list start slot) slot)
    (place_of_first (is_jump_in node slot) script)) lost)

pub returns : goal.returns
returns c =
    let list = c.args.list.now in
    let script = c.args.script.now in
    let start = told_start c.args.start in
    let slot = c.args.fault.now.slot in
    let node = c.args.fault.now.node in
    let faulty = faulty_in list script start slot in
    let sender = c.expected_sender-sender.ensures.value in
    let lost : has_node (nodes_made (loss_in list script start faulty slot)) node ≡ true =
    sym c.requires.known.lost ∙ search rules in
    c.cause_of_loss.ensures
    ∙ (λ i. place_of_first (may_cause_loss (sender i)
    ((c.losers_in-lost.ensures ∙ (λ j. losers_in list script faulty (sender j) slot)) i) slot) script)
    ∙ sym (ap (λ b. cond b (cause_of_loss list script faulty (expected_sender list start slot) slot)
    (place_of_first (is_jump_in node slot) script)) lost)
