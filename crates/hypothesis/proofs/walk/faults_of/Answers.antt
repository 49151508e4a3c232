use Rattle.hypothesis.proofs.Words.{◌≡◌, ℕ, ◌+◌, ◌-◌, ◌%◌, ◌<◌, ◌≤◌, length, ap, ◌∙◌, arith, most_nodes, Medl, IsValid}
use Rattle.hypothesis.proofs.Words.{ClusterStart, numbers_of, nodes_made, is_breaking, loss_in, expected_sender}
use Rattle.hypothesis.proofs.Words.{nodes-most, told_start, told_loss}
use Rattle.std.proofs.Common.{mod-lt}
use Rattle.hypothesis.proofs.SlotSteps.{fallen-same, same_jumpers, same_loss, faulty-next, count-next, count-fits}
use Rattle.hypothesis.proofs.walk.faults_of.Goals as goal

sender-small : (list : Medl) (start : ClusterStart) (slot : ℕ) → IsValid list
    → expected_sender list start slot < most_nodes
sender-small list start slot valid =
    let below : (start.node + (slot - start.slot)) % length list.slots < length list.slots =
    mod-lt (start.node + (slot - start.slot)) (omega (arith, valid.count)) in
    let few = nodes-most list valid in
    omega (arith, below, few)

pub overflow_add-result : goal.overflow_add-result
overflow_add-result c =
    let list = c.args.list.now in
    let few : length list.slots ≤ most_nodes = nodes-most list c.requires.valid in
    let fits =
    count-fits list c.args.script.now c.args.faulty c.nodes_made-made.result c.jumpers_in-jumpers.result c.args.slot
    (told_loss c.loss_in-loss.result) few c.nodes_made-made.ensures c.jumpers_in-jumpers.ensures in
    omega (arith, fits, c.count.ensures, c.count-2.ensures)

pub returns : goal.returns
returns c = λ so_far same.
    let list = c.args.list.now in
    let script = c.args.script.now in
    let start = told_start c.args.start in
    let slot = c.args.slot in
    let before = numbers_of so_far in
    let few : length list.slots ≤ most_nodes = nodes-most list c.requires.valid in
    let fell =
    fallen-same list script c.args.faulty before c.jumpers_in-jumpers.result c.united-fallen.result slot few same
    c.jumpers_in-jumpers.ensures c.united-fallen.ensures in
    let loss : told_loss c.loss_in-loss.result ≡ loss_in list script start before slot =
    c.loss_in-loss.ensures.value ∙ same_loss list script start before c.united-fallen.result slot few
    (sender-small list start slot c.requires.valid) fell in
    let made = c.nodes_made-made.ensures ∙ ap nodes_made loss in
    let jumped = c.jumpers_in-jumpers.ensures ∙ same_jumpers list script c.args.faulty before slot few same in
    record {
      before = same;
      jumped = jumped;
      made = made;
      faulty =
          faulty-next list script start slot so_far c.nodes_made-made.result c.united-fallen.result c.united.result
          made fell c.united.ensures;
      count = (λ i. c.count.ensures i + c.count-2.ensures i)
          ∙ count-next list script start slot so_far c.nodes_made-made.result c.jumpers_in-jumpers.result made
          jumped;
      breaks = c.is_breaking.ensures ∙ ap is_breaking loss;
    }
