use Rattle.hypothesis.proofs.Words.{◌≡◌, ℕ, ◌+◌, ◌<◌, List, length, get_or, take, ap, sym, subst, ◌∙◌, rules, arith}
use Rattle.hypothesis.proofs.Words.{length-set, most_nodes, is_jump_before, AreFirstJumps}
use Rattle.ttp_world.proofs.Lists.{nodes}
use Rattle.hypothesis.proofs.FirstJumps.{first_jumps-other, first_jumps-earlier, first_jumps-later}
use Rattle.hypothesis.proofs.outside.first_jumps.Goals as goal
use Rattle.hypothesis.proofs.outside.first_jumps.Goals.{in-Jump+then-slot-slots, in-Jump+else-slot-slots, in_default}

pub loop-event-preserved : goal.loop-event-preserved
loop-event-preserved c =
    let events = c.args.script.now.events in
    let i = c.loop-event.event-index in
    let kept = c.loop-event.invariant in
    let Kept : List ℕ → Type 0 = λ slots. (length slots ≡ most_nodes) × AreFirstJumps (take (i + 1) events) slots in
    let less : i < length events = search rules in
    let here : get_or events i c.event-item.result ≡ c.event-item.result = search rules in
    elim c.match-event.branch [
      | in-Jump+then-slot-slots w ↦
          let small : w.in-Jump.node < most_nodes = search (rules, nodes) in
          subst Kept (sym w.slots-is) (
            length-set c.loop-event.slots w.in-Jump.node w.in-Jump.slot ∙ kept.0,
            first_jumps-earlier events i c.event-item.result c.loop-event.slots w.in-Jump.node w.in-Jump.slot less here
                (λ k slot. ap (is_jump_before k slot) w.in-Jump.is) (omega (arith, small)) (search rules) kept.1,
          )
      | in-Jump+else-slot-slots w ↦
          subst Kept (sym w.slots-is) (
            kept.0,
            first_jumps-later events i c.event-item.result c.loop-event.slots w.in-Jump.node w.in-Jump.slot less here
                (λ k slot. ap (is_jump_before k slot) w.in-Jump.is) (search rules) kept.1,
          )
      | in_default w ↦
          subst Kept (sym w.slots-is) (
            kept.0,
            first_jumps-other events i c.event-item.result c.loop-event.slots less here w.in_default.not-Jump kept.1,
          )
    ]
