use Rattle.std.proofs.Common.{◌≡◌, ℕ, ◌<◌, length, get_or, None, ap, sym, ◌∙◌, rules, arith}
use Rattle.std.proofs.lemmas.List.{length-set}
use Rattle.ttp_base.specs.NodeSet.{most_nodes}
use Rattle.ttp_world.proofs.Lists.{nodes}
use Rattle.broken_rules.proofs.FromBelow.{with_found}
use Rattle.broken_rules.specs.Jumps.{jump_slot}
use Rattle.broken_rules.proofs.FirstJumps.{no_jump, kept-jump, jumps-next}
use Rattle.broken_rules.proofs.jumps.first_jumps.Goals as goal
use Rattle.broken_rules.proofs.jumps.first_jumps.Goals.{in-Jump, in_default}

pub loop-event-preserved : goal.loop-event-preserved
loop-event-preserved c =
    let events = c.args.script.now.events in
    let i = c.loop-event.event-index in
    let old = c.loop-event.slots in
    let less : i < length events = search rules in
    let here : get_or events i c.event-item.result ≡ c.event-item.result = search rules in
    let room : length c.match-event.slots ≡ most_nodes =
    elim c.match-event.branch [
      | in-Jump w ↦ ap length w.slots-is ∙ length-set old _ _ ∙ c.loop-event.invariant.room
      | in_default w ↦ ap length w.slots-is ∙ c.loop-event.invariant.room
    ] in
    let new : (k : ℕ) → get_or c.match-event.slots k None
    ≡ with_found (jump_slot k c.event-item.result) (get_or old k None) =
    λ k. elim c.match-event.branch [
      | in-Jump w ↦
          let small : w.in-Jump.node < most_nodes = search (rules, nodes) in
          let room' = c.loop-event.invariant.room in
          ap (λ s. get_or s k None) w.slots-is
          ∙ kept-jump old w.in-Jump.node w.in-Jump.slot w.lesser.result k (omega (arith, small, room')) (search rules)
          ∙ ap (λ e. with_found (jump_slot k e) (get_or old k None)) (sym w.in-Jump.is)
      | in_default w ↦
          ap (λ s. get_or s k None) w.slots-is
          ∙ ap (λ found. with_found found (get_or old k None))
          (sym (no_jump c.event-item.result w.in_default.not-Jump k))
    ] in
    record {
      room = room;
      left = λ k small. jumps-next k events i c.event-item.result
          (get_or old k None) (get_or c.match-event.slots k None) _
          less here (new k) (c.loop-event.invariant.left k small);
    }
