use Rattle.std.proofs.Common.{ℕ, List, arith, filter, length, refl, ap, subst, sym, ◌∙◌}
use Rattle.causes.specs.LinesOf.{noisy_in, remaining_in, spots_in}
use Rattle.causes.specs.Missed.{noise_reason}
use Rattle.causes.specs.Sources.{by_entries, by_line, only_entries}
use Rattle.causes.specs.declared.cause.Miss.TheVariants as miss
use Rattle.entry_causes.proofs.Reasons.{reason-same}
use Rattle.run_looks.specs.Added.{AddsSources}
use Rattle.ttp_base.specs.NodeSet.{below, has_node}
use Rattle.ttp_world.proofs.Lists.{nodes-most}
use Rattle.ttp_world.specs.declared.medl.Medl.{Medl}
use Rattle.run_rows.specs.Rows.{run_slot}
use Rattle.entry_causes.proofs.missed.add_noise_reason.Goals as goal

pub returns-in_ok-add_line-in-Some : goal.returns-in_ok-add_line-in-Some
returns-in_ok-add_line-in-Some c =
    let s = run_slot c.args.run.now c.args.slot in
    reason-same _ c.args.out.now c.add_line.new.self (by_line miss.Noisy c.in-Some.line)
    (noise_reason s c.args.channel (noisy_in c.args.node s c.args.channel))
    (ap (noise_reason s c.args.channel) c.in-Some.ensures) (refl, c.in_ok-add_line-in-Some.ensures)

pub nodes_of-requires-clause-few : goal.nodes_of-requires-clause-few
nodes_of-requires-clause-few c =
    omega (
      arith,
      c.nodes.ensures,
      ap (λ (l : Medl). length l.slots) c.list.ensures.value,
      nodes-most c.args.run.now.list c.list.ensures.valid,
    )

pub nodes_of-requires-clause-set : goal.nodes_of-requires-clause-set
nodes_of-requires-clause-set c =
    c.remaining_in-remaining.ensures.nodes
    ∙ ap (λ (n : ℕ). filter (has_node c.remaining_in-remaining.result) (below n))
    (sym (c.nodes.ensures ∙ ap (λ (l : Medl). length l.slots) c.list.ensures.value))

pub returns-in_ok-nodes_of-in-None : goal.returns-in_ok-nodes_of-in-None
returns-in_ok-nodes_of-in-None c =
    let s = run_slot c.args.run.now c.args.slot in
    let ch = c.args.channel in
    let nodes = c.remaining_in-remaining.ensures.value in
    reason-same _ c.args.out.now c.add_spots.new.out
    (by_entries (miss.Collision (remaining_in ch s)) (spots_in s (remaining_in ch s)))
    (noise_reason s ch (noisy_in c.args.node s ch)) (ap (noise_reason s ch) c.in-None.ensures) (
      (λ i. miss.Collision ((c.in_ok-nodes_of-in-None.ensures ∙ nodes) i)),
      subst (λ (all : List ℕ). AddsSources c.args.out.now c.add_spots.new.out (only_entries (spots_in s all))) nodes
          c.in_ok-add_spots-in-None.ensures,
    )
