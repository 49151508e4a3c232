use Rattle.std.proofs.Common.{◌≡◌, ◌+◌, ◌<◌, length, subst, sym, ◌∙◌, arith}
use Rattle.std.specs.Prelude.{slice_index_or}
use Rattle.ttp_world.specs.ZerosWorld.{zeros_world}
use Rattle.run_rows.proofs.FromBelow.{next_row}
use Rattle.run_rows.proofs.Filled.{entry-at, kept-at, kept-more}
use Rattle.run_rows.proofs.OneMore.{kept-next, next-of_list, place-of_list}
use Rattle.run_rows.specs.Kept.{kept_next, kept_of}
use Rattle.run_rows.specs.declared.row.Kept.{Kept}
use Rattle.ttp_world.proofs.Lists.{nodes-most}
use Rattle.ttp_world.specs.After.{place_after}
use Rattle.ttp_world.specs.Diary.{Place, entry_of, joined_place}
use Rattle.ttp_world.specs.World.{node_past}
use Rattle.run_rows.proofs.kept.all_kept_after.Goals.{After-index-states-at}
use Rattle.run_rows.proofs.kept.all_kept_after.Goals as goal

less : (c : After-index-states-at) → c.loop-node.node < length c.args.list.now.slots
less c = omega (arith, c.loop-node-test.true, c.nodes-node-end.ensures)

-- what is kept of the node
kept-here : (c : After-index-states-at)
    → slice_index_or c.args.kept.now c.from-at.result c.index-kept-at.result
    ≡ kept_of (node_past c.args.list.now c.args.script.now (zeros_world c.args.list.now c.args.script.now c.args.slot)
    c.loop-node.node)
kept-here c =
    kept-at c.args.list.now c.args.script.now c.args.slot (length c.args.list.now.slots) c.from-at.result
    c.loop-node.node c.args.kept.now c.index-kept-at.result c.requires.kept
    (nodes-most c.args.list.now c.requires.list) c.from-at.ensures (less c)

-- what it did
entry-here : (c : After-index-states-at)
    → (slice_index_or c.states-states.result.now c.from-at.result c.index-states-at.result).entry
    ≡ entry_of (next_row c.args.list.now c.args.script.now c.args.slot) c.loop-node.node
entry-here c =
    entry-at c.args.list.now c.args.script.now c.args.slot c.from-at.result c.loop-node.node c.states-states.result.now
    c.index-states-at.result
    (c.states-states.ensures c.args.script.now (c.args.slot + 1) c.requires.run (omega arith)) c.from-at.ensures
    (less c)

pub kept_next-requires-clause-round : goal.kept_next-requires-clause-round
kept_next-requires-clause-round c =
    let here = (goal.at.kept_next-requires-clause-round c).After-index-states-at in
    subst (λ (k : Kept). k.place.round < c.args.list.now.rounds) (sym (kept-here here))
    (place-of_list c.args.list.now c.args.script.now c.args.slot c.loop-node.node c.requires.list (less here)).round

pub kept_next-requires-clause-slot : goal.kept_next-requires-clause-slot
kept_next-requires-clause-slot c =
    let here = (goal.at.kept_next-requires-clause-slot c).After-index-states-at in
    subst (λ (k : Kept). k.place.slot < length c.args.list.now.slots) (sym (kept-here here))
    (place-of_list c.args.list.now c.args.script.now c.args.slot c.loop-node.node c.requires.list (less here)).slot

pub kept_next-requires-clause-after : goal.kept_next-requires-clause-after
kept_next-requires-clause-after c =
    let here = (goal.at.kept_next-requires-clause-after c).After-index-states-at in
    subst (λ (p : Place). p.slot < length c.args.list.now.slots)
    (sym (λ i. place_after c.args.list.now c.loop-node.node
    (joined_place (kept-here here i).place) (entry-here here i)))
    (next-of_list c.args.list.now c.args.script.now c.args.slot c.loop-node.node c.requires.list (less here)).slot

pub loop-node-preserved : goal.loop-node-preserved
loop-node-preserved c =
    let here = (goal.at.loop-node-preserved c).After-index-states-at in
    let node = c.loop-node.node in
    kept-more c.args.list.now c.args.script.now (c.args.slot + 1) node c.from-at.result c.loop-node.after
    c.kept_next.result c.from-at.ensures
    (omega (arith, less here, nodes-most c.args.list.now c.requires.list)) c.loop-node.invariant
    (c.kept_next.ensures
    ∙ (λ i. kept_next c.args.list.now node (kept-here here i) (entry-here here i))
    ∙ sym (kept-next c.args.list.now c.args.script.now c.args.slot node (less here)))
