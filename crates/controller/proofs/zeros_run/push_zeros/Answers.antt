use Rattle.controller.proofs.Words.{◌≡◌, ap, sym, ◌∙◌, ◌++◌, [], ◌∷◌, arith, Some}
use Rattle.ttp_world.specs.ZerosWorld.{zeros_chosen}
use Rattle.ttp_base.specs.NodeSet.{below}
use Rattle.std.specs.Prelude.{map, slice_get}
use Rattle.std.proofs.Common.{append_assoc}
use Rattle.std.proofs.lemmas.List.FromFn.{map-range_with_len_more}
use Rattle.ttp_world.proofs.ZerosWorlds.{zeros_chosen-plan}
use Rattle.ttp_world.proofs.WorldFacts.{payload_few}
use Rattle.controller.proofs.zeros_run.push_zeros.Goals as goal

pub zeros-payload-requires : goal.zeros-payload-requires
zeros-payload-requires c = payload_few c.args.list.now c.from.result c.get.result.now c.requires c.get.ensures

pub loop-node-preserved : goal.loop-node-preserved
loop-node-preserved c =
    let list = c.args.list.now in
    let node = c.loop-node.node in
    let plan = c.get.result.now in
    let old = c.args.messages.now in
    let at : slice_get list.slots node ≡ Some plan = ap (slice_get list.slots) (sym c.from.ensures) ∙ c.get.ensures in
    let new : record { number = 0; payload = c.zeros-payload.result }
    ≡ zeros_chosen list node = zeros_chosen-plan list node plan c.zeros-payload.result at c.zeros-payload.ensures in
    c.in_ok-push.ensures.ok ∙ (λ i. c.loop-node.invariant i ++ new i ∷ [])
    ∙ append_assoc old (map (zeros_chosen list) (below node)) (zeros_chosen list node ∷ [])
    ∙ ap (λ row. old ++ row) (sym (map-range_with_len_more (zeros_chosen list) 0 node node (omega arith)))
