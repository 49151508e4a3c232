use Rattle.trace_check.proofs.Words.{◌≡◌, ◌<◌, length, refl, sym, subst, arith, Incoming, row_after}
use Rattle.trace_check.proofs.Settled.{TellsPayloads, TellsStatuses, all-settled, none-settled}
use Rattle.trace_check.proofs.SettledLoop.{HasDelivered, delivers-none, delivers-some, number-small, settled-next}
use Rattle.trace_check.proofs.Shown.{place_within, sender-of}
use Rattle.trace_check.proofs.hosts.settle.Goals as goal
use Rattle.trace_check.proofs.hosts.settle.Goals.{in-Some, in_default}

pub loop-node-init : goal.loop-node-init
loop-node-init c =
    let list = c.args.list.now in
    record {
      places = c.requires.past.ended.rings.places;
      floors = refl;
      payloads = λ script history chosen ended.
          (none-settled list script (row_after list script history chosen) history c.args.incoming.now ended.rings).0;
      statuses = λ script history chosen ended.
          (none-settled list script (row_after list script history chosen) history c.args.incoming.now ended.rings).1;
    }

sender_in : (c : goal.After-deliver-arg-1) → c.in-Some.delivered.now.sender < length c.args.list.now.slots
sender_in c =
    sender-of c.args.plant.now c.args.incoming.now c.args.list.now c.args.slot c.loop-node.node
    c.in-Some.delivered.now (omega arith) c.in-Some.ensures c.requires.past

pub deliver-requires-clause-place : goal.deliver-requires-clause-place
deliver-requires-clause-place c =
    place_within c.loop-node.incoming c.args.list.now c.loop-node.node c.in-Some.delivered.now.sender
    c.loop-node.invariant.places (omega arith) (sender_in c)

pub deliver-requires-clause-few : goal.deliver-requires-clause-few
deliver-requires-clause-few c = λ message at.
    number-small c.args.plant.now c.args.incoming.now c.loop-node.incoming c.args.list.now c.loop-node.node
    c.loop-node.invariant (omega arith) c.args.slot c.in-Some.delivered.now.sender message c.requires.past (sender_in c)
    at

pub loop-node-preserved : goal.loop-node-preserved
loop-node-preserved c =
    let plant = c.args.plant.now in
    let first = c.args.incoming.now in
    let old = c.loop-node.incoming in
    let mid = c.match-delivered.incoming in
    let list = c.args.list.now in
    let node = c.loop-node.node in
    let has = c.loop-node.invariant in
    let within : node < length list.slots = omega arith in
    let delivered : HasDelivered plant first old mid list node =
    elim c.match-delivered.branch [
      | in-Some w ↦
          subst (λ (new : Incoming). HasDelivered plant first old new list node) (sym w.incoming-is)
          (delivers-some plant first old list node has within w.deliver.new.self w.in-Some.delivered.now
          w.in-Some.ensures
          (sender-of plant first list c.args.slot node w.in-Some.delivered.now within w.in-Some.ensures c.requires.past)
          w.deliver.ensures.nodes w.deliver.ensures.statuses w.deliver.ensures.floors w.deliver.ensures.payloads)
      | in_default w ↦
          subst (λ (new : Incoming). HasDelivered plant first old new list node) (sym w.incoming-is)
          (delivers-none plant first old list node has within w.in_default.ensures)
    ] in
    settled-next plant first old list node has within mid c.publish.new.self c.status.result delivered
    c.status.ensures c.publish.ensures.nodes c.publish.ensures.payloads c.publish.ensures.floors
    c.publish.ensures.statuses

pub returns-clause-rings : goal.returns-clause-rings
returns-clause-rings c = λ script history chosen ended.
    let list = c.args.list.now in
    let row = row_after list script history chosen in
    let has = c.loop-node.invariant in
    let count : c.loop-node.node ≡ length list.slots = omega arith in
    all-settled list script row history c.loop-node.incoming has.places
    (subst (TellsPayloads list script row history c.loop-node.incoming) count
    (has.payloads script history chosen ended))
    (subst (TellsStatuses list script row history c.loop-node.incoming) count
    (has.statuses script history chosen ended))

pub returns-clause-floors : goal.returns-clause-floors
returns-clause-floors c = c.loop-node.invariant.floors
