use Rattle.std.proofs.Common.{◌≡◌, ◌+◌, true}
use Rattle.std.specs.Prelude.{nat_lt}
use Rattle.std.proofs.lemmas.Bool.{lt-ltb}
use Rattle.whole_trace.proofs.HostFronts.{step-later, node-later}
use Rattle.whole_trace.proofs.place.later_node.Goals as goal

pub returns-in-Some-clause-step : goal.returns-in-Some-clause-step
returns-in-Some-clause-step c =
    let head = c.args.head in
    let slot = c.args.slot in
    let behind = c.in-Some.found.1 in
    let less : nat_lt (slot + 1) head.slots ≡ true = lt-ltb (slot + 1) head.slots c.if-head-slot-2.false in
    let step = c.in-Some.ensures.step in
    (step.0, step-later head slot c.args.has_read c.args.rest.now behind.rest.now step.0 behind.due less step.1)

pub returns-in-Some-clause-node : goal.returns-in-Some-clause-node
returns-in-Some-clause-node c =
    let head = c.args.head in
    let slot = c.args.slot in
    let behind = c.in-Some.found.1 in
    let less : nat_lt (slot + 1) head.slots ≡ true = lt-ltb (slot + 1) head.slots c.if-head-slot-2.false in
    let step = c.in-Some.ensures.step in
    node-later head slot c.args.has_read c.args.rest.now behind.rest.now step.0 c.in-Some.found.0 behind.due less step.1
    c.in-Some.ensures.node
