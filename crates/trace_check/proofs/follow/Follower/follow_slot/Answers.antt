use Rattle.trace_check.proofs.Words.{refl, sym, subst, arith, world, length-world, HoldsNewest}
use Rattle.trace_check.proofs.Labels.{passed_up}
use Rattle.trace_check.proofs.SlotFollowed.{departs-nodes, departs-reads, departs-writes, ended, ended-with}
use Rattle.trace_check.proofs.SlotFollowed.{goes-on-to, has-chosen, may-step, past, past-with, slots-of}
use Rattle.trace_check.proofs.follow.Follower.follow_slot.Goals as goal

pub choose-requires-clause-holds : goal.choose-requires-clause-holds
choose-requires-clause-holds c =
    subst (HoldsNewest c.args.self.now.outgoing c.args.list.now c.args.script.now) c.requires.stands.count
    c.requires.stands.stands.outgoing

pub slot-requires-clause-slot : goal.slot-requires-clause-slot
slot-requires-clause-slot c =
    omega (
      arith,
      c.requires.stands.stands.plant.slot,
      c.requires.stands.count,
      length-world c.args.list.now c.args.script.now c.requires.stands.numbers,
      c.requires.slot,
    )

pub slot-requires-clause-chosen : goal.slot-requires-clause-chosen
slot-requires-clause-chosen c =
    let at = c.requires.stands in
    may-step c.args.list.now c.args.script.now c.requires.list c.requires.script c.args.slot c.args.text.now
    c.args.self.now c.choose.new.self c.choose.ensures c.chosen.result.now c.chosen.ensures at.numbers at.legal
    at.stands (sym at.count)

pub follow_nodes-requires-clause-past : goal.follow_nodes-requires-clause-past
follow_nodes-requires-clause-past c =
    let at = c.requires.stands in
    past c.args.list.now c.args.script.now c.requires.list c.requires.script c.args.slot c.args.text.now
    c.args.self.now c.choose.new.self c.choose.ensures c.chosen.result.now c.chosen.ensures at.numbers at.legal
    at.stands (sym at.count) c.slot.new.self c.slot.ensures.steps c.slot.ensures.list
    (omega (arith, c.requires.slot, c.requires.script.slots))

pub follow_writes-requires-clause-chosen : goal.follow_writes-requires-clause-chosen
follow_writes-requires-clause-chosen c =
    has-chosen c.choose.new.self c.args.list.now c.args.script.now c.args.slot c.args.text.now c.choose.ensures

pub follow_reads-requires-clause-past : goal.follow_reads-requires-clause-past
follow_reads-requires-clause-past c =
    let at = c.requires.stands in
    past c.args.list.now c.args.script.now c.requires.list c.requires.script c.args.slot c.args.text.now
    c.args.self.now c.choose.new.self c.choose.ensures c.chosen.result.now c.chosen.ensures at.numbers at.legal
    at.stands (sym at.count) c.slot.new.self c.slot.ensures.steps c.slot.ensures.list
    (omega (arith, c.requires.slot, c.requires.script.slots))

pub settle-requires-clause-past : goal.settle-requires-clause-past
settle-requires-clause-past c =
    let at = c.requires.stands in
    past-with c.args.list.now c.args.script.now c.requires.list c.requires.script c.args.slot c.args.text.now
    c.args.self.now c.choose.new.self c.choose.ensures c.chosen.result.now c.chosen.ensures at.numbers at.legal
    at.stands (sym at.count) c.slot.new.self c.slot.ensures.steps c.slot.ensures.list c.follow_reads.new.incoming
    (omega (arith, c.requires.slot, c.requires.script.slots))
    (c.in_ok-rest-3.ensures.rings (world c.args.list.now c.args.script.now at.numbers) at.stands.incoming)

pub returns-clause-ok : goal.returns-clause-ok
returns-clause-ok c = λ numbers legal stands.
    let list = c.args.list.now in
    let script = c.args.script.now in
    let count = slots-of c.args.self.now list script c.args.slot numbers c.requires.stands stands in
    let history = world list script numbers in
    let chosen = c.chosen.result.now in
    let here = ended list script c.requires.list c.requires.script c.args.slot c.args.text.now c.args.self.now
    c.choose.new.self c.choose.ensures chosen c.chosen.ensures numbers legal stands count c.slot.new.self
    c.slot.ensures.steps c.slot.ensures.list in
    let mid = c.follow_reads.new.incoming in
    let rings = c.in_ok-rest-3.ensures.rings history stands.incoming in
    let after = ended-with list script c.requires.list c.requires.script c.args.slot c.args.text.now c.args.self.now
    c.choose.new.self c.choose.ensures chosen c.chosen.ensures numbers legal stands count c.slot.new.self
    c.slot.ensures.steps c.slot.ensures.list mid rings in
    goes-on-to list script c.requires.list c.requires.script c.args.slot c.args.text.now c.args.self.now
    c.choose.new.self c.choose.ensures chosen c.chosen.ensures numbers legal stands count c.slot.new.self
    c.slot.ensures.steps c.slot.ensures.list _ mid c.in_ok-rest.rest.now c.in_ok-rest-2.rest.now
    c.in_ok-rest-3.rest.now refl (c.in_ok-rest.ensures.ok script history chosen here) c.in_ok-rest-2.ensures.ok
    (c.in_ok-rest-3.ensures.ok history chosen here stands.floors) c.in_ok-rest-2.ensures.holds
    (c.settle.ensures.rings script history chosen after) rings.places.nodes c.settle.ensures.floors
    (c.in_ok-rest-3.ensures.floors history chosen here stands.floors)

pub returns-in_err-rest-2-clause-wrong : goal.returns-in_err-rest-2-clause-wrong
returns-in_err-rest-2-clause-wrong c = λ numbers legal stands.
    let list = c.args.list.now in
    let script = c.args.script.now in
    let count = slots-of c.args.self.now list script c.args.slot numbers c.requires.stands stands in
    let history = world list script numbers in
    let chosen = c.chosen.result.now in
    let here = ended list script c.requires.list c.requires.script c.args.slot c.args.text.now c.args.self.now
    c.choose.new.self c.choose.ensures chosen c.chosen.ensures numbers legal stands count c.slot.new.self
    c.slot.ensures.steps c.slot.ensures.list in
    passed_up c.from_residual-in_err-rest-2.result c.in_err-rest-2.field-0.0 _ c.from_residual-in_err-rest-2.ensures.1
    (departs-writes list script c.requires.list c.requires.script c.args.slot c.args.text.now c.args.self.now
    c.choose.new.self c.choose.ensures chosen c.chosen.ensures numbers legal stands count c.slot.new.self
    c.slot.ensures.steps c.slot.ensures.list c.in_ok-rest.rest.now c.in_err-rest-2.field-0.0.text.now
    (c.in_ok-rest.ensures.ok script history chosen here) c.in_err-rest-2.ensures.wrong)

pub returns-in_err-rest-clause-wrong : goal.returns-in_err-rest-clause-wrong
returns-in_err-rest-clause-wrong c = λ numbers legal stands.
    let list = c.args.list.now in
    let script = c.args.script.now in
    let count = slots-of c.args.self.now list script c.args.slot numbers c.requires.stands stands in
    let history = world list script numbers in
    let chosen = c.chosen.result.now in
    let here = ended list script c.requires.list c.requires.script c.args.slot c.args.text.now c.args.self.now
    c.choose.new.self c.choose.ensures chosen c.chosen.ensures numbers legal stands count c.slot.new.self
    c.slot.ensures.steps c.slot.ensures.list in
    passed_up c.from_residual.result c.in_err-rest.field-0.0 _ c.from_residual.ensures.1
    (departs-nodes list script c.requires.list c.requires.script c.args.slot c.args.text.now c.args.self.now
    c.choose.new.self c.choose.ensures chosen c.chosen.ensures numbers legal stands count c.slot.new.self
    c.slot.ensures.steps c.slot.ensures.list c.in_err-rest.field-0.0.text.now c.requires.slot
    (c.in_err-rest.ensures.wrong script history chosen here))

pub returns-in_err-rest-3-clause-wrong : goal.returns-in_err-rest-3-clause-wrong
returns-in_err-rest-3-clause-wrong c = λ numbers legal stands.
    let list = c.args.list.now in
    let script = c.args.script.now in
    let count = slots-of c.args.self.now list script c.args.slot numbers c.requires.stands stands in
    let history = world list script numbers in
    let chosen = c.chosen.result.now in
    let here = ended list script c.requires.list c.requires.script c.args.slot c.args.text.now c.args.self.now
    c.choose.new.self c.choose.ensures chosen c.chosen.ensures numbers legal stands count c.slot.new.self
    c.slot.ensures.steps c.slot.ensures.list in
    passed_up c.from_residual-in_err-rest-3.result c.in_err-rest-3.field-0.0 _ c.from_residual-in_err-rest-3.ensures.1
    (departs-reads list script c.requires.list c.requires.script c.args.slot c.args.text.now c.args.self.now
    c.choose.new.self c.choose.ensures chosen c.chosen.ensures numbers legal stands count c.slot.new.self
    c.slot.ensures.steps c.slot.ensures.list c.in_ok-rest.rest.now c.in_ok-rest-2.rest.now
    c.in_err-rest-3.field-0.0.text.now c.requires.slot (c.in_ok-rest.ensures.ok script history chosen here)
    c.in_ok-rest-2.ensures.ok (c.in_err-rest-3.ensures.wrong history chosen here stands.floors))
