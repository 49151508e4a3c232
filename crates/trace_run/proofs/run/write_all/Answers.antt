use Rattle.std.proofs.Common.{◌∙◌, ◌+◌, Some, None, take, drop, sym, ap, subst, arith}
use Rattle.std.specs.Prelude.{option_map}
use Rattle.std.specs.List.{filter_map}
use Rattle.std.proofs.lemmas.List.{append-nil, take_all}
use Rattle.ttp_world.specs.Script.{host_write, write_at, writes_in}
use Rattle.ttp_world.proofs.HostMessages.{valid_write_at}
use Rattle.trace_run.proofs.FromBelow.{split_at, taken}
use Rattle.trace_run.proofs.Writes.{HasCounted, counted-all, counted-along, counted-more, counted-none, small-number}
use Rattle.trace_run.proofs.run.write_all.Goals as goal
use Rattle.trace_run.proofs.run.write_all.Goals.{in-Some, in_default}

pub loop-at-init : goal.loop-at-init
loop-at-init c = record {
  few = omega arith;
  has = counted-none c.args.outgoing.now c.args.list.now c.args.script.now c.args.slot c.requires.chosen;
}

pub write-requires-in-Some-clause-newest : goal.write-requires-in-Some-clause-newest
write-requires-in-Some-clause-newest c =
    let write = valid_write_at c.args.list.now c.args.script.now _ (host_write c.in-Some.written) c.requires.script
    (sym c.in-Some.ensures) in
    omega (arith, write.node, c.loop-at.invariant.has.written.hosts)

pub write-requires-in-Some-clause-chosen : goal.write-requires-in-Some-clause-chosen
write-requires-in-Some-clause-chosen c =
    let write = valid_write_at c.args.list.now c.args.script.now _ (host_write c.in-Some.written) c.requires.script
    (sym c.in-Some.ensures) in
    omega (arith, write.node, c.loop-at.invariant.has.written.nodes)

pub write-requires-in-Some-clause-few : goal.write-requires-in-Some-clause-few
write-requires-in-Some-clause-few c =
    let script = c.args.script.now in
    let at = write_at script in
    let places = c.writes-places.result.now in
    let i = c.loop-at.at-index in
    let w = host_write c.in-Some.written in
    let write = valid_write_at c.args.list.now script _ w c.requires.script (sym c.in-Some.ensures) in
    small-number c.loop-at.outgoing c.args.list.now script c.args.slot c.loop-at.count
    (filter_map at (take i places)) (filter_map at (drop (i + 1) places)) w c.loop-at.invariant.has write.node
    (sym c.writes-places.ensures ∙ split_at at places i 0 w c.loop-at-test.true (sym c.in-Some.ensures))
    c.requires.list c.requires.script (omega arith)

pub loop-at-preserved : goal.loop-at-preserved
loop-at-preserved c =
    let list = c.args.list.now in
    let script = c.args.script.now in
    let at = write_at script in
    let places = c.writes-places.result.now in
    let i = c.loop-at.at-index in
    let few = c.loop-at.invariant.few in
    elim c.match-write.branch [
      | in-Some v ↦
          let w = host_write v.in-Some.written in
          let write = valid_write_at list script _ w c.requires.script (sym v.in-Some.ensures) in
          let count = v.count-is in
          record {
            few = omega (arith, few, count);
            has = counted-along list script c.args.slot
                (taken at places i 0 (Some w) c.loop-at-test.true (sym v.in-Some.ensures)) v.outgoing-is v.count-is
                (counted-more c.loop-at.outgoing list script c.args.slot c.loop-at.count (filter_map at (take i places))
                (filter_map at (drop (i + 1) places)) w c.loop-at.invariant.has write.node
                (sym c.writes-places.ensures ∙ split_at at places i 0 w c.loop-at-test.true (sym v.in-Some.ensures))
                v.write-in-Some.new.self v.write-in-Some.result v.write-in-Some.ensures.number
                v.write-in-Some.ensures.newest v.write-in-Some.ensures.chosen);
          }
      | in_default v ↦
          let count = v.count-is in
          record {
            few = omega (arith, few, count);
            has = counted-along list script c.args.slot
                (taken at places i 0 None c.loop-at-test.true
                (sym c.write.ensures ∙ ap (option_map host_write) v.in_default.is)
                ∙ append-nil (filter_map at (take i places))) v.outgoing-is v.count-is c.loop-at.invariant.has;
          }
    ]

all_counted : (c : goal.After-loop-at)
    → HasCounted c.loop-at.outgoing c.args.list.now c.args.script.now c.args.slot c.loop-at.count
    (writes_in c.args.script.now c.args.slot)
all_counted c =
    let at = write_at c.args.script.now in
    let places = c.writes-places.result.now in
    subst (HasCounted c.loop-at.outgoing c.args.list.now c.args.script.now c.args.slot c.loop-at.count)
    (ap (filter_map at) (take_all c.loop-at.at-index places (omega arith)) ∙ c.writes-places.ensures)
    c.loop-at.invariant.has

pub returns-clause-holds : goal.returns-clause-holds
returns-clause-holds c =
    counted-all c.loop-at.outgoing c.args.list.now c.args.script.now c.args.slot c.loop-at.count (all_counted c)

pub returns-clause-count : goal.returns-clause-count
returns-clause-count c = (all_counted c).counted
