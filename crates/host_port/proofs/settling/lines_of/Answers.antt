use Rattle.host_port.proofs.Names.{map, get_or, vec_len, vec_capacity, refl, ap, ◌∙◌, arith, false≢true, ReadLine}
use Rattle.host_port.proofs.Names.{into_iter_items}
use Rattle.std.proofs.lemmas.List.{get_or_default}
use Rattle.ttp_world.specs.declared.script.Source.TheVariants.{Status}
use Rattle.host_port.proofs.LineQueues.{next_some, lined_more}
use Rattle.host_port.proofs.settling.lines_of.Goals.{in-Some, in_default}
use Rattle.host_port.proofs.settling.lines_of.Goals as goal

pub next_pair-requires : goal.next_pair-requires
next_pair-requires c =
    let calls = c.args.calls.now in
    let i = c.loop-source.source-index in
    let from = get_or calls i Status in
    let queues = map into_iter_items c.loop-source.queues.items in
    let here = get_or_default calls i Status from c.loop-source-test.true in
    rw c.source_place.ensures
    (next_some calls i from queues c.loop-source-test.true here c.loop-source.invariant.lined.queued)

pub loop-source-preserved : goal.loop-source-preserved
loop-source-preserved c =
    let calls = c.args.calls.now in
    let i = c.loop-source.source-index in
    let from = get_or calls i Status in
    let whole = map into_iter_items c.args.queues.items in
    let before = map into_iter_items c.loop-source.queues.items in
    let after = map into_iter_items c.next_pair.new.queues.items in
    let here = get_or_default calls i Status from c.loop-source-test.true in
    elim c.match-next_pair.branch [
      | in-Some w ↦
          let line : ReadLine = record { host = c.args.host; source = from; pair = w.in-Some.pair } in
          let lined =
          lined_more {whole = whole} {before = before} {after = after} line c.loop-source.invariant.lined
          c.loop-source-test.true here refl (rw c.source_place.ensures at w.in-Some.ensures.first)
          (λ other apart. w.in-Some.ensures.others other (λ same. apart (same ∙ c.source_place.ensures))) in
          record {
            lined = rw (w.lines-is, w.push_reserved.ensures.items) lined;
            room = omega (arith, ap vec_len w.lines-is, w.push_reserved.ensures.len);
            whole = omega (arith, ap vec_capacity w.lines-is, w.push_reserved.ensures.capacity);
          }
      | in_default w ↦ absurd (false≢true w.in_default.ensures.some)
    ]
