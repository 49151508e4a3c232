use Rattle.host_port.proofs.Names.{None, length, get_or, sum_by, ap, ◌∙◌, sym, arith, zero-add, got_of, reads_at, lent}
use Rattle.host_port.proofs.Names.{source_place, calls_at, spare_of}
use Rattle.host_port.proofs.ReaderLists.{all_lent-at, all_lent-rings, all_lent-got}
use Rattle.host_port.proofs.ends.ControllerEnd.lend_reads.Goals as goal

pub invariant_of-result : goal.invariant_of-result
invariant_of-result c =
    let spare = ap (sum_by spare_of) c.as_slice.ensures.value in
    record {
      room = omega (arith, c.in_ok-calls.ensures.len, c.in_ok-calls.ensures.exact, c.in-Some.ensures, spare);
      counts = λ place. ap (calls_at place) c.in_ok-calls.ensures.items
          ∙ sym (ap (λ rs. length (got_of (get_or rs place None))) c.in_ok-readers.ensures.readers
          ∙ ap length (all_lent-got c.args.reads.now c.args.node c.as_mut_slice.result.now place));
    }

pub returns-clause-readers : goal.returns-clause-readers
returns-clause-readers c =
    let reads = c.args.reads.now in
    let node = c.args.node in
    let shown = c.as_mut_slice.ensures.value ∙ c.self.view_is in
    λ source.
    let place = source_place source in
    ap (λ rs. get_or rs place None) c.in_ok-readers.ensures.readers
    ∙ (all_lent-at reads node 0 c.as_mut_slice.result.now place place (zero-add place)
    ∙ ap (λ ws. lent (get_or ws place None) (reads_at reads node place)) shown)

pub returns-clause-own : goal.returns-clause-own
returns-clause-own c = rw (c.in_ok-readers.ensures.readers, ← c.self.view_is, ← c.as_mut_slice.ensures.value)
    (all_lent-rings c.args.reads.now c.args.node 0 c.as_mut_slice.result.now)
