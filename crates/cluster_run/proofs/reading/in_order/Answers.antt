use Rattle.cluster_run.proofs.Words.{◌≡◌, ◌+◌, ◌∷◌, ◌++◌, take, drop, map, get_or, sym, ap, ◌∙◌, arith, vec_len}
use Rattle.cluster_run.proofs.Words.{vec_capacity, take_more, take-append-drop, HostRead, into_iter_items, take_all}
use Rattle.cluster_run.proofs.Words.{drop_more}
use Rattle.cluster_run.proofs.Lines.{line_taken, line_there, all_in_order}
use Rattle.cluster_run.proofs.reading.in_order.Goals.{in-Some, in_default}
use Rattle.ttp_world.specs.declared.script.Source.TheVariants as source
use Rattle.cluster_run.proofs.reading.in_order.Goals as goal

pub loop-read-preserved : goal.loop-read-preserved
loop-read-preserved c =
    let reads = c.args.reads.now in
    let i = c.loop-read.read-index in
    let d : HostRead = record { host = 0; source = source.Status } in
    let r = get_or reads i d in
    let done = take i reads in
    let rest = drop (i + 1) reads in
    let whole = map into_iter_items c.args.queues.now in
    let after = map into_iter_items c.next_line.new.queues in
    let so = c.loop-read.invariant.ordered in
    let split : reads ≡ done ++ r ∷ rest =
    sym (take-append-drop i reads) ∙ ap (λ xs. done ++ xs) (drop_more reads i d c.loop-read-test.true) in
    elim c.match-next_line.branch [
      | in-Some w ↦ record {
        ordered = λ due.
            rw (ap (λ v. v.items) w.lines-is ∙ w.push_reserved.ensures.items, take_more reads i d c.loop-read-test.true)
            (line_taken r rest split due (so due) w.in-Some.line w.in-Some.ensures.first w.in-Some.ensures.others);
        queues = w.in-Some.ensures.count ∙ c.loop-read.invariant.queues;
        count = omega (arith, ap vec_len w.lines-is, w.push_reserved.ensures.len, c.loop-read.invariant.count);
        room = ap vec_capacity w.lines-is ∙ w.push_reserved.ensures.capacity ∙ c.loop-read.invariant.room;
      }
      | in_default w ↦ record {
        ordered = λ due. absurd (line_there r rest split due (so due) w.in_default.ensures.none);
        queues = w.in_default.ensures.count ∙ c.loop-read.invariant.queues;
        count = omega (arith, ap vec_len w.lines-is, c.loop-read.invariant.count);
        room = ap vec_capacity w.lines-is ∙ c.loop-read.invariant.room;
      }
    ]

pub returns-clause-reads : goal.returns-clause-reads
returns-clause-reads c = λ due.
    (c.loop-read.invariant.ordered due).told ∙ take_all c.loop-read.read-index c.args.reads.now c.loop-read-test.false

pub returns-clause-lines : goal.returns-clause-lines
returns-clause-lines c = λ due.
    all_in_order due (rw (take_all c.loop-read.read-index c.args.reads.now c.loop-read-test.false)
    at (c.loop-read.invariant.ordered due))
