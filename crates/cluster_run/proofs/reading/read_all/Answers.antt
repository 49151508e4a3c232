use Rattle.cluster_run.proofs.Words.{None, get_or, subst, HostRead, reader_in, at_any, IsLeft}
use Rattle.cluster_run.proofs.ReadAll.{IsNextRead, left_at, within_at, read_next}
use Rattle.ttp_world.specs.declared.script.Source.TheVariants as source
use Rattle.cluster_run.proofs.reading.read_all.Goals as goal

abbrev first : HostRead
first = record { host = 0; source = source.Status }

pub bounds-readers-k : goal.bounds-readers-k
bounds-readers-k g c =
    let next : IsNextRead c.args.reads.now c.loop-read.read-index first
    c.args.readers.now c.loop-read.readers c.from-k.result =
    record { near = c.loop-read-test.true; host = c.from-k.ensures; may = c.requires; so = c.loop-read.invariant } in
    within_at next

pub read_one-requires-after_bounds : goal.read_one-requires-after_bounds
read_one-requires-after_bounds g c κs within =
    let reads = c.args.reads.now in
    let i = c.loop-read.read-index in
    let next : IsNextRead reads i first c.args.readers.now c.loop-read.readers c.from-k.result =
    record { near = c.loop-read-test.true; host = c.from-k.ensures; may = c.requires; so = c.loop-read.invariant } in
    subst (λ o. IsLeft (reader_in o (get_or reads i first).source))
    (at_any c.loop-read.readers c.from-k.result None c.index-readers-k.result (within_at next)) (left_at next)

pub loop-read-preserved : goal.loop-read-preserved
loop-read-preserved g c =
    let next : IsNextRead c.args.reads.now c.loop-read.read-index first
    c.args.readers.now c.loop-read.readers c.from-k.result =
    record { near = c.loop-read-test.true; host = c.from-k.ensures; may = c.requires; so = c.loop-read.invariant } in
    read_next next c.index-readers-k.result c.read_one.new.readers c.read_one.ensures
