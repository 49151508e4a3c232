use Rattle.host_port.proofs.Names.{map, ap, ◌∙◌, sym, true, false, arith, ReadersState, buffers_of}
use Rattle.host_port.proofs.ReaderLists.{ring_read, still_rings, reads_there, others_there, calls_there, room_there}
use Rattle.host_port.proofs.ReaderLists.{room_after, counts_got, counts_none, step_got, step_none}
use Rattle.host_port.proofs.reading.HostReaders.read.Goals as goal

pub returns-then-read_one-clause-rings : goal.returns-then-read_one-clause-rings
returns-then-read_one-clause-rings g c =
    still_rings c.self.inside.readers.items (buffers_of c.index_mut.result.now) c.source_place-place.result
    c.index_mut.result.now c.read_one.new.reader c.index_mut.ensures.value c.read_one.ensures.reads
    ∙ ap (λ (r : ReadersState). map ring_read r.readers) c.self.view_is

pub returns-else-read_one-clause-rings : goal.returns-else-read_one-clause-rings
returns-else-read_one-clause-rings g c =
    still_rings c.self.inside.readers.items (buffers_of c.index_mut.result.now) c.source_place-place.result
    c.index_mut.result.now c.read_one.new.reader c.index_mut.ensures.value c.read_one.ensures.reads
    ∙ ap (λ (r : ReadersState). map ring_read r.readers) c.self.view_is

pub returns-then-read_one-clause-reads : goal.returns-then-read_one-clause-reads
returns-then-read_one-clause-reads g c =
    reads_there c.args.source c.read_one.new.reader (ap (λ (r : ReadersState). r.readers) c.self.view_is)
    c.source_place-place.ensures c.index_mut.ensures.value c.requires.left c.read_one.ensures.reads

pub returns-then-read_one-clause-others : goal.returns-then-read_one-clause-others
returns-then-read_one-clause-others g c =
    others_there c.args.source c.read_one.new.reader (ap (λ (r : ReadersState). r.readers) c.self.view_is)
    c.source_place-place.ensures c.index_mut.ensures.value c.requires.left

pub returns-else-read_one-clause-reads : goal.returns-else-read_one-clause-reads
returns-else-read_one-clause-reads g c =
    reads_there c.args.source c.read_one.new.reader (ap (λ (r : ReadersState). r.readers) c.self.view_is)
    c.source_place-place.ensures c.index_mut.ensures.value c.requires.left c.read_one.ensures.reads

pub returns-else-read_one-clause-others : goal.returns-else-read_one-clause-others
returns-else-read_one-clause-others g c =
    others_there c.args.source c.read_one.new.reader (ap (λ (r : ReadersState). r.readers) c.self.view_is)
    c.source_place-place.ensures c.index_mut.ensures.value c.requires.left

pub returns-then-read_one-clause-calls : goal.returns-then-read_one-clause-calls
returns-then-read_one-clause-calls g c =
    c.push_reserved.ensures.items
    ∙ calls_there c.args.source c.read_one.new.reader (ap (λ (r : ReadersState). r.readers) c.self.view_is)
    c.source_place-place.ensures c.index_mut.ensures.value c.requires.left true
    (ap (λ (r : ReadersState). r.calls) c.self.view_is)
    (sym c.read_one.ensures.got ∙ c.if-read_one.true)

pub returns-else-read_one-clause-calls : goal.returns-else-read_one-clause-calls
returns-else-read_one-clause-calls g c =
    calls_there c.args.source c.read_one.new.reader (ap (λ (r : ReadersState). r.readers) c.self.view_is)
    c.source_place-place.ensures c.index_mut.ensures.value c.requires.left false
    (ap (λ (r : ReadersState). r.calls) c.self.view_is)
    (sym c.read_one.ensures.got ∙ c.if-read_one.false)

pub push_reserved-requires : goal.push_reserved-requires
push_reserved-requires g c =
    room_there c.args.source c.read_one.new.reader (ap (λ (r : ReadersState). r.readers) c.self.view_is)
    c.source_place-place.ensures c.index_mut.ensures.value c.requires.left _ _ c.self.invariant.room

pub invariant_of-self : goal.invariant_of-self
invariant_of-self g c =
    let step = step_got _ _ _ c.read_one.ensures.reads (sym c.read_one.ensures.got ∙ c.if-read_one.true) in
    record {
      room = omega (
        arith,
        c.push_reserved.ensures.len,
        c.push_reserved.ensures.capacity,
        room_after c.args.source c.read_one.new.reader (ap (λ (r : ReadersState). r.readers) c.self.view_is)
            c.source_place-place.ensures c.index_mut.ensures.value c.requires.left _ _ step c.self.invariant.room,
      );
      counts = λ p. rw c.push_reserved.ensures.items
          (counts_got c.args.source c.read_one.new.reader (ap (λ (r : ReadersState). r.readers) c.self.view_is)
          c.source_place-place.ensures c.index_mut.ensures.value c.requires.left
          c.self.inside.calls.items step c.self.invariant.counts p);
    }

pub invariant_of-self-else-read_one : goal.invariant_of-self-else-read_one
invariant_of-self-else-read_one g c =
    let step = step_none _ _ _ c.read_one.ensures.reads (sym c.read_one.ensures.got ∙ c.if-read_one.false) in
    record {
      room = omega (
        arith,
        room_after c.args.source c.read_one.new.reader (ap (λ (r : ReadersState). r.readers) c.self.view_is)
            c.source_place-place.ensures c.index_mut.ensures.value c.requires.left _ _ step c.self.invariant.room,
      );
      counts = counts_none c.args.source c.read_one.new.reader (ap (λ (r : ReadersState). r.readers) c.self.view_is)
          c.source_place-place.ensures c.index_mut.ensures.value c.requires.left
          c.self.inside.calls.items step c.self.invariant.counts;
    }
