use Rattle.trace_check.proofs.Words.{◌≡◌, ◌∙◌, List, get_or, length, refl, ap, sym, subst, arith, reverse, slice_get}
use Rattle.trace_check.proofs.Words.{slice_get-get_or, HostRead, read_messages, ReadsAmiss, ReadsOn}
use Rattle.ttp_world.specs.declared.script.Source.TheVariants as source
use Rattle.trace_check.proofs.Ended.{ended-slot}
use Rattle.trace_check.proofs.Labels.{passed_up}
use Rattle.trace_check.proofs.SlotReads.{HasReadSoFar, ended-same, past-same, read-all}
use Rattle.trace_check.proofs.SlotReads.{read-amiss, read-next, read-none}
use Rattle.trace_check.proofs.SlotReads.{ring_of_script, same-twice, tells-same}
use Rattle.trace_check.proofs.hosts.follow_reads.Goals as goal

abbrev no_read : HostRead
no_read = record { host = 0; source = source.Status }

pub loop-read-init : goal.loop-read-init
loop-read-init c = record {
  same = record { nodes = refl; payloads = refl; statuses = refl; floor_count = refl };
  so_far = λ history chosen ended within.
      read-none c.args.list.now c.args.script.now history chosen c.args.incoming.now c.reads-reads.result.now
      c.args.text.now within;
}

pub follow_read-requires-clause-past : goal.follow_read-requires-clause-past
follow_read-requires-clause-past c =
    past-same c.args.plant.now c.args.incoming.now c.loop-read.incoming c.args.list.now c.args.slot
    c.loop-read.invariant.same c.requires.past

pub follow_read-requires-clause-ring : goal.follow_read-requires-clause-ring
follow_read-requires-clause-ring c =
    let i = c.loop-read.read-index in
    let reads = c.reads-reads.result.now in
    ring_of_script c.args.list.now c.args.script.now c.args.slot i (get_or reads i no_read) c.requires.script
    (ap (λ (rs : List HostRead). slice_get rs i) (sym c.reads-reads.ensures)
    ∙ slice_get-get_or reads i no_read c.loop-read-test.true)

pub loop-read-preserved : goal.loop-read-preserved
loop-read-preserved c =
    let plant = c.args.plant.now in
    let list = c.args.list.now in
    let script = c.args.script.now in
    let first = c.args.incoming.now in
    let i = c.loop-read.read-index in
    let reads = c.reads-reads.result.now in
    let has = c.loop-read.invariant in
    record {
      same = same-twice first c.loop-read.incoming c.follow_read.new.incoming has.same c.in_ok-rest.ensures.same;
      so_far = λ history chosen ended within.
          let before = has.so_far history chosen ended within in
          read-next list script history chosen c.loop-read.incoming reads c.args.text.now c.loop-read.rest.now i
          (get_or reads i no_read) before (slice_get-get_or reads i no_read c.loop-read-test.true)
          c.follow_read.new.incoming c.in_ok-rest.rest.now
          (c.in_ok-rest.ensures.ok script history chosen (reverse (read_messages reads before.numbers))
          (ended-same plant first c.loop-read.incoming list script history chosen has.same ended)
          (ended-slot plant first first list c.args.slot script history chosen c.requires.past ended) before.knows);
    }

pub returns-in_err-rest-clause-rings : goal.returns-in_err-rest-clause-rings
returns-in_err-rest-clause-rings c = λ history tells.
    tells-same c.args.incoming.now c.follow_read.new.incoming c.args.list.now c.args.script.now history
    (same-twice c.args.incoming.now c.loop-read.incoming c.follow_read.new.incoming c.loop-read.invariant.same
    c.in_err-rest.ensures.same) tells

pub returns-in_err-rest-clause-wrong : goal.returns-in_err-rest-clause-wrong
returns-in_err-rest-clause-wrong c = λ history chosen ended within.
    let plant = c.args.plant.now in
    let list = c.args.list.now in
    let script = c.args.script.now in
    let first = c.args.incoming.now in
    let i = c.loop-read.read-index in
    let reads = c.reads-reads.result.now in
    let has = c.loop-read.invariant in
    let before = has.so_far history chosen ended within in
    passed_up c.from_residual.result c.in_err-rest.field-0.0 _ c.from_residual.ensures.1
    (subst (λ (rs : List HostRead). ReadsAmiss list script history chosen rs c.args.text.now
    c.in_err-rest.field-0.0.text.now) c.reads-reads.ensures
    (read-amiss list script history chosen c.loop-read.incoming reads c.args.text.now c.loop-read.rest.now i
    (get_or reads i no_read) before (slice_get-get_or reads i no_read c.loop-read-test.true)
    c.in_err-rest.field-0.0.text.now
    (c.in_err-rest.ensures.wrong script history chosen (reverse (read_messages reads before.numbers))
    (ended-same plant first c.loop-read.incoming list script history chosen has.same ended)
    (ended-slot plant first first list c.args.slot script history chosen c.requires.past ended) before.knows)))

pub returns-clause-rings : goal.returns-clause-rings
returns-clause-rings c = λ history tells.
    tells-same c.args.incoming.now c.loop-read.incoming c.args.list.now c.args.script.now history
    c.loop-read.invariant.same tells

pub returns-clause-floors : goal.returns-clause-floors
returns-clause-floors c = λ history chosen ended within.
    (c.loop-read.invariant.so_far history chosen ended within).knows.within

pub returns-clause-ok : goal.returns-clause-ok
returns-clause-ok c = λ history chosen ended within.
    let list = c.args.list.now in
    let script = c.args.script.now in
    let reads = c.reads-reads.result.now in
    let count : c.loop-read.read-index ≡ length reads = omega arith in
    subst (λ (rs : List HostRead). ReadsOn list script history chosen rs c.args.text.now c.loop-read.rest.now)
    c.reads-reads.ensures
    (read-all list script history chosen c.loop-read.incoming reads c.args.text.now c.loop-read.rest.now
    (subst (HasReadSoFar list script history chosen c.loop-read.incoming reads c.args.text.now c.loop-read.rest.now)
    count (c.loop-read.invariant.so_far history chosen ended within)))
