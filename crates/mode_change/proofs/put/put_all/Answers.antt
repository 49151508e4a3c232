use Rattle.std.proofs.Common.{◌≡◌, ◌∙◌, ◌+◌, List, [], ◌∷◌, sym, subst, arith}
use Rattle.std.proofs.lemmas.List.{with_items_is}
use Rattle.std.proofs.lemmas.Result.{err_from_is_err_and}
use Rattle.ttp_base.specs.Outside.{WroteLines}
use Rattle.ttp_base.specs.Text.{lines_of}
use Rattle.ttp_base.proofs.Outputs.{CutShort-more}
use Rattle.ttp_world.specs.TraceNumbers.{numbers_in}
use Rattle.ttp_world.specs.World.{Numbers, world}
use Rattle.trace_run.specs.Run.{first_numbers}
use Rattle.trace_run.proofs.Texts.{at-first, none-first}
use Rattle.mode_change.specs.declared.node.NodeModes.{NodeModes}
use Rattle.mode_change.specs.Knowing.{KnowAll}
use Rattle.mode_change.specs.ModeText.{mode_head, mode_history_lines}
use Rattle.mode_change.proofs.Made.{has-stepped, known-made}
use Rattle.mode_change.proofs.Texts.{cut-next, known-after, known-next, mode_lines_so_far, wrote-all, wrote-next}
use Rattle.mode_change.proofs.put.put_all.Goals as goal

pub returns-in_err-write-clause-failed : goal.returns-in_err-write-clause-failed
returns-in_err-write-clause-failed g c =
    let failed = err_from_is_err_and c.from_residual.result c.from_residual.ensures.1 in
    let list = c.args.list.now in
    let script = c.args.script.now in
    rw failed.1 (CutShort-more _ _ (mode_head list script ∷ [])
    (mode_history_lines list script (world list script (numbers_in list script (lines_of c.args.text.now))))
    (rw (← c.head_line.ensures, ← c.bytes.ensures) c.in_err-write.ensures.failed))

pub loop-slot-init : goal.loop-slot-init
loop-slot-init g c =
    let list = c.args.list.now in
    let script = c.args.script.now in
    let text = c.args.text.now in
    let none = none-first list script text c.requires.list c.requires.script c.requires.trace in
    record {
      at = at-first list script text c.requires.list c.requires.script c.requires.trace c.args.run _ c.requires.begun
          c.cut_line.ensures.others;
      known = subst (λ (ns : Numbers). KnowAll c.args.nodes.items list script (world list script ns)) (sym none)
          c.requires.known;
      wrote = subst (λ (ns : Numbers). WroteLines (g.K.Sink.output c.args.out.now) (g.K.Sink.output c.write.new.self)
          (mode_lines_so_far list script ns)) (sym none)
          (rw (← c.head_line.ensures, ← c.bytes.ensures) c.in_ok-write.ensures.ok);
    }

pub know_slot-requires-clause-stepped : goal.know_slot-requires-clause-stepped
know_slot-requires-clause-stepped g c =
    let list = c.args.list.now in
    let script = c.args.script.now in
    let whole = numbers_in list script (lines_of c.args.text.now) in
    let slot = c.loop-slot.slot in
    let run = c.make.new.self in
    let rest = c.loop-slot.rest.now in
    let made = c.make.ensures whole c.loop-slot.invariant.at in
    has-stepped run list script whole slot rest made c.requires.list c.plant.result.now c.chosen.result.now
    c.plant.ensures c.chosen.ensures c.deref_mut.result.now (rw c.deref_mut.ensures.value c.loop-slot.invariant.known)

pub put_nodes-requires-clause-known : goal.put_nodes-requires-clause-known
put_nodes-requires-clause-known g c =
    let list = c.args.list.now in
    let script = c.args.script.now in
    let whole = numbers_in list script (lines_of c.args.text.now) in
    let slot = c.loop-slot.slot in
    let run = c.make.new.self in
    let rest = c.loop-slot.rest.now in
    let made = c.make.ensures whole c.loop-slot.invariant.at in
    let nodes = c.know_slot.new.nodes in
    let is = with_items_is c.loop-slot.nodes nodes (omega (arith, c.know_slot.auto.nodes, c.deref_mut.ensures.len)) in
    let known = known-made run list script whole slot rest made c.requires.list c.plant.result.now c.chosen.result.now
    c.plant.ensures c.chosen.ensures c.deref_mut.result.now (rw c.deref_mut.ensures.value c.loop-slot.invariant.known)
    nodes c.deref.result.now (c.deref.ensures.value ∙ is) c.know_slot.ensures in
    known-after run list script whole slot rest made c.deref.result.now known

pub returns-in_err-put_nodes-clause-failed : goal.returns-in_err-put_nodes-clause-failed
returns-in_err-put_nodes-clause-failed g c =
    let failed =
    err_from_is_err_and c.from_residual-in_err-put_nodes.result c.from_residual-in_err-put_nodes.ensures.1 in
    let list = c.args.list.now in
    let script = c.args.script.now in
    let whole = numbers_in list script (lines_of c.args.text.now) in
    let slot = c.loop-slot.slot in
    let run = c.make.new.self in
    let rest = c.loop-slot.rest.now in
    let made = c.make.ensures whole c.loop-slot.invariant.at in
    let nodes = c.know_slot.new.nodes in
    let is = with_items_is c.loop-slot.nodes nodes (omega (arith, c.know_slot.auto.nodes, c.deref_mut.ensures.len)) in
    let known = known-made run list script whole slot rest made c.requires.list c.plant.result.now c.chosen.result.now
    c.plant.ensures c.chosen.ensures c.deref_mut.result.now (rw c.deref_mut.ensures.value c.loop-slot.invariant.known)
    nodes c.deref.result.now (c.deref.ensures.value ∙ is) c.know_slot.ensures in
    rw failed.1 (cut-next run list script whole slot rest made c.deref.result.now known
    (g.K.Sink.output c.args.out.now) (g.K.Sink.output c.loop-slot.out) (g.K.Sink.output c.put_nodes.new.out)
    c.loop-slot.invariant.wrote c.in_err-put_nodes.ensures.failed)

pub pass-rest-requires-clause-made : goal.pass-rest-requires-clause-made
pass-rest-requires-clause-made g c =
    let whole = numbers_in c.args.list.now c.args.script.now (lines_of c.args.text.now) in
    record {
      whole = whole;
      made = c.make.ensures whole c.loop-slot.invariant.at;
    }

pub loop-slot-preserved : goal.loop-slot-preserved
loop-slot-preserved g c =
    let list = c.args.list.now in
    let script = c.args.script.now in
    let whole = numbers_in list script (lines_of c.args.text.now) in
    let slot = c.loop-slot.slot in
    let run = c.make.new.self in
    let rest = c.loop-slot.rest.now in
    let made = c.make.ensures whole c.loop-slot.invariant.at in
    let nodes = c.know_slot.new.nodes in
    let is = with_items_is c.loop-slot.nodes nodes (omega (arith, c.know_slot.auto.nodes, c.deref_mut.ensures.len)) in
    let known = known-made run list script whole slot rest made c.requires.list c.plant.result.now c.chosen.result.now
    c.plant.ensures c.chosen.ensures c.deref_mut.result.now (rw c.deref_mut.ensures.value c.loop-slot.invariant.known)
    nodes c.deref.result.now (c.deref.ensures.value ∙ is) c.know_slot.ensures in
    record {
      at = c.pass-rest.ensures.at whole made;
      known = subst (λ (ns : List NodeModes). KnowAll ns list script
          (world list script (first_numbers script whole (slot + 1)))) c.deref.ensures.value
          (known-next run list script whole slot rest made c.deref.result.now known);
      wrote = wrote-next run list script whole slot rest made c.deref.result.now known
          (g.K.Sink.output c.args.out.now) (g.K.Sink.output c.loop-slot.out) (g.K.Sink.output c.put_nodes.new.out)
          c.loop-slot.invariant.wrote c.in_ok-put_nodes.ensures.ok;
    }

pub returns-clause-ok : goal.returns-clause-ok
returns-clause-ok g c =
    let list = c.args.list.now in
    let script = c.args.script.now in
    let all : c.loop-slot.slot ≡ script.slots = omega arith in
    wrote-all list script (numbers_in list script (lines_of c.args.text.now)) c.loop-slot.slot
    (g.K.Sink.output c.args.out.now) (g.K.Sink.output c.loop-slot.out) all c.loop-slot.invariant.wrote
