use Rattle.std.proofs.Common.{◌≡◌, ◌∙◌, ◌+◌, ◌≤◌, ◌^◌, List, [], ◌∷◌, length, ap, sym, subst, arith}
use Rattle.std.specs.Prelude.{ℤ, unsigned_abs}
use Rattle.std.proofs.lemmas.List.{with_items_is}
use Rattle.std.proofs.lemmas.Result.{err_from_is_err_and}
use Rattle.ttp_base.specs.Outside.{WroteLines}
use Rattle.ttp_base.specs.Text.{lines_of}
use Rattle.ttp_base.proofs.Outputs.{CutShort-more}
use Rattle.ttp_world.specs.TraceNumbers.{numbers_in}
use Rattle.ttp_world.specs.World.{Numbers, world}
use Rattle.controller.specs.PlantView.{PlantView}
use Rattle.trace_run.specs.Run.{first_numbers}
use Rattle.trace_run.proofs.Texts.{at-first, none-first}
use Rattle.bus_frames.specs.FrameText.{frame_head, frame_history_lines}
use Rattle.bus_frames.specs.Standing.{AreNear, AreOffsets, AreClocksShown}
use Rattle.bus_frames.proofs.Texts.{cut-next, lines_so_far, offsets-next, slot-stands, wrote-all, wrote-next}
use Rattle.bus_frames.proofs.put.put_all.Goals as goal

pub returns-in_err-write-clause-failed : goal.returns-in_err-write-clause-failed
returns-in_err-write-clause-failed g c =
    let failed = err_from_is_err_and c.from_residual.result c.from_residual.ensures.1 in
    let list = c.args.list.now in
    let script = c.args.script.now in
    rw failed.1 (CutShort-more _ _ (frame_head list script ∷ [])
    (frame_history_lines list script (world list script (numbers_in list script (lines_of c.args.text.now))))
    (rw (← c.head_line.ensures, ← c.bytes.ensures) c.in_err-write.ensures.failed))

pub loop-slot-init : goal.loop-slot-init
loop-slot-init g c =
    let list = c.args.list.now in
    let script = c.args.script.now in
    let text = c.args.text.now in
    let none = none-first list script text c.requires.list c.requires.script c.requires.trace in
    record {
      at = at-first list script text c.requires.list c.requires.script c.requires.trace c.args.run _ c.requires.begun
          c.cut_line.ensures.others;
      wrote = subst (λ (ns : Numbers). WroteLines (g.K.Sink.output c.args.out.now) (g.K.Sink.output c.write.new.self)
          (lines_so_far list script ns)) (sym none)
          (rw (← c.head_line.ensures, ← c.bytes.ensures) c.in_ok-write.ensures.ok);
      count = c.requires.count;
      are = subst (λ (ns : Numbers). AreOffsets c.args.offsets.items list script (world list script ns)) (sym none)
          (λ k node. c.requires.zeros k);
      near = λ k less. subst (λ (z : ℤ). unsigned_abs z ≤ 2 ^ 60) (sym (c.requires.zeros k)) (omega arith);
    }

pub put_slot-requires-clause-past : goal.put_slot-requires-clause-past
put_slot-requires-clause-past g c =
    let list = c.args.list.now in
    let script = c.args.script.now in
    let whole = numbers_in list script (lines_of c.args.text.now) in
    let slot = c.loop-slot.slot in
    let made = c.make.ensures whole c.loop-slot.invariant.at in
    record {
      chosen = c.make.new.self.outgoing.chosen.items;
      some = record {
        row = made.row;
        before = world list script (first_numbers script whole slot);
        stands = rw (c.plant.ensures, c.deref.ensures.value)
            (slot-stands c.make.new.self list script whole slot c.loop-slot.rest.now made c.requires.list
            c.loop-slot.offsets.items c.loop-slot.invariant.are);
      };
    }

pub returns-in_err-put_slot-clause-failed : goal.returns-in_err-put_slot-clause-failed
returns-in_err-put_slot-clause-failed g c =
    let failed =
    err_from_is_err_and c.from_residual-in_err-put_slot.result c.from_residual-in_err-put_slot.ensures.1 in
    let list = c.args.list.now in
    let script = c.args.script.now in
    let whole = numbers_in list script (lines_of c.args.text.now) in
    let slot = c.loop-slot.slot in
    let made = c.make.ensures whole c.loop-slot.invariant.at in
    rw failed.1 (cut-next c.make.new.self list script whole slot c.loop-slot.rest.now made c.requires.list
    (g.K.Sink.output c.args.out.now) (g.K.Sink.output c.loop-slot.out) (g.K.Sink.output c.put_slot.new.out)
    c.loop-slot.invariant.wrote
    (c.in_err-put_slot.ensures.failed c.make.new.self.outgoing.chosen.items made.row
    (world list script (first_numbers script whole slot))
    (rw (c.plant.ensures, c.deref.ensures.value)
    (slot-stands c.make.new.self list script whole slot c.loop-slot.rest.now made c.requires.list
    c.loop-slot.offsets.items c.loop-slot.invariant.are))))

pub loop-slot-preserved : goal.loop-slot-preserved
loop-slot-preserved g c =
    let list = c.args.list.now in
    let script = c.args.script.now in
    let whole = numbers_in list script (lines_of c.args.text.now) in
    let slot = c.loop-slot.slot in
    let made = c.make.ensures whole c.loop-slot.invariant.at in
    let run = c.make.new.self in
    let rest = c.loop-slot.rest.now in
    let noted = c.note_offsets.new.offsets in
    let items_is = with_items_is c.loop-slot.offsets noted
    (omega (arith, c.note_offsets.auto.offsets, c.deref_mut.ensures.len)) in
    record {
      at = c.pass-rest.ensures.at whole made;
      wrote = wrote-next run list script whole slot rest made c.requires.list
          (g.K.Sink.output c.args.out.now) (g.K.Sink.output c.loop-slot.out) (g.K.Sink.output c.put_slot.new.out)
          c.loop-slot.invariant.wrote
          (c.in_ok-put_slot.ensures.ok run.outgoing.chosen.items made.row
          (world list script (first_numbers script whole slot))
          (rw (c.plant.ensures, c.deref.ensures.value)
          (slot-stands run list script whole slot rest made c.requires.list
          c.loop-slot.offsets.items c.loop-slot.invariant.are)));
      count = ap length items_is ∙ c.note_offsets.ensures.count ∙ ap length c.deref_mut.ensures.value
          ∙ c.loop-slot.invariant.count;
      are = subst (λ (xs : List ℤ).
          AreOffsets xs list script (world list script (first_numbers script whole (slot + 1))))
          (sym items_is)
          (offsets-next run list script whole slot rest made c.requires.list noted
          (subst (λ (p : PlantView). AreClocksShown noted p)
          c.plant-in-loop-slot.ensures c.note_offsets.ensures.shown));
      near = subst AreNear (sym items_is) c.note_offsets.ensures.near;
    }

pub returns-clause-ok : goal.returns-clause-ok
returns-clause-ok g c =
    let list = c.args.list.now in
    let script = c.args.script.now in
    let all : c.loop-slot.slot ≡ script.slots = omega arith in
    wrote-all list script (numbers_in list script (lines_of c.args.text.now)) c.loop-slot.slot
    (g.K.Sink.output c.args.out.now) (g.K.Sink.output c.loop-slot.out) all c.loop-slot.invariant.wrote
