use Rattle.std.proofs.Common.{◌≡◌, ◌∷◌, length}
use Rattle.ttp_base.specs.Outside.{WroteLines}
use Rattle.ttp_base.specs.Text.{lines_of}
use Rattle.ttp_world.specs.TraceNumbers.{numbers_in}
use Rattle.ttp_world.specs.World.{world}
use Rattle.trace_run.specs.Run.{IsTraceAt, first_numbers}
use Rattle.bus_frames.specs.FrameText.{frame_head, frame_history_lines}
use Rattle.bus_frames.specs.Standing.{AreNear, AreOffsets}
use Rattle.bus_frames.proofs.put.put_all.Given as goal

-- the run is at the slot, the clocks before it are known, and the lines of the slots before it were written
abbrev pub invariant-loop-slot : goal.invariant-loop-slot
invariant-loop-slot g l =
    let whole = numbers_in l.list l.script (lines_of l.text) in
    record {
      at : IsTraceAt l.run l.list l.script whole l.slot l.rest;
      wrote : WroteLines (g.K.Sink.output l.fn.out) (g.K.Sink.output l.out)
          (frame_head l.list l.script
          ∷ frame_history_lines l.list l.script (world l.list l.script (first_numbers l.script whole l.slot)));
      count : length l.offsets.items ≡ length l.list.slots;
      are : AreOffsets l.offsets.items l.list l.script (world l.list l.script (first_numbers l.script whole l.slot));
      near : AreNear l.offsets.items;
    }
