use Rattle.ttp_base.specs.Text.{lines_of}
use Rattle.ttp_base.specs.Outside.{WroteLines}
use Rattle.ttp_world.specs.TraceNumbers.{numbers_in}
use Rattle.ttp_world.specs.World.{world}
use Rattle.std.proofs.Common.{◌∷◌}
use Rattle.trace_run.specs.Run.{IsTraceAt, first_numbers}
use Rattle.mode_change.specs.Knowing.{KnowAll}
use Rattle.mode_change.specs.ModeText.{mode_head, mode_history_lines}
use Rattle.mode_change.proofs.put.put_all.Given as goal

-- the run is at the slot, all is known of the nodes, and the lines of the slots before it were written
abbrev pub invariant-loop-slot : goal.invariant-loop-slot
invariant-loop-slot g l =
    let whole = numbers_in l.list l.script (lines_of l.text) in
    record {
      at : IsTraceAt l.run l.list l.script whole l.slot l.rest;
      known : KnowAll l.nodes.items l.list l.script (world l.list l.script (first_numbers l.script whole l.slot));
      wrote : WroteLines (g.K.Sink.output l.fn.out) (g.K.Sink.output l.out)
          (mode_head l.list l.script
          ∷ mode_history_lines l.list l.script (world l.list l.script (first_numbers l.script whole l.slot)));
    }
