use Rattle.std.proofs.Common.{List}
use Rattle.ttp_base.specs.Outside.{WroteLines}
use Rattle.ttp_base.specs.Text.{lines_below}
use Rattle.ttp_world.specs.declared.node.Chosen.{Chosen}
use Rattle.ttp_world.specs.declared.node.Entry.{Entry}
use Rattle.ttp_world.specs.Diary.{History}
use Rattle.bus_frames.specs.Standing.{SlotStands, frames_there, lines_of_node}
use Rattle.bus_frames.proofs.put.put_channel.Given as goal

-- the lines of the nodes so far were written
abbrev pub invariant-loop-node : goal.invariant-loop-node
invariant-loop-node g l =
    (chosen : List Chosen) (row : List Entry) (before : History)
    → SlotStands l.plant chosen l.offsets l.list l.script l.slot row before
    → WroteLines (g.K.Sink.output l.fn.out) (g.K.Sink.output l.out)
    (lines_below (lines_of_node l.list l.script row before l.channel
    (frames_there l.list l.script row before l.channel))
    l.node)
