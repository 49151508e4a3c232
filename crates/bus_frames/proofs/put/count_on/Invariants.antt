use Rattle.std.proofs.Common.{◌≡◌, ◌≤◌, List, length}
use Rattle.std.specs.Prelude.{ℤ}
use Rattle.ttp_world.specs.declared.node.Chosen.{Chosen}
use Rattle.ttp_world.specs.declared.node.Entry.{Entry}
use Rattle.ttp_world.specs.Diary.{History}
use Rattle.bus_frames.specs.Standing.{SlotStands}
use Rattle.bus_frames.proofs.Lists.{frames_so_far}
use Rattle.bus_frames.proofs.put.count_on.Given as goal

-- the frames of the nodes so far were counted
abbrev pub invariant-loop-node : goal.invariant-loop-node
invariant-loop-node l = record {
  few : l.many ≤ l.node;
  counted : (chosen : List Chosen) (offsets : List ℤ) (row : List Entry) (before : History)
      → SlotStands l.plant chosen offsets l.list l.script l.slot row before
      → l.many ≡ length (frames_so_far l.list l.script row before l.channel l.node);
}
