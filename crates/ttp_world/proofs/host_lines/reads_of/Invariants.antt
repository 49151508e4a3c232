use Rattle.ttp_world.proofs.Words.{◌≡◌, take, keyed_read}
use Rattle.std.specs.List.{filter_map}
use Rattle.ttp_world.proofs.host_lines.reads_of.Given as goal

abbrev pub invariant-loop-event : goal.invariant-loop-event
invariant-loop-event l = l.reads ≡ filter_map keyed_read (take l.event-index l.events)
