use Rattle.script_gen.proofs.Words.{◌≡◌, ◌++◌, flat_map, below, host_events_in}
use Rattle.script_gen.proofs.hosts.add_host_events.Given as goal

-- those of the slots so far
abbrev pub invariant-loop-slot : goal.invariant-loop-slot
invariant-loop-slot l = l.events ≡ l.fn.events ++ flat_map (host_events_in l.list) (below l.slot)
