use Rattle.std.proofs.Common.{◌≡◌, ◌++◌}
use Rattle.std.specs.List.{filter_map}
use Rattle.std.specs.Prelude.{filter}
use Rattle.causes.specs.LinesOf.{widest_line}
use Rattle.ttp_base.specs.NodeSet.{below, has_node}
use Rattle.ttp_world.specs.declared.script.Fault.TheVariants as fault
use Rattle.ttp_world.specs.Events.{is_send_fault}
use Rattle.entry_causes.proofs.senders.add_each_silencing.Given as goal

-- those of the first nodes
abbrev pub invariant-loop-sender : goal.invariant-loop-sender
invariant-loop-sender l = record {
  lines : l.out.lines
      ≡ l.initial.out.lines
      ++ filter_map (λ p. widest_line (is_send_fault fault.Silence p l.channel l.slot) l.run.script)
      (filter (has_node l.senders) (below l.sender));
  entries : l.out.entries ≡ l.initial.out.entries;
}
