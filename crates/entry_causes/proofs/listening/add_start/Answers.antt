use Rattle.std.proofs.Common.{◌-◌, ◌≡◌, filter, length, map, not, take, ap, sym, ◌∙◌}
use Rattle.std.specs.List.{flat_map}
use Rattle.causes.specs.Listening.{hears_nothing, listening_sources, on_line_unless}
use Rattle.causes.specs.Listening.{silent_node, silenced_in, start_cause}
use Rattle.causes.specs.Listening.{wait_sources}
use Rattle.causes.specs.RunSlots.{RunSlot, RunSlots, past_in}
use Rattle.causes.specs.Sources.{all_sources, only_entries, sources_of, with_sources}
use Rattle.entry_causes.proofs.Adding.{adds-both, on-ok}
use Rattle.entry_causes.proofs.Remaining.{adds-same}
use Rattle.entry_causes.proofs.Since.{take-limit}
use Rattle.entry_causes.proofs.FromBelow.{slot_in-list}
use Rattle.run_rows.specs.Rows.{past_slots, run_slot}
use Rattle.ttp_base.specs.NodeSet.{below}
use Rattle.ttp_world.specs.declared.medl.Medl.{Medl}
use Rattle.entry_causes.proofs.listening.add_start.Goals as goal

pub returns : goal.returns
returns c =
    let run = c.args.run.now in
    let k = c.args.node in
    let slot = c.args.slot in
    let s = run_slot run slot in
    let before = past_slots run slot in
    let from = c.saturating_sub-from.result in
    let waits = wait_sources k before in
    let on = on_line_unless k (listening_sources k before) in
    let silenced = λ (silent : RunSlots). all_sources (map (silenced_in k) silent) in
    let silent_nodes = λ (list : Medl) (silent : RunSlots).
    only_entries
    (flat_map (silent_node k s before (filter (λ (u : RunSlot). not (hears_nothing k u)) silent))
    (below (length list.slots))) in
    let silent = take (slot - from) before in
    let same : silent ≡ take (past_in k s).limit before =
    take-limit run.list run.script slot from (past_in k s).limit
    (c.saturating_sub-from.ensures ∙ ap (λ n. slot - n) c.requires.limit) in
    let listed = sym (slot_in-list run.list run.script slot) in
    on-ok c.add_silent_nodes.result (λ added.
    adds-same c.args.out.now c.add_silent_nodes.new.out
    (with_sources waits (with_sources on (with_sources (silenced silent) (silent_nodes run.list silent))))
    (sources_of (start_cause k s before))
    (λ i. with_sources waits (with_sources on (with_sources (silenced (same i)) (silent_nodes (listed i) (same i)))))
    (adds-both c.args.out.now c.add_wait_before.new.out c.add_silent_nodes.new.out waits
    (with_sources on (with_sources (silenced silent) (silent_nodes run.list silent))) c.in_ok-add_wait_before.ensures
    (adds-both c.add_wait_before.new.out c.add_on_line_unless.new.out c.add_silent_nodes.new.out on
    (with_sources (silenced silent) (silent_nodes run.list silent)) c.in_ok-add_on_line_unless.ensures
    (adds-both c.add_on_line_unless.new.out c.add_silent_slots.new.out c.add_silent_nodes.new.out (silenced silent)
    (silent_nodes run.list silent) c.in_ok-add_silent_slots.ensures added))))
    c.add_silent_nodes.ensures
