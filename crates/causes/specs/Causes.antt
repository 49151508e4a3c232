-- How an entry of a run came about.
use Rattle.std.specs.Prelude.{[], ℕ, ◌∷◌}
use Rattle.causes.specs.Judged.{correct_cause, denied_cause, tentative_cause}
use Rattle.causes.specs.Listening.{join_cause, off_cause, start_cause, wait_cause}
use Rattle.causes.specs.Missed.{missed_cause}
use Rattle.causes.specs.OwnSlots.{clique_cause, gone_cause, retry_cause, unacknowledged_cause}
use Rattle.causes.specs.RunSlots.{RunSlot, RunSlots, entry_in_slot, slots_to}
use Rattle.causes.specs.Sources.{cause_by, no_sources}
use Rattle.causes.specs.declared.cause.Cause.{Cause}
use Rattle.causes.specs.declared.cause.Spot.{Spot}
use Rattle.ttp_world.specs.Script.{on_slot}
use Rattle.ttp_world.specs.declared.node.Entry.{Entry}
use Rattle.ttp_world.specs.declared.node.Reason.{Reason}
use Rattle.ttp_world.specs.declared.node.Verdict.{Verdict}
use Rattle.causes.specs.declared.cause.Because.TheVariants as because
use Rattle.ttp_world.specs.declared.node.Entry.TheVariants as entry
use Rattle.ttp_world.specs.declared.node.Reason.TheVariants as reason
use Rattle.ttp_world.specs.declared.node.Verdict.TheVariants as verdict

-- of a judgement
abbrev pub judged_cause : ℕ → RunSlot → RunSlots → Verdict → Cause
judged_cause k s before verdict.Correct = correct_cause k s before
judged_cause k s before verdict.Tentative = tentative_cause k s before
judged_cause k s before verdict.Denied = denied_cause k s before
judged_cause k s before v = missed_cause k s before v

-- of a departure
abbrev pub left_cause : ℕ → RunSlot → RunSlots → Reason → Cause
left_cause k s before reason.Denied = denied_cause k s before
left_cause k s before reason.Unacknowledged = unacknowledged_cause k before
left_cause k s before reason.Clique = clique_cause k s before

-- of an entry of node k in a slot
abbrev pub entry_cause : ℕ → RunSlot → RunSlots → Entry → Cause
entry_cause k s before entry.Off = off_cause k (on_slot s.begun.script k)
entry_cause k s before entry.Waited = wait_cause k s before
entry_cause k s before entry.Retried = retry_cause k before
entry_cause k s before entry.Gone = gone_cause k before
entry_cause k s before entry.Started = start_cause k s before
entry_cause k s before (entry.Sent message) = cause_by because.OwnSlot no_sources
entry_cause k s before (entry.Joined sender cstate deviation) = join_cause k s before
entry_cause k s before (entry.Judged sender v deviation) = judged_cause k s before v
entry_cause k s before (entry.Left why peer) = left_cause k s before why

-- of node k's entry in the newest of some slots
abbrev pub newest_cause : ℕ → RunSlots → Cause
newest_cause k [] = cause_by because.NeverOn no_sources
newest_cause k (s ∷ before) = entry_cause k s before (entry_in_slot k s)

-- of the entry at a spot of a run
abbrev pub cause_at : RunSlots → Spot → Cause
cause_at run spot = newest_cause spot.node (slots_to run spot.slot)
