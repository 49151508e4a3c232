-- Back in time.
use Rattle.std.specs.Prelude.{◌≡◌, ℕ, ◌≤◌, Bool, List, [], if◌then◌else◌, not, ◌∷◌}
use Rattle.causes.specs.declared.cause.Spot.{Spot}
use Rattle.causes.specs.RunSlots.{RunSlot, back_to, entry_in_slot, is_judged_so, node_spot}
use Rattle.causes.specs.RunSlots.{is_incorrect, is_left, is_miss, is_miss_or_tentative, is_quiet, is_rejected}
use Rattle.causes.specs.RunSlots.{is_tentative, is_waited}
use Rattle.run_looks.specs.declared.back.Kind.{Kind}
use Rattle.run_looks.specs.declared.back.Kind.TheVariants as kind
use Rattle.run_looks.specs.declared.back.Verdicts.{Verdicts}
use Rattle.run_looks.specs.declared.back.Verdicts.TheVariants as verdicts
use Rattle.run_rows.specs.Rows.{RunShown, past_slots}
use Rattle.ttp_world.specs.Acknowledgement.{is_correct, is_sent_or_joined}
use Rattle.ttp_world.specs.Diary.{begins_stint}
use Rattle.ttp_world.specs.declared.node.Entry.{Entry}
use Rattle.ttp_world.specs.declared.node.Verdict.{Verdict}

-- an entry is of a kind
abbrev pub is_of_kind : Kind → Entry → Bool
is_of_kind kind.Own e = is_sent_or_joined e
is_of_kind kind.Left e = is_left e
is_of_kind kind.Stint e = begins_stint e
is_of_kind kind.NotWaited e = not (is_waited e)

-- a verdict is among some
abbrev pub is_among_verdicts : Verdicts → Verdict → Bool
is_among_verdicts verdicts.Correct v = is_correct v
is_among_verdicts verdicts.Tentative v = is_tentative v
is_among_verdicts verdicts.Incorrect v = is_incorrect v
is_among_verdicts verdicts.Miss v = is_miss v
is_among_verdicts verdicts.MissOrTentative v = is_miss_or_tentative v
is_among_verdicts verdicts.Rejected v = is_rejected v
is_among_verdicts verdicts.Quiet v = is_quiet v

-- the entry of node k in a slot, if it is a judgement with such a verdict
abbrev pub judged_in : (Verdict → Bool) → ℕ → RunSlot → List Spot
judged_in p k s = if is_judged_so p (entry_in_slot k s) then node_spot k s ∷ [] else []

-- the slots up to the newest entry of a kind are the first ones, so many
pub record IsBackTo (run : RunShown) (kind : Kind) (node before slots : ℕ) : Type 0 where
  pub is : back_to (is_of_kind kind) node (past_slots run before) ≡ past_slots run slots
  pub within : slots ≤ before
