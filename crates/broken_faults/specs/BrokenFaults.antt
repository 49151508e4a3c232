-- What breaks the rules on faults. The last two are asked only where each loss is that of one fault.
use Rattle.std.specs.Prelude.{◌≡◌, false, Option, Some, None, option_map}
use Rattle.ttp_world.specs.declared.medl.Medl.{Medl}
use Rattle.ttp_world.specs.declared.script.Script.{Script}
use Rattle.ttp_world.specs.Hypothesis.{ClusterStart, loss_broken, distance_broken, sync_broken}
use Rattle.ttp_world.specs.Returning.{back_loss_broken, back_distance_broken, back_sync_broken, has_arm}
use Rattle.broken_faults.specs.declared.faults.BrokenFaults.{BrokenFaults}
use Rattle.broken_faults.specs.declared.early.EarlyFault.{EarlyFault}
use Rattle.broken_faults.specs.declared.losses.LostFrame.{LostFrame}
use Rattle.broken_faults.specs.declared.few.TooFew.{TooFew}
use Rattle.broken_faults.specs.Faults.{lost_frame, early_fault, too_few_left}

-- what breaks them, by the frame that was lost against the rule, if one was
abbrev pub faults_by : Option LostFrame → Option EarlyFault → Option TooFew → BrokenFaults
faults_by None early few = record { lost = None; early = early; few = few }
faults_by (Some frame) early few = record { lost = Some frame; early = None; few = None }

abbrev pub broken_faults : Medl → Script → ClusterStart → BrokenFaults
broken_faults list script start =
    faults_by (lost_frame list script start) (early_fault list script start) (too_few_left list script start)

-- Each is there exactly where its rule is broken, and in the slot that the rule names; the last two where the first
-- is not. Where no node is armed these are the rules of the hypothesis.
pub record NameFaultSlots (list : Medl) (script : Script) (start : ClusterStart) (broken : BrokenFaults) : Type 0 where
  pub lost : option_map (λ l. l.slot) broken.lost ≡ back_loss_broken list script start
  pub early : broken.lost ≡ None → option_map (λ e. e.slot) broken.early ≡ back_distance_broken list script start
  pub few : broken.lost ≡ None → option_map (λ w. w.slot) broken.few ≡ back_sync_broken list script start
  pub kept_lost : has_arm script ≡ false → back_loss_broken list script start ≡ loss_broken list script start
  pub kept_early : has_arm script ≡ false → back_distance_broken list script start ≡ distance_broken list script start
  pub kept_few : has_arm script ≡ false → back_sync_broken list script start ≡ sync_broken list script start
