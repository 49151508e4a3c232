-- The run in which frames carry zeros is one of the runs whose messages are as long as the list says.
use Rattle.std.specs.Prelude.{◌≡◌, ℕ, zero, suc, length}
use Rattle.std.proofs.Common.{refl, ◌∙◌, sym}
use Rattle.ttp_world.specs.declared.medl.Medl.{Medl}
use Rattle.ttp_world.specs.declared.script.Script.{Script}
use Rattle.ttp_world.specs.Legal.{IsLegal}
use Rattle.ttp_world.specs.Script.{IsValidScript}
use Rattle.ttp_world.specs.World.{Numbers, world}
use Rattle.ttp_world.specs.ZerosWorld.{all_zeros, zeros_world}
use Rattle.ttp_world.proofs.Worlds.{length-world}
use Rattle.ttp_world.proofs.ZerosWorlds.{length-zeros_world, zeros-sizes}
use Rattle.frame_fates.specs.Runs.{AreRuns, IsRun}
use Rattle.frame_fates.proofs.NamedRuns.{named-run, legal-names}

zeros-run : (list : Medl) (script : Script) (slots : ℕ) → IsRun list script (zeros_world list script slots)
zeros-run list script zero = tt
zeros-run list script (suc slots) = (
  record { chosen = all_zeros list; sizes = λ k node loaded. zeros-sizes list k node; made = refl },
  zeros-run list script slots,
)

-- it and a run by legal numbers differ in messages alone
pub zeros-legal : (list : Medl) (script : Script) (numbers : Numbers) (slots : ℕ) → IsValidScript list script
    → IsLegal list script numbers → length numbers ≡ slots
    → AreRuns list script (world list script numbers) (zeros_world list script slots)
zeros-legal list script numbers slots valid legal count = record {
  valid = valid;
  first = named-run list script numbers valid (legal-names list script numbers legal);
  second = zeros-run list script slots;
  slots = length-world list script numbers ∙ count ∙ sym (length-zeros_world list script slots);
}
