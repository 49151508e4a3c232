-- A run in which every frame with payload carries zeros, as a plant takes it.
use Rattle.std.specs.Prelude.{◌≡◌, ℕ}
use Rattle.ttp_world.specs.declared.medl.Medl.{Medl}
use Rattle.ttp_world.specs.declared.script.Script.{Script}
use Rattle.ttp_world.specs.ZerosWorld.{all_zeros, zeros_world}
use Rattle.controller.specs.PlantStands.{PlantStandsFor}
use Rattle.controller.specs.declared.zeros_run.ZerosRun.{ZerosRun}

-- it stands for the world after so many slots
pub record RunStandsAfter (run : ZerosRun) (list : Medl) (script : Script) (slots : ℕ) : Type 0 where
  pub same : run.plant.list ≡ list
  pub plant : PlantStandsFor run.plant script (zeros_world list script slots)
  pub zeros : run.zeros ≡ all_zeros list
