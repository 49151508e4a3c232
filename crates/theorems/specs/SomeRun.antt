-- That there are legal numbers.
use Rattle.ttp_world.specs.declared.medl.Medl.{Medl}
use Rattle.ttp_world.specs.declared.script.Script.{Script}
use Rattle.ttp_world.specs.Legal.{IsLegalRun}
use Rattle.ttp_world.specs.World.{Numbers}

-- some legal message numbers of a whole run
pub record SomeRun (list : Medl) (script : Script) : Type 0 where
  pub numbers : Numbers
  pub legal : IsLegalRun list script numbers
