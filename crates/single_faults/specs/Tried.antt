-- What holds of a fault that is tried: it may stand in the script.
use Rattle.std.specs.Prelude.{◌≡◌, false}
use Rattle.ttp_world.specs.declared.medl.Medl.{Medl}
use Rattle.ttp_world.specs.declared.script.Event.{Event}
use Rattle.ttp_world.specs.declared.script.Script.{Script}
use Rattle.ttp_world.specs.Script.{IsValidEvent, is_host_event}

-- it is valid, and no host does anything by it
pub record MayStand (list : Medl) (script : Script) (fault : Event) : Type 0 where
  pub valid : IsValidEvent list script fault
  pub unhosted : is_host_event fault ≡ false
