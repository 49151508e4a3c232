-- There is one proof at most that a list is valid, and that a script is.
use Rattle.std.specs.Prelude.{ℕ}
use Rattle.std.proofs.Props.{props}
use Rattle.ttp_world.specs.declared.medl.Medl.{Medl}
use Rattle.ttp_world.specs.declared.script.Event.{Event}
use Rattle.ttp_world.specs.declared.script.Event.TheVariants as event
use Rattle.ttp_world.specs.declared.script.Script.{Script}
use Rattle.ttp_world.specs.declared.script.Source.{Source}
use Rattle.ttp_world.specs.declared.script.Source.TheVariants as source
use Rattle.ttp_world.specs.Medl.{IsValid}
use Rattle.ttp_world.specs.Script.{IsSource, IsValidEvent, IsValidScript}

-- one that a list is valid
pub valid_is_prop : (list : Medl) → IsProp (IsValid list)
valid_is_prop list = hlevel props

source_is_prop : (list : Medl) (k : ℕ) (from : Source) → IsProp (IsSource list k from)
source_is_prop list k source.Status = hlevel props
source_is_prop list k (source.Node p) = hlevel props

event_is_prop : (list : Medl) (script : Script) (e : Event) → IsProp (IsValidEvent list script e)
event_is_prop list script (event.Send node channels f from to) = hlevel props
event_is_prop list script (event.Receive node channels f from to) = hlevel props
event_is_prop list script (event.Flip node channels bit slot) = hlevel props
event_is_prop list script (event.Error node value from to) = hlevel props
event_is_prop list script (event.Jump node value slot) = hlevel props
event_is_prop list script (event.Arm node slot) = hlevel props
event_is_prop list script (event.Write node slot payload) = hlevel props
event_is_prop list script (event.Read node slot from) = hlevel (props, source_is_prop)

-- one that a script is
pub valid_script_is_prop : (list : Medl) (script : Script) → IsProp (IsValidScript list script)
valid_script_is_prop list script = hlevel (props, event_is_prop)
