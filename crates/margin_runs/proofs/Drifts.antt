-- A script with another drift of one node.
use Rattle.std.proofs.Common.{◌≡◌, ℕ, zero, suc, ℤ, List, [], ◌∷◌, refl, ap, ◌∙◌}
use Rattle.std.specs.Prelude.{All, set}
use Rattle.std.proofs.lemmas.List.{length-set}
use Rattle.std.proofs.lemmas.List.Elements.{All-nil, All-cons, All-head, All-tail, All-set}
use Rattle.ttp_world.specs.declared.medl.Medl.{Medl}
use Rattle.ttp_world.specs.declared.script.Event.{Event}
use Rattle.ttp_world.specs.declared.script.Event.TheVariants as event
use Rattle.ttp_world.specs.declared.script.Script.{Script}
use Rattle.ttp_world.specs.declared.script.TheConstants.{DRIFT_LIMIT}
use Rattle.ttp_world.specs.Events.{IsWithinSpan}
use Rattle.ttp_world.specs.Script.{IsValidEvent, IsValidScript}
use Rattle.clock_margins.specs.Sweeps.{with_drift}

-- It is valid.

same-valid : (list : Medl) (script : Script) (node : ℕ) (value : ℤ) (e : Event) → IsValidEvent list script e
    → IsValidEvent list (with_drift script node value) e
same-valid list script node value (event.Send k channels f from to) valid = valid
same-valid list script node value e valid = valid

all-valid : (list : Medl) (script : Script) (node : ℕ) (value : ℤ) (events : List Event)
    → All (IsValidEvent list script) events → All (IsValidEvent list (with_drift script node value)) events
all-valid list script node value [] all = All-nil (IsValidEvent list (with_drift script node value))
all-valid list script node value (e ∷ events) all =
    All-cons (IsValidEvent list (with_drift script node value)) e events
    (same-valid list script node value e (All-head (IsValidEvent list script) e events all))
    (all-valid list script node value events (All-tail (IsValidEvent list script) e events all))

pub drift-valid : (list : Medl) (script : Script) (node : ℕ) (value : ℤ) → IsValidScript list script
    → IsWithinSpan DRIFT_LIMIT value → IsValidScript list (with_drift script node value)
drift-valid list script node value valid within = record {
  slots = valid.slots;
  on_count = valid.on_count;
  on = valid.on;
  drift_count = length-set script.drift node value ∙ valid.drift_count;
  drift = All-set (IsWithinSpan DRIFT_LIMIT) script.drift node value within valid.drift;
  events = all-valid list script node value script.events valid.events;
  writes = valid.writes;
  event_count = valid.event_count;
  host_event_count = valid.host_event_count;
}

-- A drift that is set twice is what it was set to last.

set-twice : (drift : List ℤ) (node : ℕ) (first second : ℤ)
    → set (set drift node first) node second ≡ set drift node second
set-twice [] node first second = refl
set-twice (z ∷ drift) zero first second = refl
set-twice (z ∷ drift) (suc node) first second = ap (λ (rest : List ℤ). z ∷ rest) (set-twice drift node first second)

pub drift-twice : (script : Script) (node : ℕ) (first second : ℤ)
    → with_drift (with_drift script node first) node second ≡ with_drift script node second
drift-twice script node first second =
    ap (λ (drift : List ℤ). record script { drift = drift }) (set-twice script.drift node first second)
