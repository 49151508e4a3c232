-- A script of whose faults all are named is what is left of it.
use Rattle.std.proofs.Common.{◌≡◌, ℕ, suc, Bool, true, false, List, [], ◌∷◌, ap, refl}
use Rattle.std.proofs.lemmas.Bool.{false≢true}
use Rattle.std.specs.Prelude.{not, ◌||◌, ◌&&◌, ◌==◌}
use Rattle.std.specs.List.{list_any}
use Rattle.ttp_world.specs.declared.medl.Medl.{Medl}
use Rattle.ttp_world.specs.declared.script.Event.{Event}
use Rattle.ttp_world.specs.declared.script.Script.{Script}
use Rattle.causes.specs.declared.cause.ScriptLine.{ScriptLine}
use Rattle.causes.specs.Story.{is_fault_event}
use Rattle.causes.specs.Reduced.{events_kept, names_faults_from, names_all_faults, entry_alone, entry_in_run}
use Rattle.causes.specs.Reduced.{places_of_lines}

-- an event that is kept, before those that all are
kept-head : (e : Event) (kept events : List Event) (b rest : Bool) → b && rest ≡ true → (rest ≡ true → kept ≡ events)
    → elim b as (λ c. List Event) [ true ↦ e ∷ kept | false ↦ kept ] ≡ e ∷ events
kept-head e kept events true rest both same = ap (λ (others : List Event). e ∷ others) (same both)
kept-head e kept events false rest both same = absurd (false≢true both)

all-kept : (places : List ℕ) (place : ℕ) (events : List Event) → names_faults_from places place events ≡ true
    → events_kept places place events ≡ events
all-kept places place [] named = refl
all-kept places place (e ∷ events) named =
    kept-head e (events_kept places (suc place) events) events
    (not (is_fault_event e) || list_any (λ other. other == place) places) (names_faults_from places (suc place) events)
    named (all-kept places (suc place) events)

pub alone-own : (list : Medl) (script : Script) (lines : List ScriptLine) → names_all_faults lines script ≡ true
    → (slot k : ℕ) → entry_alone list script lines slot k ≡ entry_in_run list script slot k
alone-own list script lines named slot k =
    ap (λ (events : List Event). entry_in_run list (record script { events = events }) slot k)
    (all-kept (places_of_lines lines) 0 script.events named)
