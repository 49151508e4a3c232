-- Lists of the cases that were worked out by hand.
use Rattle.std.specs.Prelude.{ℕ, ℤ, pos, Bool, true, false, List, [], ◌∷◌, replicate}
use Rattle.ttp_world.specs.declared.medl.Kind.TheVariants as kind
use Rattle.ttp_world.specs.declared.medl.Medl.{Medl}
use Rattle.ttp_world.specs.declared.medl.SlotPlan.{SlotPlan}
use Rattle.ttp_world.specs.declared.script.Event.{Event}
use Rattle.ttp_world.specs.declared.script.Event.TheVariants as event
use Rattle.ttp_world.specs.declared.script.Source.TheVariants as source

-- a slot whose frames are bare, and one of so many bytes of payload
abbrev pub bare_frames : Bool → SlotPlan
bare_frames start = record { kinds = kind.I ∷ []; payload = 0; sync = true; start = start; requests = false; live = 1 }

abbrev pub loaded_with : ℕ → SlotPlan
loaded_with size =
    record { kinds = kind.N ∷ []; payload = size; sync = true; start = false; requests = false; live = 1 }

-- a list of these slots in one round
abbrev pub list_of : ℕ → ℤ → ℤ → ℤ → List SlotPlan → Medl
list_of buffers drift error window slots = record {
  version = 1;
  rounds = 1;
  schedule = 0;
  buffers = buffers;
  drift = drift;
  error = error;
  window = window;
  modes = 1;
  slots = slots;
}

-- four nodes whose clocks are exact and whose hosts send nothing
abbrev pub four_exact : Medl
four_exact = list_of 2 (pos 0) (pos 0) (pos 1) (bare_frames true ∷ replicate 3 (bare_frames false))

-- six nodes, of which the second may start where any may, and the first and the fifth send payload
abbrev pub six_nodes : ℕ → Bool → Medl
six_nodes buffers start = list_of buffers (pos 3) (pos 5) (pos 88)
    (loaded_with 2 ∷ bare_frames start ∷ bare_frames false ∷ bare_frames false ∷ loaded_with 3 ∷ bare_frames false ∷ [])

-- a host that polls its status
abbrev pub poll : ℕ → ℕ → Event
poll host slot = event.Read host slot source.Status
