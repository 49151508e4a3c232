-- The index of a list of events, by the keys of nodes and slots.
use Rattle.std.specs.Prelude.{◌≡◌, ℕ, zero, suc, ◌<◌, ◌≤◌, nat_le, pos, Bool, false, List}
use Rattle.std.specs.Prelude.{length, get_or, All}
use Rattle.std.specs.List.{filter_map}
use Rattle.std.specs.List.Sorted.{IsNonDecreasingBy}
use Rattle.ttp_world.specs.declared.events.Incidents.{Incidents}
use Rattle.ttp_world.specs.declared.index.Index.{Index}
use Rattle.ttp_world.specs.declared.index.Step.{Step}
use Rattle.ttp_world.specs.declared.index.TheConstants.{NODE_KEYS}
use Rattle.ttp_world.specs.declared.script.Channels.{Channels}
use Rattle.ttp_world.specs.declared.script.Event.{Event}
use Rattle.ttp_world.specs.declared.script.TheConstants.{EVENT_LIMIT}
use Rattle.ttp_world.specs.Events.{incidents_in, IsBounded}
use Rattle.ttp_world.specs.Flips.{keyed_flip, HasFlipKey}
use Rattle.ttp_world.specs.HostLines.{keyed_read, keyed_writes}
use Rattle.ttp_world.specs.Sorted.{key_of, SplitsAt, AreSorted}

-- neither channel
abbrev pub no_channels : Channels
no_channels = record { a = false; b = false }

-- nothing happens to a node in a slot
abbrev pub no_incidents : Incidents
no_incidents = record {
  send_silence = no_channels;
  send_noise = no_channels;
  receive_silence = no_channels;
  receive_noise = no_channels;
  has_flip = false;
  armed = false;
  error = pos 0;
  jump = pos 0;
}

-- the step that is read where an index has none: nothing happens from key 0 on
abbrev pub first_step : Step
first_step = record { key = 0; incidents = no_incidents }

-- what the newest of the steps before a place says
abbrev pub incidents_before : List Step → ℕ → Incidents
incidents_before steps zero = no_incidents
incidents_before steps (suc place) = (get_or steps place first_step).incidents

-- a step is at this key or before it
abbrev pub step_is_by : ℕ → Step → Bool
step_is_by key step = nat_le step.key key

-- Steps in the order of their keys tell what happens to a node in a slot: what the newest of them up to the key says.
pub record AreStepsOf (events : List Event) (steps : List Step) : Type 0 where
  pub ascend : IsNonDecreasingBy (λ step. step.key) steps
  pub incidents : (k slot place : ℕ) → slot < NODE_KEYS → place ≤ length steps
      → SplitsAt (step_is_by (key_of k slot)) steps place
      → incidents_before steps place ≡ incidents_in events k slot

-- Steps, flipped bits, reads and places of writes, by which the events of a slot are found.
pub record IsIndexOf (events : List Event) (index : Index) : Type 0 where
  pub steps : AreStepsOf events index.steps
  pub flip_slots : All HasFlipKey events
  pub flips : AreSorted (filter_map keyed_flip events) index.flips.keys.items index.flips.values.items
  pub writes : AreSorted (keyed_writes 0 events) index.writes.keys.items index.writes.values.items
  pub reads : AreSorted (filter_map keyed_read events) index.reads.keys.items index.reads.values.items

-- events that can be counted and added up
pub record AreFew (events : List Event) : Type 0 where
  pub count : length events ≤ EVENT_LIMIT
  pub values : All IsBounded events
