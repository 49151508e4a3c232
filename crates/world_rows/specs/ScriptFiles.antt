-- Lists for which scripts are read, and what scripts for a list of four nodes say.
use Rattle.std.specs.Prelude.{ℕ, pos, Bool, true, false, List, [], ◌∷◌, codes, replicate, Option, None, Result, Err}
use Rattle.ttp_world.specs.declared.medl.Kind.{Kind}
use Rattle.ttp_world.specs.declared.medl.Kind.TheVariants as kind
use Rattle.ttp_world.specs.declared.medl.SlotPlan.{SlotPlan}
use Rattle.ttp_world.specs.declared.medl.Medl.{Medl}
use Rattle.ttp_world.specs.declared.script.Event.{Event}
use Rattle.ttp_world.specs.declared.script.Script.{Script}
use Rattle.script_text.specs.declared.error.LineFault.{LineFault}
use Rattle.script_text.specs.declared.error.ScriptError.{ScriptError}
use Rattle.script_text.specs.declared.error.ScriptError.TheVariants as errors
use Rattle.script_text.specs.ScriptFile.{script_of}

-- a slot of a list of one round and one mode
abbrev pub plain_slot : Kind → ℕ → Bool → SlotPlan
plain_slot frame payload start = record {
  kinds = frame ∷ [];
  payload = payload;
  sync = true;
  start = start;
  requests = false;
  live = 1;
}

-- a slot without payload, and one with so many bytes
abbrev pub empty_slot : Bool → SlotPlan
empty_slot start = plain_slot kind.I 0 start

abbrev pub full_slot : ℕ → SlotPlan
full_slot payload = plain_slot kind.N payload false

-- a list of these slots, with so many buffers
abbrev pub small_list : ℕ → ℕ → List SlotPlan → Medl
small_list version buffers slots = record {
  version = version;
  rounds = 1;
  schedule = 0;
  buffers = buffers;
  drift = pos 0;
  error = pos 0;
  window = pos 1;
  modes = 1;
  slots = slots;
}

-- four nodes, of which node 1 alone sends payload, two bytes, with so many buffers
abbrev pub buffered_nodes : ℕ → Medl
buffered_nodes buffers = small_list 1 buffers (empty_slot true ∷ full_slot 2 ∷ empty_slot false ∷ empty_slot false ∷ [])

-- five nodes, of which node 2 alone sends payload, eight bytes
abbrev pub five_with_one_payload : Medl
five_with_one_payload = small_list 1 2
    (empty_slot true ∷ empty_slot false ∷ full_slot 8 ∷ empty_slot false ∷ empty_slot false ∷ [])

-- as many nodes as a list may have, none of which sends payload
abbrev pub full_list : Medl
full_list = small_list 2 2 (empty_slot true ∷ replicate 23 (empty_slot false))

-- what a text says for four nodes with two buffers
abbrev pub told_by : List ℕ → Result Script ScriptError
told_by text = script_of (buffered_nodes 2) text

-- a line with a fault
abbrev pub fault_at : ℕ → LineFault → Result Script ScriptError
fault_at number fault = Err (errors.Line number fault)

-- a script of so many slots for four nodes in which no clock drifts
abbrev pub four_node_script : ℕ → List (Option ℕ) → List Event → Script
four_node_script slots on events = record { slots = slots; on = on; drift = replicate 4 (pos 0); events = events }

-- one in which nothing happens
abbrev pub quiet_script : ℕ → Script
quiet_script slots = four_node_script slots (None ∷ None ∷ None ∷ None ∷ []) []

-- one of twenty slots in which one thing happens
abbrev pub event_script : Event → Script
event_script e = four_node_script 20 (replicate 4 None) (e ∷ [])

-- twenty slots, with each of five nodes on from the first
abbrev pub all_on : List ℕ
all_on = codes "slots 20\non 0 0\non 1 0\non 2 0\non 3 0\non 4 0\n"
