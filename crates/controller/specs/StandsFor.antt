-- What a controller stands for: a diary of its node, and the surroundings beside it.
use Rattle.std.specs.Prelude.{◌≡◌, ℕ, ◌-◌, ◌^◌, ◌≤◌, ℤ, ◌+ℤ◌, Bool, ◌&&◌, List, [], ◌∷◌, length, min, Option, Some}
use Rattle.std.specs.Prelude.{None, is_some}
use Rattle.ttp_world.specs.declared.medl.Medl.{Medl}
use Rattle.ttp_world.specs.declared.node.Act.{Act}
use Rattle.ttp_world.specs.declared.node.Act.TheVariants.{Send}
use Rattle.ttp_world.specs.declared.node.Chosen.{Chosen}
use Rattle.ttp_world.specs.declared.node.Delivered.{Delivered}
use Rattle.ttp_world.specs.declared.node.Entry.{Entry}
use Rattle.ttp_world.specs.declared.node.NodeState.{NodeState}
use Rattle.ttp_world.specs.Act.{act, coming_place}
use Rattle.ttp_world.specs.Conduct.{message_sent, payload_sent, node_frames, new_entry, delivery}
use Rattle.ttp_world.specs.Diary.{Diary, Surroundings, SlotSurroundings}
use Rattle.ttp_world.specs.Medium.{Signal, is_silence, SentFrame}
use Rattle.ttp_world.specs.Messages.{status_words}
use Rattle.ttp_world.specs.Past.{NodePast, past_of, state_of}
use Rattle.ttp_world.specs.Reception.{Hearing}
use Rattle.ttp_world.specs.World.{jump_taken}
use Rattle.medium.specs.declared.arrival.Arrival.{Arrival}
use Rattle.medium.specs.Shows.{Shows}
use Rattle.controller.specs.declared.controller.Outcome.{Outcome}
use Rattle.controller.specs.Hearing.{hearing_of}
use Rattle.controller.specs.Kept.{kept}
use Rattle.controller.specs.ControllerView.{Turn, Ended, Begun, Planned, ControllerView}

-- the count of slots stops at this
abbrev pub most_slots : ℕ
most_slots = 2 ^ 64 - 1

-- what is read of its node's past
abbrev pub view_past : ControllerView → Diary → Surroundings → NodePast
view_past view diary surroundings = past_of view.list view.node diary surroundings

-- it stands for a diary and surroundings, at this turn of the slot after them
pub record Stands (view : ControllerView) (diary : Diary) (surroundings : Surroundings) (now : Turn) : Type 0 where
  pub past : view.past ≡ kept (view_past view diary surroundings)
  pub slots : view.slots ≡ min (length diary) most_slots
  pub turn : view.turn ≡ now

-- between two slots
abbrev pub ControllerStandsFor : ControllerView → Diary → Surroundings → Type 0
ControllerStandsFor view diary surroundings = Stands view diary surroundings Ended

-- the list and the node stay
pub record IsSameNode (old new : ControllerView) : Type 0 where
  pub list : new.list ≡ old.list
  pub node : new.node ≡ old.node

-- The beginning of a slot: what the node does is settled, whatever diary the controller stood for.

-- what the node does in a slot in which it is on or not, and armed or not
abbrev pub act_begun : ControllerView → Diary → Surroundings → Bool → Bool → Act
act_begun view diary surroundings on armed = act view.list view.node on armed (view_past view diary surroundings)

-- the beginning of a slot: what the node does is settled, whatever diary the controller stood for
abbrev pub Begins : ControllerView → ControllerView → Bool → Bool → ℤ → Type 0
Begins old new on armed jump =
    (diary : Diary) (surroundings : Surroundings) → ControllerStandsFor old diary surroundings
    → Stands new diary surroundings
    (Begun (act_begun old diary surroundings on armed) (jump_taken (act_begun old diary surroundings on armed) jump))

-- Sending.

-- the frames of node k, from the bytes that it sends, if it sends any
abbrev pub frames_planned : ℕ → Option (List ℕ) → List SentFrame
frames_planned k None = []
frames_planned k (Some bytes) = record { sender = k; bytes = bytes } ∷ []

-- the message and the payload that its frame carries, of what is chosen for it to send
abbrev pub message_planned : Medl → NodePast → Chosen → Act → Option ℕ
message_planned list past chosen Send = message_sent list (coming_place list past) chosen
message_planned list past chosen _ = None

abbrev pub payload_planned : Medl → NodePast → Chosen → Act → List ℕ
payload_planned list past chosen Send = payload_sent list (coming_place list past) chosen
payload_planned list past chosen _ = []

-- a plan is right of one diary: its frame, and what the controller then stands for
pub record IsPlan (old new : ControllerView) (planned : Option (List ℕ))
    (diary : Diary) (surroundings : Surroundings) (a : Act)
    (jump : ℤ) (chosen : Chosen) : Type 0 where
  pub frames : frames_planned old.node planned
      ≡ node_frames old.list old.node (view_past old diary surroundings) chosen a
  pub stands : Stands new diary surroundings
      (Planned a jump (message_planned old.list (view_past old diary surroundings) chosen a))

-- whatever diary it stood for, and whatever was chosen, if it has this number and, where the frame carries payload,
-- this one
abbrev pub Plans : ControllerView → ControllerView → ℕ → List ℕ → Option (List ℕ) → Type 0
Plans old new number payload planned =
    (diary : Diary) (surroundings : Surroundings) (a : Act) (jump : ℤ) (chosen : Chosen)
    → Stands old diary surroundings (Begun a jump)
    → chosen.number ≡ number → payload_planned old.list (view_past old diary surroundings) chosen a ≡ payload
    → IsPlan old new planned diary surroundings a jump chosen

-- The end of a slot.

-- the node's clock in a slot that was begun, by its past
abbrev pub clock_begun : NodePast → ℤ → ℤ
clock_begun past jump = past.offset +ℤ jump

-- What came from outside in a slot in which the node did this: how the clock of a node that isn't off jumped and
-- drifts, and whether both channels were silent.
pub record AreSurroundings (s : SlotSurroundings) (a : Act) (jumped drifts : ℤ) (h : Hearing) : Type 0 where
  pub jump : jumped ≡ jump_taken a s.jump
  pub drift : s.drift ≡ drifts
  pub silent : s.is_silent ≡ (is_silence h.a && is_silence h.b)

-- what a slot ends with: the diary has the entry of the world for what was heard, and the surroundings what came from
-- outside; what is delivered and the status are those of the world
pub record IsEnd (old new : ControllerView) (outcome : Outcome) (diary : Diary)
    (surroundings : Surroundings) (e : Entry)
    (s : SlotSurroundings) (handed : Option Delivered) : Type 0 where
  pub stands : ControllerStandsFor new (e ∷ diary) (s ∷ surroundings)
  pub delivered : outcome.delivered ≡ handed
  pub status : length diary ≤ most_slots
      → outcome.status.words
      ≡ status_words old.list (length diary) (view_past old (e ∷ diary) (s ∷ surroundings)) (is_some handed)

-- whatever diary the one stood for in a slot, and whatever signals the arrivals show, the other stands for the diary
-- with the slot's entry
abbrev pub Ends : ControllerView → ControllerView → Outcome → Arrival → Arrival → ℤ → ℤ → Type 0
Ends old new outcome came_a came_b error drift =
    (diary : Diary) (surroundings : Surroundings) (a : Act) (jump : ℤ) (chosen : Chosen) (sent_a sent_b : Signal)
    (clock : ℕ → ℤ) (s : SlotSurroundings) →
    let past = view_past old diary surroundings in
    let h = hearing_of sent_a sent_b clock (clock_begun past jump) error in
    let e = new_entry old.list old.node past chosen h a in
    Stands old diary surroundings (Planned a jump (message_planned old.list past chosen a))
    → Shows came_a sent_a clock → Shows came_b sent_b clock → AreSurroundings s a jump drift h
    → IsEnd old new outcome diary surroundings e s (delivery old.list old.node past h e)

-- this is what is shown of the node, whatever diary the controller stands for
abbrev pub ShowsState : ControllerView → NodeState → Type 0
ShowsState view state =
    (diary : Diary) (surroundings : Surroundings) (turn : Turn) → Stands view diary surroundings turn
    → state ≡ state_of (view_past view diary surroundings)
