-- What a controller is asked for at each turn of a slot, so that its clock fits its number and its frame its list.
use Rattle.std.specs.Prelude.{ℕ, ◌+◌, ◌^◌, ◌≤◌, max, ℤ, pos, ◌+ℤ◌, unsigned_abs, Option, Some, None, if◌then◌else◌}
use Rattle.ttp_world.specs.declared.medl.Medl.{Medl}
use Rattle.ttp_world.specs.declared.node.Act.{Act}
use Rattle.ttp_world.specs.declared.node.Act.TheVariants.{Start, Send}
use Rattle.ttp_world.specs.Act.{coming_place}
use Rattle.ttp_world.specs.Conduct.{carries_payload}
use Rattle.ttp_world.specs.Medl.{plan_at}
use Rattle.ttp_world.specs.Past.{NodePast}
use Rattle.medium.specs.declared.arrival.Arrival.{Arrival}
use Rattle.medium.specs.declared.arrival.Arrival.TheVariants as arrival
use Rattle.controller.specs.declared.controller.Intent.{Intent}
use Rattle.controller.specs.declared.controller.Intent.TheVariants as intent
use Rattle.controller.specs.ControllerView.{Turn, Ended, Begun, Planned, ControllerView}

-- clocks are within so many microticks of 0
abbrev pub most_clock : ℕ
most_clock = 2 ^ 59

-- a clock that jumps stays within them
abbrev pub JumpFits : ℤ → ℤ → Type 0
JumpFits offset jump = unsigned_abs offset + unsigned_abs jump ≤ most_clock

-- the clock of the sender of what came
abbrev pub offset_of_arrival : Arrival → ℤ
offset_of_arrival arrival.Silence = pos 0
offset_of_arrival arrival.Noise = pos 0
offset_of_arrival (arrival.Bits bytes offset) = offset

-- what is measured of what came stays within them, and so does a clock that joins by it
abbrev pub ArrivalFits : Medl → ℤ → Arrival → ℤ → ℤ → Type 0
ArrivalFits list own came error drift =
    unsigned_abs own + unsigned_abs (offset_of_arrival came) + unsigned_abs error + unsigned_abs drift
    + unsigned_abs list.window ≤ most_clock

-- Turns.

-- a slot has begun, and its frame is not planned yet
abbrev pub IsBegun : Turn → Type 0
IsBegun Ended = ⊥
IsBegun (Begun act jump) = Unit {0}
IsBegun (Planned act jump message) = ⊥

-- the frame of the slot is planned
abbrev pub IsPlanned : Turn → Type 0
IsPlanned Ended = ⊥
IsPlanned (Begun act jump) = ⊥
IsPlanned (Planned act jump message) = Unit {0}

-- by how much the clock jumped in the slot that was begun
abbrev pub turn_jump : Turn → ℤ
turn_jump Ended = pos 0
turn_jump (Begun act jump) = jump
turn_jump (Planned act jump message) = jump

-- the node's clock in the slot that was begun
abbrev pub view_clock : ControllerView → ℤ
view_clock view = view.past.offset +ℤ turn_jump view.turn

-- Sending.

-- what a node sends that does this
abbrev pub intent_by : Medl → NodePast → Act → Intent
intent_by list past Start = intent.Bare
intent_by list past Send = if carries_payload list (coming_place list past) then intent.Loaded else intent.Bare
intent_by list past _ = intent.Quiet

-- what a node sends by its turn: nothing, where none has begun or its plan was made
abbrev pub turn_intent : Medl → NodePast → Turn → Intent
turn_intent list past Ended = intent.Quiet
turn_intent list past (Begun act jump) = intent_by list past act
turn_intent list past (Planned act jump message) = intent.Quiet

-- what the node will send in a slot that was begun
abbrev pub view_intent : ControllerView → Intent
view_intent view = turn_intent view.list view.past view.turn

-- the message of this number goes into a frame with payload
abbrev pub message_carried : Intent → ℕ → Option ℕ
message_carried intent.Quiet number = None
message_carried intent.Bare number = None
message_carried intent.Loaded number = Some number

-- how many bytes of payload node k's frame carries
abbrev pub loaded_length : Medl → ℕ → Intent → ℕ
loaded_length list k intent.Quiet = 0
loaded_length list k intent.Bare = 0
loaded_length list k intent.Loaded = (plan_at list k).payload

-- how many bytes of payload the frame carries that a controller plans
abbrev pub payload_wanted : ControllerView → ℕ
payload_wanted view = loaded_length view.list view.node (view_intent view)

-- The clock after a slot.

-- within these many microticks of 0 are a node's clock and those of the senders of what came
abbrev pub most_ahead_of : ControllerView → Arrival → Arrival → ℕ
most_ahead_of view came_a came_b =
    max (unsigned_abs (view_clock view))
    (max (unsigned_abs (offset_of_arrival came_a)) (unsigned_abs (offset_of_arrival came_b)))

-- A slot takes a clock no further from 0 than one of them is, but for a reading error, the drift and a correction,
-- which is within the window.
abbrev pub StaysNear : ℤ → ControllerView → Arrival → Arrival → ℤ → ℤ → Type 0
StaysNear offset view came_a came_b error drift =
    unsigned_abs offset
    ≤ most_ahead_of view came_a came_b + unsigned_abs error + unsigned_abs drift + unsigned_abs view.list.window
