-- What a descriptor list says, and when it is valid.
use Rattle.std.specs.Prelude.{◌≡◌, ℕ, ◌*◌, ◌^◌, ◌<◌, ◌≤◌, ℤ, pos, ◌≤ℤ◌, Bool, true, false, ◌==◌, [], length, count_by}
use Rattle.std.specs.Prelude.{slice_get, unwrap_or, IsTrue, if◌then◌else◌}
use Rattle.std.specs.List.{AllByRecursion, list_all}
use Rattle.ttp_world.specs.declared.medl.Kind.{Kind}
use Rattle.ttp_world.specs.declared.medl.Kind.TheVariants as kind
use Rattle.ttp_world.specs.declared.medl.SlotPlan.{SlotPlan}
use Rattle.ttp_world.specs.declared.medl.Medl.{Medl}

-- a list is wide, as of version 2: it has up to 24 nodes, and its frames carry as many members
abbrev pub is_wide : Medl → Bool
is_wide list = list.version == 2

-- the bytes of a membership in a list's frames
abbrev pub member_bytes : Bool → ℕ
member_bytes wide = if wide then 3 else 2

abbrev pub member_width : Medl → ℕ
member_width list = member_bytes (is_wide list)

-- the most nodes of a list: one for each bit of a membership; the number that those bits make is below the other limit
abbrev pub node_limit : Medl → ℕ
node_limit list = 8 * member_width list

abbrev pub member_limit : Medl → ℕ
member_limit list = 2 ^ node_limit list

-- Slots.

-- a frame that carries no payload, whatever its slot's size is
abbrev pub is_bare : Kind → Bool
is_bare kind.I = true
is_bare kind.N = false
is_bare kind.X = false

-- a slot that is not there
abbrev pub no_plan : SlotPlan
no_plan = record { kinds = []; payload = 0; sync = false; start = false; requests = false; live = 0 }

-- what a list says of a slot
abbrev pub plan_at : Medl → ℕ → SlotPlan
plan_at list slot = unwrap_or (slice_get list.slots slot) no_plan

-- the kind of a slot's frame in a round
abbrev pub kind_at : Medl → ℕ → ℕ → Kind
kind_at list round slot = unwrap_or (slice_get (plan_at list slot).kinds round) kind.I

-- the bytes of payload that a slot's frame carries in a round
abbrev pub payload_length : Medl → ℕ → ℕ → ℕ
payload_length list round slot = if is_bare (kind_at list round slot) then 0 else (plan_at list slot).payload

-- the slot's node may send a cold-start frame
abbrev pub may_start : Medl → ℕ → Bool
may_start list slot = (plan_at list slot).start

-- Valid lists.

-- the schedule's number has 24 bits
abbrev pub schedule_limit : ℕ
schedule_limit = 2 ^ 24

-- a slot of a cycle of so many rounds and modes has one kind for each round, a size only where a frame carries
-- payload, and payload where it asks for modes; it is live in some of the modes
pub record IsValidSlot (rounds modes : ℕ) (plan : SlotPlan) : Type 0 where
  pub kinds : length plan.kinds ≡ rounds
  pub payload : plan.payload ≤ 240
  pub bare : IsTrue (list_all is_bare plan.kinds) → plan.payload ≡ 0
  pub requests : IsTrue plan.requests → 1 ≤ plan.payload
  pub live : plan.live < 2 ^ modes

-- a number of microticks lies from 0, or from 1, up to a limit
abbrev pub IsWithin : ℕ → ℕ → ℤ → Type 0
IsWithin low high z = (pos low ≤ℤ z) × (z ≤ℤ pos high)

-- each number is in its range, each slot is valid, and four or more slots have `sync`
pub record IsValid (list : Medl) : Type 0 where
  pub version : (1 ≤ list.version) × (list.version ≤ 2)
  pub rounds : (1 ≤ list.rounds) × (list.rounds ≤ 64)
  pub schedule : list.schedule < schedule_limit
  pub buffers : (1 ≤ list.buffers) × (list.buffers ≤ 16)
  pub drift : IsWithin 0 1000 list.drift
  pub error : IsWithin 0 1000 list.error
  pub window : IsWithin 1 1000000 list.window
  pub modes : (1 ≤ list.modes) × (list.modes ≤ 8)
  pub count : (4 ≤ length list.slots) × (length list.slots ≤ node_limit list)
  pub slots : AllByRecursion (IsValidSlot list.rounds list.modes) list.slots
  pub sync : 4 ≤ count_by (λ plan. plan.sync) list.slots
