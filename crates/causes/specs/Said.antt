-- What nodes said of others, and where they come from.
use Rattle.std.specs.Option.{option_or}
use Rattle.std.specs.Prelude.{Bool, List, None, Option, Some, [], false, if◌then◌else◌, is_some, true, ℕ, ◌∷◌}
use Rattle.causes.specs.LinesOf.{heard_in, is_as_sent}
use Rattle.causes.specs.RunSlots.{RunSlot, RunSlots, entry_in_slot, is_joined, is_started, node_spot, past_in}
use Rattle.causes.specs.declared.cause.Spot.{Spot}
use Rattle.ttp_world.specs.Diary.{begins_stint}
use Rattle.ttp_world.specs.Fitting.{joinable}
use Rattle.ttp_world.specs.Medium.{Bits, Signal}
use Rattle.ttp_world.specs.Membership.{opinion}
use Rattle.ttp_world.specs.declared.medl.Medl.{Medl}
use Rattle.ttp_world.specs.declared.script.Channel.TheVariants as channel

-- the frame on which a node joined
pub record JoinedFrame : Type 0 where
  pub sender : ℕ
  pub is_as_sent : Bool

-- the frame of a channel, where a node can join on it
abbrev pub frame_to_join : Medl → RunSlot → Signal → Option JoinedFrame
frame_to_join list s (Bits p bytes) =
    if is_some (joinable list bytes) then Some (record { sender = p; is_as_sent = is_as_sent s p bytes }) else None
frame_to_join list s _ = None

-- the frame on which node k joins: on the first channel that brings it one
abbrev pub frame_joined : ℕ → RunSlot → Option JoinedFrame
frame_joined k s =
    option_or (frame_to_join s.begun.list s (heard_in k s channel.A))
    (frame_to_join s.begun.list s (heard_in k s channel.B))

-- the node that sent it, where it came as it was sent
abbrev pub sender_as_sent : Option JoinedFrame → Option ℕ
sender_as_sent None = None
sender_as_sent (Some joined) = if joined.is_as_sent then Some joined.sender else None

-- the node on whose frame, as it was sent, node k joins in a slot
abbrev pub joined_from : ℕ → RunSlot → Option ℕ
joined_from k s = elim (is_joined (entry_in_slot k s)) [ true ↦ sender_as_sent (frame_joined k s) | false ↦ None ]

-- node x's entry of a slot speaks of node j
abbrev pub speaks_of : ℕ → ℕ → RunSlot → Bool
speaks_of x j s = is_some (opinion x j (entry_in_slot x s) (past_in x s).ack)

-- Said(x, j): the newest entry of node x in these slots that speaks of node j. A join speaks for the node on whose
-- frame it was, as this one was sent.
abbrev pub said : ℕ → ℕ → RunSlots → Spot
said x j [] = record { slot = 0; node = x }
said x j (s ∷ before) = elim (speaks_of x j s) [
  | false ↦ said x j before
  | true ↦ elim (joined_from x s) [
    | None ↦ node_spot x s
    | Some p ↦ elim (is_started (entry_in_slot p s)) [ true ↦ node_spot p s | false ↦ said p j before ]
  ]
]

-- Root(x): the newest start or join of node x in these slots, or that of the node on whose frame it joined
abbrev pub root : ℕ → RunSlots → Spot
root x [] = record { slot = 0; node = x }
root x (s ∷ before) = elim (begins_stint (entry_in_slot x s)) [
  | false ↦ root x before
  | true ↦ elim (joined_from x s) [
    | None ↦ node_spot x s
    | Some p ↦ elim (is_started (entry_in_slot p s)) [ true ↦ node_spot p s | false ↦ root p before ]
  ]
]

-- Path(x): the root, and all joins on the way to it
abbrev pub path : ℕ → RunSlots → List Spot
path x [] = []
path x (s ∷ before) = elim (begins_stint (entry_in_slot x s)) [
  | false ↦ path x before
  | true ↦ elim (joined_from x s) [
    | None ↦ node_spot x s ∷ []
    | Some p ↦
        node_spot x s ∷ elim (is_started (entry_in_slot p s)) [ true ↦ node_spot p s ∷ [] | false ↦ path p before ]
  ]
]
