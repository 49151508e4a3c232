-- What the three passes of a slot make of a cluster's nodes, in the words of the world's slot.
use Rattle.std.specs.Prelude.{◌≡◌, ℕ, ◌<◌, ℤ, true, List, [], ◌∷◌, ◌++◌, length, min, Option, is_some}
use Rattle.ttp_world.specs.declared.medl.Medl.{Medl}
use Rattle.ttp_world.specs.declared.node.Chosen.{Chosen}
use Rattle.ttp_world.specs.declared.node.Delivered.{Delivered}
use Rattle.ttp_world.specs.declared.script.Script.{Script}
use Rattle.ttp_world.specs.Act.{act}
use Rattle.ttp_world.specs.Conduct.{node_frames}
use Rattle.ttp_world.specs.Diary.{History, diary_of, entry_of}
use Rattle.ttp_world.specs.Medium.{SentFrame, surroundings_of}
use Rattle.ttp_world.specs.Medl.{plan_at}
use Rattle.ttp_world.specs.Messages.{status_words}
use Rattle.ttp_world.specs.Script.{is_armed, is_on, jump_of}
use Rattle.ttp_world.specs.World.{BegunSlot, jump_taken, node_of, node_past, slot_after, is_loaded, chosen_of}
use Rattle.ttp_world.specs.World.{frames_in}
use Rattle.ttp_world.specs.World.{delivered_in, row_in}
use Rattle.medium.specs.Carried.{Carried}
use Rattle.medium.specs.StandsFor.{MediumStandsFor}
use Rattle.controller.specs.declared.controller.Intent.{Intent}
use Rattle.controller.specs.declared.controller.Intent.TheVariants as intent
use Rattle.controller.specs.declared.controller.Outcome.{Outcome}
use Rattle.controller.specs.declared.seat.Seat.{Seat}
use Rattle.controller.specs.Kept.{kept}
use Rattle.controller.specs.Limits.{IsPlanned, intent_by, view_clock, view_intent}
use Rattle.controller.specs.Parts.{EachFrom}
use Rattle.controller.specs.StandsFor.{ControllerStandsFor, IsSameNode, message_planned, frames_planned, most_slots}
use Rattle.controller.specs.ControllerView.{Turn, Begun, Planned, ControllerView}

-- Between two slots.

-- node k's controller stands for its diary in a history, and for what came to the node from outside
abbrev pub StandsAfter : Script → History → ℕ → ControllerView → Type 0
StandsAfter script history k view = ControllerStandsFor view (diary_of history k) (surroundings_of script history k)

-- so do the controllers of the nodes from a first one on
abbrev pub StandAfter : Script → History → ℕ → List Seat → Type 0
StandAfter script history first seats =
    EachFrom first (λ k seat. StandsAfter script history k seat.controller) seats

-- In a slot.

-- A controller stands for node k of a slot that has begun, at this turn of it: it keeps the node's past.
pub record StandsForNode (s : BegunSlot) (k : ℕ) (now : Turn) (view : ControllerView) : Type 0 where
  pub list : view.list ≡ s.list
  pub node : view.node ≡ k
  pub past : view.past ≡ kept (node_of s k).past
  pub slots : view.slots ≡ min s.number most_slots
  pub turn : view.turn ≡ now

-- by how much its clock jumped
abbrev pub jump_begun : BegunSlot → ℕ → ℤ
jump_begun s k = jump_taken (node_of s k).act (jump_of s.script k s.number)

-- the first pass: a controller stands for node k in the slot that has begun, with what it does and its clock's jump
abbrev pub HasBegun : BegunSlot → ℕ → ControllerView → Type 0
HasBegun s k view = StandsForNode s k (Begun (node_of s k).act (jump_begun s k)) view

-- the first pass: the controllers of some seats stand for their nodes in the slot that has begun, from a first node on
abbrev pub HaveBegun : BegunSlot → ℕ → List Seat → Type 0
HaveBegun s first seats = EachFrom first (λ k seat. HasBegun s k seat.controller) seats

-- The second: each has planned it, where this message is chosen for its node, and what it sends is on the medium.

-- each node whose frame carries a message has one with as much payload as the list gives it
abbrev pub AreChosen : BegunSlot → List Chosen → Type 0
AreChosen s chosen =
    (k : ℕ) → k < length s.list.slots → is_loaded s k ≡ true
    → length (chosen_of chosen k).payload ≡ (plan_at s.list k).payload

-- So it is by what the controllers keep, whatever they stand for: where the frame of a controller's node carries a
-- message, the one that is chosen has as much payload as the list gives the node.

-- the message that is chosen has as much payload as the list gives the node, where the node's frame carries one
abbrev pub IsPayloadFor : ControllerView → Chosen → Type 0
IsPayloadFor view chosen =
    view_intent view ≡ intent.Loaded → length chosen.payload ≡ (plan_at view.list view.node).payload

-- for the controllers of the nodes from a first one on
abbrev pub ArePayloadsFor : List Chosen → ℕ → List Seat → Type 0
ArePayloadsFor chosen first seats = EachFrom first (λ k seat. IsPayloadFor seat.controller (chosen_of chosen k)) seats

-- what node k is to send in a slot, by what its controller keeps before it
abbrev pub intent_before : Script → ℕ → ℕ → ControllerView → Intent
intent_before script slot k view =
    intent_by view.list view.past
    (act view.list view.node (is_on script k slot) (is_armed script k slot) view.past)

-- before a slot: where node k is to send a frame with payload in it, the payload is as long as the list says
abbrev pub IsPayloadBefore : Script → ℕ → Chosen → ℕ → ControllerView → Type 0
IsPayloadBefore script slot chosen k view =
    intent_before script slot k view ≡ intent.Loaded
    → length chosen.payload ≡ (plan_at view.list view.node).payload

-- before a slot: where nodes of some seats, from a first one on, are to send frames with payload, it is as long as the
-- list says
abbrev pub ArePayloadsBefore : Script → ℕ → List Chosen → ℕ → List Seat → Type 0
ArePayloadsBefore script slot chosen first seats =
    EachFrom first (λ k seat. IsPayloadBefore script slot (chosen_of chosen k) k seat.controller) seats

-- the payload that is handed to a node that will send this
abbrev pub payload_handed : Intent → Chosen → List ℕ
payload_handed intent.Quiet chosen = []
payload_handed intent.Bare chosen = []
payload_handed intent.Loaded chosen = chosen.payload

-- the second pass: a controller stands for node k in the slot, with its frame planned
abbrev pub HasPlanned : BegunSlot → Chosen → ℕ → ControllerView → Type 0
HasPlanned s chosen k view =
    StandsForNode s k
    (Planned (node_of s k).act (jump_begun s k)
    (message_planned s.list (node_of s k).past chosen (node_of s k).act)) view

-- the second pass: the controllers of some seats stand for their nodes with their frames planned, from a first node on
abbrev pub HavePlanned : BegunSlot → List Chosen → ℕ → List Seat → Type 0
HavePlanned s chosen first seats =
    EachFrom first (λ k seat. HasPlanned s (chosen_of chosen k) k seat.controller) seats

-- the frames that node k sends, where this message is chosen for it
abbrev pub frames_by : BegunSlot → Chosen → ℕ → List SentFrame
frames_by s chosen k = node_frames s.list k (node_of s k).past chosen (node_of s k).act

-- the medium stands for frames that were sent in the slot, with the clocks of its nodes
abbrev pub CarriesFrames : BegunSlot → List SentFrame → Carried → Type 0
CarriesFrames s frames carried = MediumStandsFor carried s.script s.number frames (λ p. (node_of s p).clock)

-- The third: each stands for its diary with the slot's entry, and leaves what its node's host is to get.

-- what node r delivers in a slot in which these messages are chosen
abbrev pub delivered_at : BegunSlot → List Chosen → ℕ → Option Delivered
delivered_at s chosen r = delivered_in s (frames_in s chosen) r (entry_of (row_in s chosen) r)

-- the payload that node k delivers, and its status after the slot
pub record IsOutcomeOf (list : Medl) (script : Script) (history : History) (chosen : List Chosen) (k : ℕ)
    (outcome : Outcome) : Type 0 where
  pub delivered : outcome.delivered ≡ delivered_at (slot_after list script history) chosen k
  pub status : outcome.status.words
      ≡ status_words list (length history)
      (node_past list script (row_in (slot_after list script history) chosen ∷ history) k)
      (is_some (delivered_at (slot_after list script history) chosen k))

-- the payloads that the nodes of some seats deliver, from a first one on, and their statuses after the slot
abbrev pub AreLeft : Medl → Script → History → List Chosen → ℕ → List Seat → Type 0
AreLeft list script history chosen first seats =
    EachFrom first (λ k seat. IsOutcomeOf list script history chosen k seat.outcome) seats

-- the nodes from a first one on, after a slot
pub record HaveEnded (list : Medl) (script : Script) (history : History) (chosen : List Chosen) (first : ℕ)
    (seats : List Seat) : Type 0 where
  pub stand : StandAfter script (row_in (slot_after list script history) chosen ∷ history) first seats
  pub left : AreLeft list script history chosen first seats

-- What each pass makes of one controller.

-- whatever history of so many slots it stood for, it has begun the slot after it
abbrev pub BeginsSlot : Medl → Script → ℕ → ℕ → ControllerView → ControllerView → Type 0
BeginsSlot list script slot k old new =
    (history : History) → length history ≡ slot → StandsAfter script history k old
    → HasBegun (slot_after list script history) k new

-- whatever slot it has begun, it has planned it, and sends these bytes, or nothing, by the message that is chosen
abbrev pub PlansSlot : ControllerView → ControllerView → Chosen → Option (List ℕ) → Type 0
PlansSlot old new chosen bytes =
    (list : Medl) (script : Script) (history : History) (k : ℕ) →
    let s = slot_after list script history in
    k < length list.slots → HasBegun s k old
    → HasPlanned s chosen k new × (frames_planned k bytes ≡ frames_by s chosen k)

-- one of node k
abbrev pub PlansIn : Medl → Script → ℕ → Chosen → ControllerView → ControllerView → Type 0
PlansIn list script k chosen old new =
    (history : History) → HasBegun (slot_after list script history) k old
    → HasPlanned (slot_after list script history) chosen k new

-- and what it sends is put on the medium
abbrev pub PutsFrames : Medl → Script → ℕ → ControllerView → Chosen → Carried → Carried → Type 0
PutsFrames list script k old chosen before after =
    (history : History) (frames : List SentFrame) →
    let s = slot_after list script history in
    HasBegun s k old → CarriesFrames s frames before → CarriesFrames s (frames ++ frames_by s chosen k) after

-- whatever slot it has planned, and whatever was chosen in it, if this medium carries the frames of that slot, it
-- stands for its diary after it, and leaves what its host is to get
abbrev pub EndsSlot : Medl → Script → Carried → ℕ → ControllerView → ControllerView → Outcome → Type 0
EndsSlot list script carried k old new outcome =
    (history : History) (chosen : List Chosen) →
    let s = slot_after list script history in
    HasPlanned s (chosen_of chosen k) k old → CarriesFrames s (frames_in s chosen) carried
    → StandsAfter script (row_in s chosen ∷ history) k new × IsOutcomeOf list script history chosen k outcome

-- what is on the medium was sent in a slot, by nodes whose clocks are so far ahead
pub record IsFromClocks (carried : Carried) (script : Script) (slot : ℕ) (clock : ℕ → ℤ) : Type 0 where
  pub frames : List SentFrame
  pub stands : MediumStandsFor carried script slot frames clock

-- once what node k sends is put, all on the medium was still sent in a slot by nodes whose clocks are so far ahead
abbrev pub KeepsClocks : Script → ℕ → ControllerView → Carried → Carried → Type 0
KeepsClocks script k old before after =
    (slot : ℕ) (clock : ℕ → ℤ) → view_clock old ≡ clock k → IsFromClocks before script slot clock
    → IsFromClocks after script slot clock

-- it stays the controller of its node, with the clock of the slot, and has planned
pub record IsPlannedFrom (old new : ControllerView) : Type 0 where
  pub same : IsSameNode old new
  pub clock : view_clock new ≡ view_clock old
  pub turn : IsPlanned new.turn

-- a seat of node k has planned, and what it sends is put on the medium
pub record SendsOne (list : Medl) (script : Script) (k : ℕ) (chosen : Chosen) (old new : Seat) (before after : Carried)
    : Type 0 where
  pub planned : IsPlannedFrom old.controller new.controller
  pub plans : PlansIn list script k chosen old.controller new.controller
  pub incidents : new.incidents ≡ old.incidents
  pub puts : PutsFrames list script k old.controller chosen before after
  pub clocks : KeepsClocks script k old.controller before after
