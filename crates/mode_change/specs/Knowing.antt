-- What is known of modes while a trace is read, and what it stands for.
use Rattle.std.specs.Prelude.{◌≡◌, ℕ, ◌<◌, Bool, List, [], ◌∷◌, length, get_or, Option, Some, None, IfSome}
use Rattle.ttp_world.specs.declared.medl.Medl.{Medl}
use Rattle.ttp_world.specs.declared.node.Chosen.{Chosen}
use Rattle.ttp_world.specs.declared.node.Delivered.{Delivered}
use Rattle.ttp_world.specs.declared.node.Entry.{Entry}
use Rattle.ttp_world.specs.declared.node.Entry.TheVariants as entry
use Rattle.ttp_world.specs.declared.script.Script.{Script}
use Rattle.ttp_world.specs.After.{place_after}
use Rattle.ttp_world.specs.Diary.{History, entry_of, diary_of, place_of}
use Rattle.ttp_world.specs.Messages.{delivered_of}
use Rattle.ttp_world.specs.World.{chosen_of}
use Rattle.node_parts.specs.ClockStandsFor.{ClockStandsFor}
use Rattle.controller.specs.PlantStands.{PlantStandsFor, outcome_at}
use Rattle.controller.specs.PlantView.{PlantView}
use Rattle.mode_change.specs.declared.node.Modes.{Modes}
use Rattle.mode_change.specs.declared.node.NodeModes.{NodeModes}
use Rattle.mode_change.specs.Modes.{mode_asked, mode_delivered, mode_requested, modes_of, live_in}

-- One node.

-- the place of a join is one of the list's
abbrev pub IsJoinOfList : Medl → Entry → Type 0
IsJoinOfList list (entry.Joined sender c deviation) = (c.round < list.rounds) × (c.slot < length list.slots)
IsJoinOfList list _ = Unit {0}

-- what was delivered came from a node of the list
abbrev pub IsFromList : Medl → Option Delivered → Type 0
IsFromList list delivered = IfSome delivered (λ d. d.sender < length list.slots)

-- a list has at most eight modes
abbrev pub AreSmall : Modes → Type 0
AreSmall modes = IfSome modes.mode (λ m. m < 8) × IfSome modes.next (λ m. m < 8)

-- the mode for which node k was asked, by its entry, the payload that was chosen for its frame, and what it delivered
abbrev pub mode_by : Medl → ℕ → Entry → List ℕ → Option Delivered → Option ℕ
mode_by list k (entry.Sent (Some i)) payload delivered = mode_asked list k payload
mode_by list k _ payload delivered = mode_delivered list delivered

-- whether what node k delivered in the newest slot was live
abbrev pub newest_live : Medl → Script → History → ℕ → Option Bool
newest_live list script [] k = None
newest_live list script (row ∷ before) k = live_in list script row before k

-- all of this is known of node k after a history
pub record KnowsModes (node : NodeModes) (list : Medl) (script : Script) (history : History) (k : ℕ) : Type 0 where
  pub clock : ClockStandsFor node.clock list (place_of list k (diary_of history k))
  pub modes : node.modes ≡ modes_of list script history k
  pub live : node.live ≡ newest_live list script history k
  pub small : AreSmall node.modes

-- All nodes.

-- the modes of each node of the list are known
pub record KnowAll (nodes : List NodeModes) (list : Medl) (script : Script) (history : History) : Type 0 where
  pub count : length nodes ≡ length list.slots
  pub each : (k : ℕ) (node : NodeModes) → k < length list.slots → node ≡ get_or nodes k node
      → KnowsModes node list script history k

-- A plant is past the slot of a row after a history, in which these messages were chosen.
pub record IsPastRow (plant : PlantView) (chosen : List Chosen) (list : Medl) (script : Script) (row : List Entry)
    (history : History) : Type 0 where
  pub same : plant.list ≡ list
  pub stands : PlantStandsFor plant script (row ∷ history)
  pub nodes : length chosen ≡ length list.slots
  -- what each node was asked for and delivered can be told by what it did
  pub asked : (k : ℕ) → k < length list.slots
      → mode_by list k (entry_of row k) (chosen_of chosen k).payload (outcome_at plant k).delivered
      ≡ mode_requested list script row history k
  pub delivered : (k : ℕ) → k < length list.slots
      → (outcome_at plant k).delivered ≡ delivered_of list script history row k
  pub from : (k : ℕ) → k < length list.slots → IsFromList list (outcome_at plant k).delivered
  -- the place of each node can be told by what it did
  pub join : (k : ℕ) → k < length list.slots → IsJoinOfList list (entry_of row k)
  pub place : (k : ℕ) → k < length list.slots
      → place_of list k (diary_of (row ∷ history) k)
      ≡ place_after list k (place_of list k (diary_of history k)) (entry_of row k)

-- a plant went one slot on from some history after which the modes of all nodes were known
pub record HasStepped (plant : PlantView) (chosen : List Chosen) (nodes : List NodeModes) (list : Medl) : Type 0 where
  pub script : Script
  pub row : List Entry
  pub history : History
  pub past : IsPastRow plant chosen list script row history
  pub known : KnowAll nodes list script history

-- all is known of the nodes after a slot of this number, for some script and history
pub record IsKnownAfter (nodes : List NodeModes) (list : Medl) (slot : ℕ) : Type 0 where
  pub script : Script
  pub row : List Entry
  pub history : History
  pub slots : slot ≡ length history
  pub known : KnowAll nodes list script (row ∷ history)
