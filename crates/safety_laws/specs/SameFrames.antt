-- What nodes make of each other's frames, slot by slot, that a group of them makes the same of each, and that the
-- nodes of a group stand at one place of one stint.
--
-- A group of nodes is a test of their numbers. A history has its newest slot first, and its length is the number of the
-- slot after it.
use Rattle.std.specs.Prelude.{◌≡◌, ◌≢◌, ℕ, ◌<◌, ◌≤◌, Bool, false, true, ◌&&◌, ◌==◌, List, [], ◌∷◌, length, IsTrue}
use Rattle.std.specs.Prelude.{Option, Some, None}
use Rattle.ttp_world.specs.declared.medl.Medl.{Medl}
use Rattle.ttp_world.specs.declared.node.Entry.{Entry}
use Rattle.ttp_world.specs.declared.node.Entry.TheVariants as entry
use Rattle.ttp_world.specs.declared.script.Script.{Script}
use Rattle.ttp_world.specs.Acknowledgement.{is_correct}
use Rattle.ttp_world.specs.Diary.{History, entry_of, diary_of, continues_stint, place_of}
use Rattle.ttp_world.specs.Messages.{message_of, delivered_of, new_messages}
use Rattle.ttp_world.specs.Outgoing.{message_chosen}
use Rattle.precision.specs.Together.{IsIn}

-- by this entry a node judged the frame of node p correct
abbrev pub accepts : ℕ → Entry → Bool
accepts p (entry.Judged sender v deviation) = (sender == p) && is_correct v
accepts p _ = false

-- by this entry a node sent its frame, which is no cold start
abbrev pub sends_frame : Entry → Bool
sends_frame (entry.Sent message) = true
sends_frame _ = false

-- the message that node k sent in a slot, as one or none, by the number that its entry tells
abbrev pub payload_of_number : Medl → Script → ℕ → ℕ → Option ℕ → List (List ℕ)
payload_of_number list script slot k None = []
payload_of_number list script slot k (Some i) = (message_chosen list script slot k (Some i)).payload ∷ []

-- the message that node k sent in a slot, as one or none, by its entry
abbrev pub message_given : Medl → Script → ℕ → ℕ → Entry → List (List ℕ)
message_given list script slot k e = payload_of_number list script slot k (message_of e)

-- in the slot of a row after a history
pub record AcceptsAlike (list : Medl) (script : Script) (group : ℕ → Bool) (row : List Entry) (history : History)
    : Type 0 where
  -- any two nodes of the group accept the same frames of third nodes
  pub third : (j k p : ℕ) → IsIn list group j → IsIn list group k → p ≢ j → p ≢ k
      → accepts p (entry_of row j) ≡ accepts p (entry_of row k)
  -- and each accepts the frame that another sends
  pub sent : (j k : ℕ) → IsIn list group j → IsIn list group k → j ≢ k → IsTrue (sends_frame (entry_of row k))
      → IsTrue (accepts k (entry_of row j))
  -- their hosts get the same messages of third nodes
  pub received : (j k p : ℕ) → IsIn list group j → IsIn list group k → p ≢ j → p ≢ k
      → new_messages p (delivered_of list script history row j)
      ≡ new_messages p (delivered_of list script history row k)
  -- of each other's frames they get the message that was sent, and of their own frames nothing
  pub given : (j k : ℕ) → IsIn list group j → IsIn list group k → j ≢ k
      → new_messages k (delivered_of list script history row j)
      ≡ message_given list script (length history) k (entry_of row k)
  pub own : (k : ℕ) → IsIn list group k → new_messages k (delivered_of list script history row k) ≡ []

-- the nodes of a group accept and deliver alike in each slot of a history from slot s on
abbrev pub AcceptsAlikeSince : Medl → Script → (ℕ → Bool) → ℕ → History → Type 0
AcceptsAlikeSince list script group s [] = Unit {0}
AcceptsAlikeSince list script group s (row ∷ history) =
    (s ≤ length history → AcceptsAlike list script group row history)
    × AcceptsAlikeSince list script group s history

-- One stint.

-- by this entry a stint begins at time 0: with the cold start, or a join on it
abbrev pub begins_at_zero : Entry → Bool
begins_at_zero entry.Started = true
begins_at_zero (entry.Joined sender cstate deviation) = cstate.time == 0
begins_at_zero _ = false

-- in the slot of a row after a history, where the stints of a group's nodes began in slot s
pub record StandsAlike (list : Medl) (group : ℕ → Bool) (s : ℕ) (row : List Entry) (history : History) : Type 0 where
  pub begins : (k : ℕ) → IsIn list group k → length history ≡ s → IsTrue (begins_at_zero (entry_of row k))
  pub goes_on : (k : ℕ) → IsIn list group k → s < length history → IsTrue (continues_stint (entry_of row k))
  -- any two stand at one place after it
  pub places : (j k : ℕ) → IsIn list group j → IsIn list group k
      → place_of list j (diary_of (row ∷ history) j) ≡ place_of list k (diary_of (row ∷ history) k)

-- the nodes of a group stand alike after each slot of a history from slot s on
abbrev pub StandsAlikeSince : Medl → (ℕ → Bool) → ℕ → History → Type 0
StandsAlikeSince list group s [] = Unit {0}
StandsAlikeSince list group s (row ∷ history) =
    (s ≤ length history → StandsAlike list group s row history) × StandsAlikeSince list group s history
