-- Nodes that run together: they begin in one slot on one frame, and from then on note the deviations of the same
-- frames.
--
-- A group of nodes is a test of their numbers. A history has its newest slot first, and its length is the number of the
-- slot after it.
use Rattle.std.specs.Prelude.{◌≡◌, ℕ, ◌+◌, ◌<◌, ◌≤◌, ℤ, pos, neg_ℤ, ◌-ℤ◌, ◌≤ℤ◌, Bool, ◌⊎◌, List, [], ◌∷◌, length, None}
use Rattle.std.specs.Prelude.{IsTrue}
use Rattle.ttp_world.specs.declared.medl.Medl.{Medl}
use Rattle.ttp_world.specs.declared.node.Entry.{Entry}
use Rattle.ttp_world.specs.declared.node.Entry.TheVariants as entry
use Rattle.ttp_world.specs.declared.script.Script.{Script}
use Rattle.ttp_world.specs.Acknowledgement.{is_correct}
use Rattle.ttp_world.specs.Clock.{notes_in, notes_of}
use Rattle.ttp_world.specs.Diary.{Diary, History, entry_of, diary_of, continues_stint, Place, start_place, joined_place}
use Rattle.ttp_world.specs.Diary.{place_of, ends_round}
use Rattle.ttp_world.specs.Hypothesis.{clocks_broken}
use Rattle.ttp_world.specs.Script.{jump_of}
use Rattle.ttp_world.specs.World.{node_after, slot_after, deviation_in}

-- Clocks.

-- node k's clock at the beginning of the slot after a history
abbrev pub clock_at : Medl → Script → History → ℕ → ℤ
clock_at list script history k = (node_after list script history k).clock

-- the deviation that node r measures of a frame of node p in the slot after a history
abbrev pub measured : Medl → Script → History → ℕ → ℕ → ℤ
measured list script history r p = deviation_in (slot_after list script history) r p

-- Beginning together.

-- a node of the list that is in the group
abbrev pub IsIn : Medl → (ℕ → Bool) → ℕ → Type 0
IsIn list group k = (k < length list.slots) × IsTrue (group k)

-- by this entry node k begins a stint at a place, on a frame of node p: its own start, or a join
abbrev pub BeginsOn : Medl → Script → History → ℕ → Place → ℕ → Entry → Type 0
BeginsOn list script history p place k entry.Started = (k ≡ p) × (place ≡ start_place k)
BeginsOn list script history p place k (entry.Joined sender cstate deviation) =
    (place ≡ joined_place cstate) × (deviation ≡ measured list script history k p)
BeginsOn list script history p place k _ = ⊥

-- in the slot of a row after a history, each node of the group begins on a frame of the same node at the same place
pub record BeganTogether (list : Medl) (script : Script) (group : ℕ → Bool) (row : List Entry) (history : History)
    : Type 0 where
  pub sender : ℕ
  pub place : Place
  pub inside : place.slot < length list.slots
  pub begins : (k : ℕ) → IsIn list group k → BeginsOn list script history sender place k (entry_of row k)

-- Staying together.

-- what node k noted in the newest slot of its diary
abbrev pub newest_notes : Medl → ℕ → Diary → List ℤ
newest_notes list k [] = []
newest_notes list k (e ∷ diary) = notes_in list (place_of list k (e ∷ diary)) e

-- this entry of node k tells of a frame of node p: its own, or one that it found correct and measured
abbrev pub TellsOf : Medl → Script → History → ℕ → ℕ → Entry → Type 0
TellsOf list script history p k (entry.Sent message) = k ≡ p
TellsOf list script history p k (entry.Judged sender v deviation) =
    IsTrue (is_correct v) × (deviation ≡ measured list script history k p)
TellsOf list script history p k _ = ⊥

-- in the slot of a row after a history, no node of the group notes anything, or the entry of each tells of a frame of
-- the same node
pub data NotedAlike (list : Medl) (script : Script) (group : ℕ → Bool) (row : List Entry) (history : History)
    : Type 0 where
  Nothing : ((k : ℕ) → IsIn list group k → newest_notes list k (diary_of (row ∷ history) k) ≡ [])
      → NotedAlike list script group row history
  OneFrame : (p : ℕ)
      → ((k : ℕ) → IsIn list group k → TellsOf list script history p k (entry_of row k))
      → NotedAlike list script group row history

-- with this row a round of node k ends that began after slot s
abbrev pub EndsLaterRound : Medl → ℕ → ℕ → List Entry → History → Type 0
EndsLaterRound list s k row history =
    IsTrue (ends_round list (place_of list k (diary_of (row ∷ history) k))) × (s + length list.slots ≤ length history)

-- in the slot of a row after a history, each node of the group goes on, all note alike, and those whose round ends
-- there noted enough in it for an average
pub record StayedTogether (list : Medl) (script : Script) (group : ℕ → Bool) (s : ℕ) (row : List Entry)
    (history : History) : Type 0 where
  pub active : (k : ℕ) → IsIn list group k → IsTrue (continues_stint (entry_of row k))
  pub noted : NotedAlike list script group row history
  pub enough : (k : ℕ) → IsIn list group k → EndsLaterRound list s k row history
      → 4 ≤ length (notes_of list k (diary_of (row ∷ history) k))

-- the group began together in slot s, and stayed together in each slot since
abbrev pub RanTogether : Medl → Script → (ℕ → Bool) → ℕ → History → Type 0
RanTogether list script group s [] = ⊥
RanTogether list script group s (row ∷ history) =
    ((length history ≡ s) × BeganTogether list script group row history)
    ⊎ (RanTogether list script group s history × StayedTogether list script group s row history)

-- Runs.

-- no clock of the group jumps in slots from s to t
abbrev pub NoneJumps : Medl → Script → (ℕ → Bool) → ℕ → ℕ → Type 0
NoneJumps list script group s t = (k slot : ℕ) → IsIn list group k → s ≤ slot → slot ≤ t → jump_of script k slot ≡ pos 0

-- in a run by a script whose drifts and reading errors keep the list's bounds, the group runs together from slot s on
pub record IsCommonRun (list : Medl) (script : Script) (group : ℕ → Bool) (s : ℕ) (history : History) : Type 0 where
  pub bounds : clocks_broken list script ≡ None
  pub within : length history ≤ script.slots
  pub jumps : NoneJumps list script group s (length history)
  pub together : RanTogether list script group s history

-- the clocks of any two nodes that ran together are then no further apart
unfoldable pub HoldsClocksWithin : Medl → ℤ → Type 0
HoldsClocksWithin list bound =
    (script : Script) (group : ℕ → Bool) (s : ℕ) (history : History) → IsCommonRun list script group s history
    → (j k : ℕ) → IsIn list group j → IsIn list group k
    → (clock_at list script history j -ℤ clock_at list script history k) ≤ℤ bound

-- what one of them measures of another's frame then lies no further from 0
unfoldable pub HoldsDeviationsWithin : Medl → ℤ → Type 0
HoldsDeviationsWithin list bound =
    (script : Script) (group : ℕ → Bool) (s : ℕ) (history : History) → IsCommonRun list script group s history
    → length history < script.slots
    → (r p : ℕ) → IsIn list group r → IsIn list group p
    → (neg_ℤ bound ≤ℤ measured list script history r p) × (measured list script history r p ≤ℤ bound)
