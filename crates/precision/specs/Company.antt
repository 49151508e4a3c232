-- A company: nodes that run together while some of them leave, and others come to it.
--
-- Its group may change from slot to slot: it is said of a group that it ran as a company, and each slot more says which
-- group was before. The newest entry is the slot in which nodes came to it last, or else the one in which it began.
-- Groups and histories are as in Together.
use Rattle.std.specs.Prelude.{◌≡◌, ℕ, ◌+◌, ◌*◌, ◌<◌, ◌≤◌, ℤ, pos, neg_ℤ, ◌-ℤ◌, ◌≤ℤ◌, Bool, true, false, ◌⊎◌, List}
use Rattle.std.specs.Prelude.{[], ◌∷◌, length, None, IsTrue}
use Rattle.ttp_world.specs.declared.medl.Medl.{Medl}
use Rattle.ttp_world.specs.declared.node.Entry.{Entry}
use Rattle.ttp_world.specs.declared.script.Script.{Script}
use Rattle.ttp_world.specs.Diary.{History, entry_of, diary_of, next_place, stint_place}
use Rattle.ttp_world.specs.Hypothesis.{clocks_broken}
use Rattle.ttp_world.specs.Script.{jump_of}
use Rattle.precision.specs.Together.{IsIn, BeginsOn, TellsOf, BeganTogether, NotedAlike, Nothing, OneFrame}
use Rattle.precision.specs.Together.{StayedTogether, clock_at, measured}

-- no clock of the group jumps in the slot after a history
abbrev pub AreCalm : Medl → Script → (ℕ → Bool) → History → Type 0
AreCalm list script group history = (k : ℕ) → IsIn list group k → jump_of script k (length history) ≡ pos 0

-- a node of the group whose clock doesn't jump there
abbrev pub IsCalmIn : Medl → Script → (ℕ → Bool) → History → ℕ → Type 0
IsCalmIn list script group history p = IsIn list group p × (jump_of script p (length history) ≡ pos 0)

-- Going on.

-- what was noted, if anything, was the frame of a node of the group before
abbrev pub IsNotedOf : (list : Medl) (script : Script) (before group : ℕ → Bool) (row : List Entry) (history : History)
    → NotedAlike list script group row history → Type 0
IsNotedOf list script before group row history (Nothing none) = Unit {0}
IsNotedOf list script before group row history (OneFrame p tells) = IsCalmIn list script before history p

-- in the slot of a row after a history, none came to the group that was before, and those that are left stayed
-- together; where others may come to it later, they noted frames of the company alone
pub record StayedInCompany (list : Medl) (script : Script) (may_grow : Bool) (before group : ℕ → Bool) (newest : ℕ)
    (row : List Entry) (history : History) : Type 0 where
  pub less : (k : ℕ) → IsIn list group k → IsTrue (before k)
  pub together : StayedTogether list script group newest row history
  pub noted : IsTrue may_grow → IsNotedOf list script before group row history together.noted

-- Growing.

-- in the slot of a row after a history, two rounds or more after the newest entry, some came to the group that was
-- before: on a frame of one of its nodes, at this one's place, while those of before tell of that frame
pub record GrewTogether (list : Medl) (script : Script) (before group : ℕ → Bool) (newest : ℕ) (row : List Entry)
    (history : History) : Type 0 where
  pub later : newest + 2 * length list.slots ≤ length history
  pub sender : ℕ
  pub member : IsCalmIn list script before history sender
  pub tells : (k : ℕ) → IsIn list group k → before k ≡ true → TellsOf list script history sender k (entry_of row k)
  pub begins : (k : ℕ) → IsIn list group k → before k ≡ false
      → BeginsOn list script history sender (next_place list (stint_place list sender (diary_of history sender))) k
      (entry_of row k)

-- Running.

-- The group ran as a company up to a history, with its newest entry in this slot. Where it may not grow, the newest
-- entry is the slot in which it began.
abbrev pub RanAsCompany : Medl → Script → Bool → (ℕ → Bool) → ℕ → History → Type 0
RanAsCompany list script may_grow group newest [] = ⊥
RanAsCompany list script may_grow group newest (row ∷ history) =
    AreCalm list script group history
    × (((length history ≡ newest) × BeganTogether list script group row history)
    ⊎ (((before : ℕ → Bool)
    × (RanAsCompany list script may_grow before newest history
    × StayedInCompany list script may_grow before group newest row history))
    ⊎ ((length history ≡ newest) × (IsTrue may_grow × ((before : ℕ → Bool) × ((older : ℕ)
    × (RanAsCompany list script may_grow before older history
    × GrewTogether list script before group older row history)))))))

-- in a run by a script whose drifts and reading errors keep the list's bounds, the group ran as a company, and no clock
-- of it jumps in the coming slot
pub record IsCompanyRun (list : Medl) (script : Script) (may_grow : Bool) (group : ℕ → Bool) (newest : ℕ)
    (history : History) : Type 0 where
  pub bounds : clocks_broken list script ≡ None
  pub within : length history ≤ script.slots
  pub calm : AreCalm list script group history
  pub together : RanAsCompany list script may_grow group newest history

-- how many slots of its round are over before the coming slot of node k's stint
abbrev pub slots_over : Medl → History → ℕ → ℕ
slots_over list history k = (next_place list (stint_place list k (diary_of history k))).slot

-- the company may not grow, or its newest entry is two rounds ago, or more than one round before the round of the
-- coming slot
abbrev pub IsCompanySettled : Medl → Bool → (ℕ → Bool) → ℕ → History → Type 0
IsCompanySettled list may_grow group newest history =
    (may_grow ≡ false)
    ⊎ ((newest + 2 * length list.slots ≤ length history)
    ⊎ ((k : ℕ) → IsIn list group k → newest + length list.slots + slots_over list history k < length history))

-- Bounds.

-- clocks of any two nodes of a company are no further apart
unfoldable pub HoldsCompanyClocksWithin : Medl → ℤ → Type 0
HoldsCompanyClocksWithin list bound =
    (script : Script) (may_grow : Bool) (group : ℕ → Bool) (newest : ℕ) (history : History)
    → IsCompanyRun list script may_grow group newest history
    → (j k : ℕ) → IsIn list group j → IsIn list group k
    → (clock_at list script history j -ℤ clock_at list script history k) ≤ℤ bound

-- those of a settled one are
unfoldable pub HoldsSettledClocksWithin : Medl → ℤ → Type 0
HoldsSettledClocksWithin list bound =
    (script : Script) (may_grow : Bool) (group : ℕ → Bool) (newest : ℕ) (history : History)
    → IsCompanyRun list script may_grow group newest history → IsCompanySettled list may_grow group newest history
    → (j k : ℕ) → IsIn list group j → IsIn list group k
    → (clock_at list script history j -ℤ clock_at list script history k) ≤ℤ bound

-- what one node of a company measures of another's frame lies no further from 0
unfoldable pub HoldsCompanyDeviationsWithin : Medl → ℤ → Type 0
HoldsCompanyDeviationsWithin list bound =
    (script : Script) (may_grow : Bool) (group : ℕ → Bool) (newest : ℕ) (history : History)
    → IsCompanyRun list script may_grow group newest history → length history < script.slots
    → (r p : ℕ) → IsIn list group r → IsIn list group p
    → (neg_ℤ bound ≤ℤ measured list script history r p) × (measured list script history r p ≤ℤ bound)

-- what one node of a settled company measures of another's frame lies no further from 0
unfoldable pub HoldsSettledDeviationsWithin : Medl → ℤ → Type 0
HoldsSettledDeviationsWithin list bound =
    (script : Script) (may_grow : Bool) (group : ℕ → Bool) (newest : ℕ) (history : History)
    → IsCompanyRun list script may_grow group newest history → IsCompanySettled list may_grow group newest history
    → length history < script.slots
    → (r p : ℕ) → IsIn list group r → IsIn list group p
    → (neg_ℤ bound ≤ℤ measured list script history r p) × (measured list script history r p ≤ℤ bound)
