-- Passes over the entries of a run.
use Rattle.std.specs.Prelude.{◌≡◌, ℕ, zero, suc, List, [], ◌∷◌, ◌++◌, ◌==◌, if◌then◌else◌}
use Rattle.causes.specs.Members.{entry_at_spot}
use Rattle.causes.specs.RunSlots.{RunSlots}
use Rattle.causes.specs.Story.{rank_of_entry, reached}
use Rattle.causes.specs.declared.cause.Spot.{Spot}
use Rattle.causes.specs.declared.cause.Told.{Told}
use Rattle.why_story.specs.Marks.{AreMarked}
use Rattle.why_story.specs.RunSource.{spot_at}
use Rattle.why_story.specs.declared.reach.Reach.{Reach}

-- The order turned round, slot by slot.

-- an entry, where it has this rank
abbrev pub of_rank : RunSlots → ℕ → Spot → List Spot
of_rank run rank s = if rank_of_entry (entry_at_spot run s) == rank then s ∷ [] else []

-- those of a slot that do, of so many nodes, and all of a slot
abbrev pub rank_back : RunSlots → ℕ → ℕ → ℕ → List Spot
rank_back run slot rank zero = []
rank_back run slot rank (suc k) = of_rank run rank (spot_at slot k) ++ rank_back run slot rank k

abbrev pub slot_back : RunSlots → ℕ → ℕ → List Spot
slot_back run nodes slot =
    rank_back run slot 2 nodes ++ (rank_back run slot 1 nodes ++ rank_back run slot 0 nodes)

-- Of some entries of a run those are told that are reached from marked ones: what was told before and what these and
-- older ones would add is what is told now and what is left of them and older ones would add.
pub record Reaches (run : RunSlots) (count : ℕ) (before : List Told) (marked spots left : List Spot) (now : Reach)
    : Type 0 where
  pub marked_now : List Spot
  pub marks : AreMarked count marked_now now.marks
  pub told : (older : List Spot)
      → before ++ reached run marked (spots ++ older) ≡ now.told ++ reached run marked_now (left ++ older)
