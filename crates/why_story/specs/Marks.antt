-- Marks of entries, a set of nodes for each slot.
use Rattle.std.specs.Prelude.{◌≡◌, ℕ, ◌<◌, All, true, List, vec_len, slice_index_or, []}
use Rattle.causes.specs.Story.{has_spot}
use Rattle.causes.specs.declared.cause.Spot.{Spot}
use Rattle.causes.specs.declared.cause.Told.{Told}
use Rattle.ttp_base.specs.NodeSet.{has_node, most_nodes}
use Rattle.why_story.specs.RunSource.{spot_at}
use Rattle.why_story.specs.declared.marks.Marks.{Marks}

-- the spots that are marked, among those of so many slots, are these
pub record AreMarked (count : ℕ) (spots : List Spot) (marks : Marks) : Type 0 where
  pub slots : vec_len marks.sets ≡ count
  pub each : (t k : ℕ) → t < count → k < most_nodes
      → has_node (slice_index_or marks.sets.items t []) k ≡ has_spot spots (spot_at t k)

-- all of some spots are among them
abbrev pub AreInSlots : ℕ → List Spot → Type 0
AreInSlots count spots = (s : Spot) → has_spot spots s ≡ true → (s.slot < count) × (s.node < most_nodes)

-- and so are the entries that are told
abbrev pub AreToldWithin : ℕ → List Told → Type 0
AreToldWithin count told = All (λ t. (t.spot.slot < count) × (t.spot.node < most_nodes)) told
