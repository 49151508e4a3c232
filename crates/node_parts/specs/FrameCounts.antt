-- The frames that a node accepted and rejected.
use Rattle.std.specs.Prelude.{ℕ, ◌+◌, Bool, if◌then◌else◌}
use Rattle.node_parts.specs.declared.acknowledgement.moves.AckMove.{AckMove}
use Rattle.node_parts.specs.Moves.{adds_accepted, adds_rejected}

-- how many frames a node accepted and rejected since its newest own slot, its own one counted
pub record FrameCounts : Type 0 where
  pub accepted : ℕ
  pub rejected : ℕ

-- those of a node that is not active
abbrev pub no_frame_counts : FrameCounts
no_frame_counts = record { accepted = 0; rejected = 0 }

-- those of a node that has just sent, started or joined: its own frame is accepted
abbrev pub first_counts : FrameCounts
first_counts = record { accepted = 1; rejected = 0 }

-- one more where a frame is to be counted
abbrev pub counted_if : Bool → ℕ → ℕ
counted_if more count = (if more then 1 else 0) + count

-- after a move
abbrev pub moved_counts : AckMove → FrameCounts → FrameCounts
moved_counts move counts = record {
  accepted = counted_if (adds_accepted move) counts.accepted;
  rejected = counted_if (adds_rejected move) counts.rejected;
}
