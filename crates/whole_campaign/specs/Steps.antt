-- Places in the text of a campaign, from which it is gone over again.
use Rattle.std.specs.Prelude.{ℕ, ◌≡◌, ◌+◌, ◌^◌, ◌<◌, ◌≤◌, List, ◌∷◌, length, Option, Some, None, IfSome}
use Rattle.ttp_base.specs.Text.{lines_of}
use Rattle.campaign.specs.declared.cost.Counts.{Counts}
use Rattle.whole_campaign.specs.declared.due.Due.{Due}
use Rattle.whole_campaign.specs.declared.due.Due.TheVariants as due
use Rattle.whole_campaign.specs.declared.shown.FaultLine.{FaultLine}
use Rattle.whole_campaign.specs.declared.shown.Piece.{Piece}
use Rattle.whole_campaign.specs.Due.{due_in_campaign}
use Rattle.whole_campaign.specs.Whole.{wrong_line, FaultTold, told_at, faults_told, pieces_from}
use Rattle.whole_campaign.specs.Own.{Common}

-- 4 to 24 nodes, and 1 to 20000 slots
pub record IsFrame (frame : Common) : Type 0 where
  pub least_nodes : 4 ≤ frame.nodes
  pub most_nodes : frame.nodes ≤ 24
  pub least_slots : 1 ≤ frame.slots
  pub most_slots : frame.slots ≤ 20000

-- so many runs more can be counted
pub record CanCount (n : ℕ) (counts : Counts) : Type 0 where
  pub runs : counts.runs + n < 2 ^ 64
  pub same : counts.same + n < 2 ^ 64
  pub hurt : counts.hurt + n < 2 ^ 64
  pub split : counts.split + n < 2 ^ 64
  pub torn : counts.torn + n < 2 ^ 64
  pub dead : counts.dead + n < 2 ^ 64

-- the line of a fault that code found in a text
abbrev pub told_of : FaultLine → FaultTold
told_of f = record { shown = f.shown; text = f.text.now }

-- a fault has one of 16 places, and the counts have room for so many lines more
abbrev pub HasRoomBehind : ℕ → Due → Type 0
HasRoomBehind n (due.Fault piece before) =
    IfSome before (λ s. s.place < 16) × CanCount n piece.kept × CanCount n piece.broken
HasRoomBehind n d = n < 2 ^ 64

-- the rest of a campaign: no line of it is wrong, and what was read is within the limits
pub record IsPlace (frame : Common) (d : Due) (text : List ℕ) : Type 0 where
  pub common : IsFrame frame
  pub room : HasRoomBehind (length text) d
  pub goes_on : wrong_line frame d (lines_of text) ≡ None

-- a text begins with a line that tells this fault, if it tells one, and behind it these are due and left
pub record IsPassed (frame : Common) (d : Due) (text : List ℕ) (told : Option FaultTold) (then : Due)
    (rest : List ℕ) : Type 0 where
  pub line : List ℕ
  pub cut : lines_of text ≡ line ∷ lines_of rest
  pub tells : told_at frame d line ≡ told
  pub next : due_in_campaign frame d line ≡ Some then
  pub shorter : length rest < length text

-- a fault comes next, and behind it these are due and left
pub record IsFaultNext (frame : Common) (d : Due) (text : List ℕ) (told : FaultTold)
    (then : Due) (rest : List ℕ) : Type 0 where
  pub faults : faults_told frame d (lines_of text) ≡ told ∷ faults_told frame then (lines_of rest)
  pub place : IsPlace frame then rest

-- a piece ends next, and behind it these are due and left
pub record IsPieceNext (frame : Common) (d : Due) (text : List ℕ) (piece : Piece)
    (then : Due) (rest : List ℕ) : Type 0 where
  pub pieces : pieces_from frame d (lines_of text) ≡ piece ∷ pieces_from frame then (lines_of rest)
  pub place : IsPlace frame then rest
