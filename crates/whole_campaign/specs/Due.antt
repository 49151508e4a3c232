-- Which line is due in a campaign behind its first two lines, by the lines before it.
use Rattle.std.specs.Prelude.{ℕ, ◌+◌, ◌==◌, nat_le, nat_lt, Bool, true, false, ◌&&◌, not, List, Option, Some, None}
use Rattle.std.specs.Prelude.{codes, if◌then◌else◌}
use Rattle.std.specs.Str.{bytes_eq}
use Rattle.line_reader.specs.Reading.{◌>>=◌}
use Rattle.campaign.specs.declared.cost.Counts.{Counts}
use Rattle.campaign.specs.Lines.{counts_line}
use Rattle.whole_campaign.specs.declared.due.Due.{Due}
use Rattle.whole_campaign.specs.declared.due.Due.TheVariants as due
use Rattle.whole_campaign.specs.declared.head.CampaignHead.{CampaignHead}
use Rattle.whole_campaign.specs.declared.shown.FaultShown.{FaultShown}
use Rattle.whole_campaign.specs.declared.shown.Piece.{Piece}
use Rattle.whole_campaign.specs.declared.spot.Spot.{Spot}
use Rattle.whole_campaign.specs.Words.{without_feed}
use Rattle.whole_campaign.specs.Runs.{head_of_line}
use Rattle.whole_campaign.specs.Faults.{is_last_place, fault_line_in}
use Rattle.whole_campaign.specs.Own.{Common}

-- Counts.

-- of no runs
abbrev pub no_runs : Counts
no_runs = record { runs = 0; same = 0; hurt = 0; split = 0; torn = 0; dead = 0 }

-- what a run adds to a count
abbrev pub as_count : Bool → ℕ
as_count true = 1
as_count false = 0

-- one run more: two memberships or more are torn, and dead is a cluster without one of two members
abbrev pub with_run : FaultShown → Counts → Counts
with_run f counts = record {
  runs = counts.runs + 1;
  same = counts.same + as_count f.same;
  hurt = counts.hurt + as_count (nat_lt 0 f.hurt);
  split = counts.split + as_count f.split;
  torn = counts.torn + as_count (nat_le 2 f.memberships);
  dead = counts.dead + as_count (not f.company);
}

-- one run more, where it is counted
abbrev pub with_run_if : Bool → FaultShown → Counts → Counts
with_run_if true f counts = with_run f counts
with_run_if false f counts = counts

-- one fault more: those whose test says yes are counted as kept, and those whose test says no as broken
abbrev pub with_fault_counted : FaultShown → Piece → Piece
with_fault_counted f piece = record {
  first = piece.first;
  last = piece.last;
  kept = with_run_if f.yes f piece.kept;
  broken = with_run_if (not f.yes) f piece.broken;
}

-- What is due.

-- what is due behind the first two lines of a piece: the first of its faults, if it has any
abbrev pub piece_begun : ℕ → ℕ → Due
piece_begun first last =
    due.Fault (record { first = first; last = last; kept = no_runs; broken = no_runs }) None

-- where a fault stands
abbrev pub spot_of : FaultShown → Spot
spot_of f = record { slot = f.slot; node = f.node; doing = f.doing; place = f.place }

-- the fault that a line tells, where one is due
unfoldable pub fault_told : Common → Due → List ℕ → Option FaultShown
fault_told frame (due.Fault piece before) line = without_feed line >>= fault_line_in frame piece before
fault_told frame d line = None

-- the last group of faults is complete, if there was one
abbrev pub is_between_groups : Option Spot → Bool
is_between_groups None = true
is_between_groups (Some before) = is_last_place before.place

-- behind all faults of a piece: the counts of those whose test says yes
abbrev pub behind_faults : Piece → Option Spot → List ℕ → Option Due
behind_faults piece before line =
    if is_between_groups before && bytes_eq line (counts_line (codes "kept ") piece.kept)
    then Some (due.Broken piece)
    else None

-- behind a line that tells this fault, or none
abbrev pub behind_fault : Piece → Option Spot → List ℕ → Option FaultShown → Option Due
behind_fault piece before line (Some f) = Some (due.Fault (with_fault_counted f piece) (Some (spot_of f)))
behind_fault piece before line None = behind_faults piece before line

-- behind those counts: the counts of the faults whose test says no
abbrev pub behind_kept : Piece → List ℕ → Option Due
behind_kept piece line =
    if bytes_eq line (counts_line (codes "broken ") piece.broken) then Some (due.Piece piece.last) else None

-- a later piece has the same nodes and slots, and a range behind that of the one before
abbrev pub is_later_head : Common → ℕ → CampaignHead → Bool
is_later_head frame last h = (h.nodes == frame.nodes) && (h.slots == frame.slots) && nat_lt last h.first

-- behind a piece: the first line of another
unfoldable pub behind_piece : Common → ℕ → List ℕ → Option Due
behind_piece frame last line =
    head_of_line line >>= λ h. if is_later_head frame last h then Some (due.Own h.first h.last) else None

-- behind the first line of a later piece: the line of the script's own run, as in the first piece
unfoldable pub behind_head : Common → ℕ → ℕ → List ℕ → Option Due
behind_head frame first last line =
    without_feed line >>= λ bytes. if bytes_eq bytes frame.own.text then Some (piece_begun first last) else None

-- what is due behind a line, where the line is due itself
unfoldable pub due_in_campaign : Common → Due → List ℕ → Option Due
due_in_campaign frame (due.Fault piece before) line =
    behind_fault piece before line (fault_told frame (due.Fault piece before) line)
due_in_campaign frame (due.Broken piece) line = behind_kept piece line
due_in_campaign frame (due.Piece last) line = behind_piece frame last line
due_in_campaign frame (due.Own first last) line = behind_head frame first last line

-- a campaign ends behind a piece
abbrev pub may_end : Due → Bool
may_end (due.Piece last) = true
may_end _ = false
