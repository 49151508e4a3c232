-- Room for counts, line by line.
use Rattle.std.proofs.Common.{◌≡◌, ℕ, ◌+◌, ◌<◌, ◌≤◌, ◌^◌, Bool, true, false, List, Option, Some, None, subst, arith}
use Rattle.std.specs.Prelude.{IfSome, ◌&&◌, not, codes}
use Rattle.std.specs.Str.{bytes_eq}
use Rattle.whole_campaign.proofs.FromBelow.{bound, guarded, some_same}
use Rattle.campaign.specs.declared.cost.Counts.{Counts}
use Rattle.campaign.specs.Lines.{counts_line}
use Rattle.whole_campaign.specs.declared.due.Due.{Due}
use Rattle.whole_campaign.specs.declared.due.Due.TheVariants as due
use Rattle.whole_campaign.specs.declared.shown.FaultShown.{FaultShown}
use Rattle.whole_campaign.specs.declared.shown.Piece.{Piece}
use Rattle.whole_campaign.specs.declared.spot.Spot.{Spot}
use Rattle.whole_campaign.specs.Own.{Common}
use Rattle.whole_campaign.specs.Runs.{head_of_line}
use Rattle.whole_campaign.specs.Words.{without_feed}
use Rattle.whole_campaign.specs.Due.{no_runs, as_count, with_run, with_run_if, with_fault_counted}
use Rattle.whole_campaign.specs.Due.{piece_begun, spot_of, fault_told}
use Rattle.whole_campaign.specs.Due.{is_between_groups, behind_fault, behind_kept}
use Rattle.whole_campaign.specs.Due.{is_later_head, behind_piece, behind_head}
use Rattle.whole_campaign.specs.Due.{due_in_campaign}
use Rattle.whole_campaign.specs.Steps.{CanCount, HasRoomBehind}

-- Counts.

less_room : (m n : ℕ) (counts : Counts) → m ≤ n → CanCount n counts → CanCount m counts
less_room m n counts fewer room = record {
  runs = omega (arith, room.runs, fewer);
  same = omega (arith, room.same, fewer);
  hurt = omega (arith, room.hurt, fewer);
  split = omega (arith, room.split, fewer);
  torn = omega (arith, room.torn, fewer);
  dead = omega (arith, room.dead, fewer);
}

pub one-small : (b : Bool) → as_count b ≤ 1
one-small true = omega arith
one-small false = omega arith

run_room : (n : ℕ) (f : FaultShown) (counts : Counts) → CanCount (n + 1) counts → CanCount n (with_run f counts)
run_room n f counts room = record {
  runs = omega (arith, room.runs);
  same = omega (arith, room.same, one-small);
  hurt = omega (arith, room.hurt, one-small);
  split = omega (arith, room.split, one-small);
  torn = omega (arith, room.torn, one-small);
  dead = omega (arith, room.dead, one-small);
}

none_room : (n : ℕ) → n < 2 ^ 64 → CanCount n no_runs
none_room n small = record {
  runs = omega (arith, small);
  same = omega (arith, small);
  hurt = omega (arith, small);
  split = omega (arith, small);
  torn = omega (arith, small);
  dead = omega (arith, small);
}

-- Dues.

pub less_due : (m n : ℕ) (d : Due) → m ≤ n → HasRoomBehind n d → HasRoomBehind m d
less_due m n (due.Fault piece before) fewer is =
    (is.0, less_room m n piece.kept fewer is.1, less_room m n piece.broken fewer is.2)
less_due m n (due.Broken piece) fewer is = omega (arith, fewer, is)
less_due m n d fewer is = omega (arith, fewer, is)

pub begun_due : (n first last : ℕ) → n < 2 ^ 64 → HasRoomBehind n (piece_begun first last)
begun_due n first last small = (tt, none_room n small, none_room n small)

counted_room : (n : ℕ) (yes : Bool) (f : FaultShown) (counts : Counts) → CanCount (n + 1) counts
    → CanCount n (with_run_if yes f counts)
counted_room n true f counts room = run_room n f counts room
counted_room n false f counts room = less_room n (n + 1) counts (omega arith) room

fault_due : (n : ℕ) (piece : Piece) (before : Option Spot) (line : List ℕ) (found : Option FaultShown) (then : Due)
    → HasRoomBehind (n + 1) (due.Fault piece before) → IfSome found (λ f. f.place < 16)
    → behind_fault piece before line found ≡ Some then → HasRoomBehind n then
fault_due n piece before line (Some f) then is small e =
    subst (λ (d : Due). HasRoomBehind n d)
    (some_same (due.Fault (with_fault_counted f piece) (Some (spot_of f))) then e)
    (small, counted_room n f.yes f piece.kept is.1, counted_room n (not f.yes) f piece.broken is.2)
fault_due n piece before line None then is small e =
    let g = guarded (is_between_groups before && bytes_eq line (counts_line (codes "kept ") piece.kept))
    (Some (due.Broken piece)) then e in
    subst (λ (d : Due). HasRoomBehind n d) (some_same (due.Broken piece) then g.1) (omega (arith, is.1.runs))

kept_due : (n : ℕ) (piece : Piece) (line : List ℕ) (then : Due) → n + 1 < 2 ^ 64 → behind_kept piece line ≡ Some then
    → HasRoomBehind n then
kept_due n piece line then small e =
    let g = guarded (bytes_eq line (counts_line (codes "broken ") piece.broken)) (Some (due.Piece piece.last)) then e in
    subst (λ (d : Due). HasRoomBehind n d) (some_same (due.Piece piece.last) then g.1) (omega (arith, small))

piece_due : (n : ℕ) (frame : Common) (last : ℕ) (line : List ℕ) (then : Due) → n + 1 < 2 ^ 64
    → behind_piece frame last line ≡ Some then → HasRoomBehind n then
unfolding behind_piece
piece_due n frame last line then small e =
    let b = bound (head_of_line line) _ then e in
    let g = guarded (is_later_head frame last b.value) (Some (due.Own b.value.first b.value.last)) then b.gives in
    subst (λ (d : Due). HasRoomBehind n d)
    (some_same (due.Own b.value.first b.value.last) then g.1) (omega (arith, small))

head_due : (n : ℕ) (frame : Common) (first last : ℕ) (line : List ℕ) (then : Due) → n + 1 < 2 ^ 64
    → behind_head frame first last line ≡ Some then → HasRoomBehind n then
unfolding behind_head
head_due n frame first last line then small e =
    let b = bound (without_feed line) _ then e in
    let g = guarded (bytes_eq b.value frame.own.text) (Some (piece_begun first last)) then b.gives in
    subst (λ (d : Due). HasRoomBehind n d) (some_same (piece_begun first last) then g.1)
    (begun_due n first last (omega (arith, small)))

-- behind a line there is room for one line less
pub due_behind_line : (n : ℕ) (frame : Common) (d : Due) (line : List ℕ) (then : Due) → HasRoomBehind (n + 1) d
    → IfSome (fault_told frame d line) (λ f. f.place < 16)
    → due_in_campaign frame d line ≡ Some then → HasRoomBehind n then
unfolding due_in_campaign
due_behind_line n frame (due.Fault piece before) line then is small e =
    fault_due n piece before line (fault_told frame (due.Fault piece before) line) then is small e
due_behind_line n frame (due.Broken piece) line then is small e = kept_due n piece line then is e
due_behind_line n frame (due.Piece last) line then is small e = piece_due n frame last line then is e
due_behind_line n frame (due.Own first last) line then is small e = head_due n frame first last line then is e
