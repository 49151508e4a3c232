-- The frame of a slot, and how an active node sees one by its members alone.
use Rattle.std.specs.Prelude.{◌≡◌, ℕ, Bool, false, List, length, Option, unwrap_or, option_map, IfSome, if◌then◌else◌}
use Rattle.std.specs.Str.{bytes_eq}
use Rattle.ttp_world.specs.declared.medl.Medl.{Medl}
use Rattle.ttp_world.specs.declared.node.ChannelView.{ChannelView}
use Rattle.ttp_world.specs.declared.node.ChannelView.TheVariants as view
use Rattle.ttp_world.specs.Diary.{Place, cstate_at}
use Rattle.ttp_world.specs.Frame.{frame}
use Rattle.ttp_world.specs.Medl.{member_width}
use Rattle.ttp_world.specs.Membership.{AreNodes}
use Rattle.ttp_world.specs.Reception.{Candidates, expected_header, expected_length}

-- the frame that the list gives for a place, of a sender that holds these members
abbrev pub slot_frame : Medl → Place → List ℕ → List ℕ → List ℕ
slot_frame list place members payload =
    frame (member_width list) (expected_header list place) (cstate_at place members) payload list.schedule

-- bytes are such a frame, with as much payload as the list gives
pub record IsSlotFrame (list : Medl) (place : Place) (members bytes : List ℕ) : Type 0 where
  pub payload : List ℕ
  pub size : length payload ≡ expected_length list place
  pub nodes : AreNodes list members
  pub same : bytes ≡ slot_frame list place members payload

-- candidates are sets of the list's nodes
pub record AreCandidates (list : Medl) (c : Candidates) : Type 0 where
  pub first : AreNodes list c.first
  pub second : IfSome c.second (AreNodes list)

-- members are those of the second candidate, if there is one
abbrev pub is_second : Option (List ℕ) → List ℕ → Bool
is_second second members = unwrap_or (option_map (bytes_eq members) second) false

-- the view of a frame of these members, where a node expects the candidates
abbrev pub view_of_members : Candidates → List ℕ → ChannelView
view_of_members c members =
    if bytes_eq members c.first then view.First
    else (if is_second c.second members then view.Second else view.Other)
