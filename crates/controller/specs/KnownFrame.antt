-- What is known of the bytes on a channel.
use Rattle.std.specs.Prelude.{◌≡◌, ℕ, Bool, true, List}
use Rattle.ttp_base.specs.NodeSet.{set_bits}
use Rattle.ttp_frame.specs.declared.judging.FrameMatch.{FrameMatch}
use Rattle.ttp_frame.specs.Match.{match_of}
use Rattle.ttp_world.specs.declared.medl.Medl.{Medl}
use Rattle.ttp_world.specs.declared.node.CState.{CState}
use Rattle.ttp_world.specs.Diary.{joined_place}
use Rattle.ttp_world.specs.Medl.{is_wide}
use Rattle.ttp_world.specs.Reception.{expected_header, expected_length}
use Rattle.medium.specs.declared.arrival.Arrival.{Arrival}
use Rattle.medium.specs.declared.arrival.Arrival.TheVariants as arrival

-- the list, and the bytes that are judged by it
pub record KnownView : Type 0 where
  pub list : Medl
  pub bytes : List ℕ

-- what bytes are to a receiver that expects the frame of a C-state's place, with that C-state
abbrev pub found_by : Medl → List ℕ → CState → FrameMatch
found_by list bytes c =
    match_of (is_wide list) bytes (expected_header list (joined_place c)) (expected_length list (joined_place c))
    list.schedule c

-- two C-states have the same bytes in frames
pub record IsSameState (one other : CState) : Type 0 where
  pub time : one.time ≡ other.time
  pub round : one.round ≡ other.round
  pub slot : one.slot ≡ other.slot
  pub members : set_bits one.members ≡ set_bits other.members

-- where they were judged by this C-state, they were found to be this
abbrev pub IsFound : Medl → List ℕ → Bool → CState → FrameMatch → Type 0
IsFound list bytes is_judged c found = is_judged ≡ true → found ≡ found_by list bytes c

-- these bytes came, if any did
abbrev pub BytesAre : Arrival → List ℕ → Type 0
BytesAre arrival.Silence known = Unit {0}
BytesAre arrival.Noise known = Unit {0}
BytesAre (arrival.Bits bytes offset) known = known ≡ bytes.now

-- what is known is of what came, and is judged by the list
pub record IsKnownOf (l : Medl) (came : Arrival) (known : KnownView) : Type 0 where
  pub list : known.list ≡ l
  pub bytes : BytesAre came known.bytes
