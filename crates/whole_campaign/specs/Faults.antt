-- The line of a fault: its place among those of its slot and node, and what it says.
use Rattle.std.specs.Prelude.{ℕ, ◌+◌, ◌-◌, ◌/◌, ◌%◌, ◌==◌, nat_le, nat_lt, ℤ, pos, int_lt}
use Rattle.std.specs.Prelude.{Bool, true, false, ◌&&◌, ◌||◌, not, List, [], ◌∷◌}
use Rattle.std.specs.Prelude.{Option, Some, None, codes, is_some, if◌then◌else◌}
use Rattle.std.specs.Str.{bytes_eq}
use Rattle.ttp_world.specs.declared.script.Channels.{Channels}
use Rattle.ttp_world.specs.declared.script.Fault.{Fault}
use Rattle.ttp_world.specs.declared.script.Fault.TheVariants as fault
use Rattle.line_text.specs.Labels.{after_label}
use Rattle.line_text.specs.Numerals.{numeral_in}
use Rattle.line_form.specs.Kinds.{number, signed}
use Rattle.line_form.specs.Forms.{◌▸◌, LineForm, Values}
use Rattle.line_reader.specs.TraceLines.{slot_digits}
use Rattle.line_reader.specs.Reading.{◌>>=◌}
use Rattle.campaign.specs.CostText.{loss_words}
use Rattle.whole_campaign.specs.declared.fault.FaultWords.{FaultWords as CutFault}
use Rattle.whole_campaign.specs.declared.fault.JumpWords.{JumpWords}
use Rattle.whole_campaign.specs.declared.shown.Doing.{Doing}
use Rattle.whole_campaign.specs.declared.shown.Doing.TheVariants as doing
use Rattle.whole_campaign.specs.declared.shown.FaultShown.{FaultShown}
use Rattle.whole_campaign.specs.declared.shown.Piece.{Piece}
use Rattle.whole_campaign.specs.declared.spot.Spot.{Spot}
use Rattle.whole_campaign.specs.Words.{line_said, word_behind, node_digits}
use Rattle.whole_campaign.specs.Runs.{RunWords, run_words_of, run_words_in, test_in, test_says_yes, is_same_test}
use Rattle.whole_campaign.specs.Runs.{cost_in}
use Rattle.whole_campaign.specs.Own.{Common}

-- What is tried at a place.

-- the channels of a loss: both, A or B, two places each
abbrev pub channels_at : ℕ → Channels
channels_at place = record { a = not (place % 6 / 2 == 2); b = not (place % 6 / 2 == 1) }

-- silence and noise by turns
abbrev pub loss_at : ℕ → Fault
loss_at place = if place % 2 == 0 then fault.Silence else fault.Noise

-- the last slot of a loss: that in which it begins, or from place 6 on the last of so many
abbrev pub loss_end : ℕ → ℕ → ℕ → ℕ
loss_end slots slot place = if nat_lt place 6 then slot else slots - 1

-- the first word of a fault, with the space behind it
abbrev pub doing_label : Doing → List ℕ
doing_label doing.Send = codes "send "
doing_label doing.Receive = codes "receive "
doing_label doing.Jump = codes "jump "

-- what a fault does, by its first word
unfoldable pub doing_in : List ℕ → Option Doing
doing_in words =
    if is_some (after_label (codes "send ") words) then Some doing.Send else (
    if is_some (after_label (codes "receive ") words) then Some doing.Receive else (
    if is_some (after_label (codes "jump ") words) then Some doing.Jump else None))

-- whether these are the words of the loss of a spot, in a run of so many slots
unfoldable pub is_loss_of : ℕ → Spot → List ℕ → Bool
is_loss_of slots s words =
    bytes_eq words
    (loss_words (doing_label s.doing) s.node (channels_at s.place) (loss_at s.place) s.slot
    (loss_end slots s.slot s.place))

-- the words of a jump
abbrev pub jump_form : LineForm
jump_form = codes "jump " ▸ number 256 ∷ codes " " ▸ signed 1000000000 ∷ codes " " ▸ number 100000 ∷ []

-- a clock jumps below 0 in places 13 and 15, and else above
abbrev pub is_jump_value : ℕ → ℤ → Bool
is_jump_value place value = if place % 2 == 1 then int_lt value (pos 0) else int_lt (pos 0) value

-- what they say
abbrev pub jump_told : Values jump_form → JumpWords
jump_told (node, (value, (slot, end))) = record { node = node; value = value; slot = slot }

-- whether a jump is that of a spot
abbrev pub is_jump_of : Spot → Option JumpWords → Bool
is_jump_of s None = false
is_jump_of s (Some jump) = (jump.node == s.node) && (jump.slot == s.slot) && is_jump_value s.place jump.value

-- whether these are the words of the fault of a spot
abbrev pub is_fault_of : ℕ → Spot → List ℕ → Bool
is_fault_of slots s words =
    if nat_lt s.place 12 then is_loss_of slots s words else is_jump_of s (line_said jump_form jump_told words)

-- Places.

-- losses have the places 0 to 11, and jumps 12 to 15
abbrev pub first_place : Doing → ℕ
first_place doing.Jump = 12
first_place _ = 0

-- the last place of a group
abbrev pub is_last_place : ℕ → Bool
is_last_place place = (place == 11) || (place == 15)

-- the place of a fault behind another, or of the first one
abbrev pub place_behind : Option Spot → Doing → ℕ
place_behind None doing = first_place doing
place_behind (Some before) doing = if is_last_place before.place then first_place doing else before.place + 1

-- in one slot, of one node
abbrev pub is_same_node : Spot → Spot → Bool
is_same_node before s = (s.slot == before.slot) && (s.node == before.node)

-- by slot, and then by node
abbrev pub is_later : Spot → Spot → Bool
is_later before s =
    nat_lt before.slot s.slot || ((s.slot == before.slot) && nat_lt before.node s.node)

-- of one first word
abbrev pub is_same_doing : Doing → Doing → Bool
is_same_doing doing.Send doing.Send = true
is_same_doing doing.Receive doing.Receive = true
is_same_doing doing.Jump doing.Jump = true
is_same_doing _ _ = false

-- a new group is later than the one before, or it has the jumps of the same node; within a group all is the same
abbrev pub stands_behind : Option Spot → Spot → Bool
stands_behind None s = true
stands_behind (Some before) s =
    if is_last_place before.place
    then is_later before s || (is_same_node before s && (before.place == 11) && (s.place == 12))
    else is_same_node before s && is_same_doing before.doing s.doing

-- a node of the cluster, and a slot of the range that there is
abbrev pub lies_in : Common → Piece → Spot → Bool
lies_in frame piece s =
    nat_lt s.node frame.nodes && nat_lt s.slot frame.slots && nat_le piece.first s.slot && nat_le s.slot piece.last

-- Lines.

-- the slot and the node, and the words of the run
pub record FaultWords : Type 0 where
  pub slot : ℕ
  pub node : ℕ
  pub run : RunWords

unfoldable pub fault_words_in : List ℕ → Option FaultWords
fault_words_in bytes = do
  s ← word_behind 32 (codes "slot ") bytes
  k ← word_behind 32 (codes " node ") s.rest
  run ← run_words_in k.rest
  slot ← numeral_in slot_digits s.front
  node ← numeral_in node_digits k.front
  Some (record { slot = slot; node = node; run = run })

-- the same that code cut off a line
abbrev pub fault_words_of : CutFault → FaultWords
fault_words_of words = record { slot = words.slot; node = words.node; run = run_words_of words.run }

-- where a fault stands behind another
unfoldable pub spot_in : Option Spot → FaultWords → Option Spot
spot_in before words =
    doing_in words.run.fault
    >>= λ d. Some (record { slot = words.slot; node = words.node; doing = d; place = place_behind before d })

-- whether a spot lies in a piece and may stand behind another, and these are the words of its fault
abbrev pub is_spot_due : Common → Piece → Option Spot → Spot → List ℕ → Bool
is_spot_due frame piece before s fault =
    lies_in frame piece s && stands_behind before s && is_fault_of frame.slots s fault

-- what a line says of the fault of a spot
unfoldable pub shown_at : Common → Spot → RunWords → Option FaultShown
shown_at frame s run = do
  answer ← test_in run.test
  cost ← cost_in frame.nodes frame.slots run.cost
  let shown : FaultShown = record {
    slot = s.slot;
    node = s.node;
    doing = s.doing;
    place = s.place;
    yes = test_says_yes answer;
    same = bytes_eq run.cost frame.own.cost;
    hurt = cost.hurt;
    split = cost.split;
    memberships = cost.memberships;
    company = cost.company;
  }
  if is_same_test frame.own.test answer then Some shown else None

-- what a line says, without its line feed, where it is that of a fault due behind another
unfoldable pub fault_line_in : Common → Piece → Option Spot → List ℕ → Option FaultShown
fault_line_in frame piece before bytes = do
  words ← fault_words_in bytes
  s ← spot_in before words
  shown ← shown_at frame s words.run
  if is_spot_due frame piece before s words.run.fault then Some shown else None
