-- What views say of the nodes after a slot, by what their lines show.
use Rattle.std.specs.Prelude.{ℕ, ◌+◌, ◌*◌, ◌==◌, nat_lt, ℤ, ◌-ℤ◌, int_le, unsigned_abs, Bool, true, false, ◌&&◌, ◌||◌}
use Rattle.std.specs.Prelude.{not, List, [], ◌∷◌, length, filter, position, Option, Some, None, if◌then◌else◌}
use Rattle.std.specs.List.{list_all, list_any}
use Rattle.std.specs.Ordering.{int_eq}
use Rattle.ttp_base.specs.NodeSet.{set_bits}
use Rattle.ttp_world.specs.Acknowledgement.{is_doubt}
use Rattle.line_reader.specs.declared.trace_line.Word.{Word}
use Rattle.line_reader.specs.declared.trace_line.Word.TheVariants as word
use Rattle.shown_slot.specs.declared.node.ClockRange.{ClockRange}
use Rattle.whole_trace.specs.declared.shown.NodeShown.{NodeShown}
use Rattle.shown_slot.specs.declared.node.Sender.{Sender}
use Rattle.shown_slot.specs.declared.node.Sender.TheVariants as sent_by

-- Words.

-- a node whose line has this word takes part in the cluster
abbrev pub is_active_word : Word → Bool
is_active_word word.Start = true
is_active_word word.Join = true
is_active_word word.Send = true
is_active_word word.Correct = true
is_active_word word.Tentative = true
is_active_word word.Incorrect = true
is_active_word word.Invalid = true
is_active_word word.Null = true
is_active_word _ = false

-- it left the cluster in this slot
abbrev pub is_leaving_word : Word → Bool
is_leaving_word word.Denied = true
is_leaving_word word.Unacknowledged = true
is_leaving_word word.Clique = true
is_leaving_word _ = false

-- it sent a frame in this slot
abbrev pub sends : Word → Bool
sends word.Start = true
sends word.Send = true
sends _ = false

-- Members.

-- an active node that is in no doubt about its own frame, so that its members count
abbrev pub is_holder : NodeShown → Bool
is_holder node = is_active_word node.word && not (is_doubt node.ack)

-- if it is a holder, it holds these members
abbrev pub holds_only : ℕ → NodeShown → Bool
holds_only members node = not (is_holder node) || (set_bits node.members == members)

abbrev pub hold_members : ℕ → List NodeShown → Bool
hold_members members nodes = list_all (holds_only members) nodes

-- whether all holders hold the same members, where there is one or more
abbrev pub agreement : List NodeShown → Option Bool
agreement [] = None
agreement (node ∷ nodes) = if is_holder node then Some (hold_members (set_bits node.members) nodes) else agreement nodes

-- Senders.

-- a node more that sent, of a lower number
abbrev pub sent_too : ℕ → Sender → Sender
sent_too k sent_by.Nobody = sent_by.Node k
sent_too k _ = sent_by.Several

-- who of these nodes sent; the first of them is node k
abbrev pub sender_among : ℕ → List NodeShown → Sender
sender_among k [] = sent_by.Nobody
sender_among k (node ∷ nodes) =
    if sends node.word then sent_too k (sender_among (k + 1) nodes) else sender_among (k + 1) nodes

-- Sets of nodes.

abbrev pub bit : Bool → ℕ
bit false = 0
bit true = 1

-- the number whose bit k, the least significant first, is set where node k's word passes a test
abbrev pub bits_where : (Word → Bool) → List NodeShown → ℕ
bits_where test [] = 0
bits_where test (node ∷ nodes) = bit (test node.word) + 2 * bits_where test nodes

-- Clocks.

abbrev pub lower : ℤ → ℤ → ℤ
lower a b = if int_le a b then a else b

abbrev pub higher : ℤ → ℤ → ℤ
higher a b = if int_le a b then b else a

-- a range of clocks with one clock more
abbrev pub widened : ℤ → Option ClockRange → ClockRange
widened clock None = record { low = clock; high = clock }
widened clock (Some range) = record { low = lower clock range.low; high = higher clock range.high }

-- the range of the clocks of the active nodes, where there is one
abbrev pub clock_range : List NodeShown → Option ClockRange
clock_range [] = None
clock_range (node ∷ nodes) =
    if is_active_word node.word then Some (widened node.offset (clock_range nodes)) else clock_range nodes

-- how far apart they are
abbrev pub spread_in : ClockRange → ℕ
spread_in range = unsigned_abs (range.high -ℤ range.low)

-- Rounds.

-- a node for which node 0 is due in the slot
abbrev pub has_first_due : NodeShown → Bool
has_first_due node = is_active_word node.word && is_first node.peer
  where
    is_first : Option ℕ → Bool
    is_first None = false
    is_first (Some k) = k == 0

-- a round begins in the slot
abbrev pub starts_round : List NodeShown → Bool
starts_round nodes = list_any has_first_due nodes

-- The frame of a slot.

-- a node whose line has this word did not take the frame, or took it
abbrev pub is_refusing_word : Word → Bool
is_refusing_word word.Incorrect = true
is_refusing_word word.Invalid = true
is_refusing_word word.Null = true
is_refusing_word _ = false

abbrev pub is_taking_word : Word → Bool
is_taking_word word.Join = true
is_taking_word word.Correct = true
is_taking_word word.Tentative = true
is_taking_word _ = false

-- more nodes refuse it than take it
abbrev pub is_refused : List NodeShown → Bool
is_refused nodes =
    nat_lt (length (filter (λ node. is_taking_word node.word) nodes))
    (length (filter (λ node. is_refusing_word node.word) nodes))

-- The node whose clock is far from most.

abbrev pub clock_distance : ℤ → ℤ → ℕ
clock_distance a b = unsigned_abs (a -ℤ b)

-- an active node whose clock is nearer to the highest one of a range than to the lowest one, or the other way round
abbrev pub is_near_high : ClockRange → NodeShown → Bool
is_near_high range node =
    is_active_word node.word && nat_lt (clock_distance range.high node.offset) (clock_distance node.offset range.low)

abbrev pub is_near_low : ClockRange → NodeShown → Bool
is_near_low range node =
    is_active_word node.word && nat_lt (clock_distance node.offset range.low) (clock_distance range.high node.offset)

-- an active node that has this clock
abbrev pub has_clock : ℤ → NodeShown → Bool
has_clock clock node = is_active_word node.word && int_eq node.offset clock

-- with so many nodes near to each end of their range: the first one at the end to which fewer are near
abbrev pub apart_by : ℕ → ℕ → ClockRange → List NodeShown → Option ℕ
apart_by high low range nodes =
    if nat_lt high low
    then position (has_clock range.high) nodes
    else if nat_lt low high then position (has_clock range.low) nodes else None

abbrev pub apart_in : Option ClockRange → List NodeShown → Option ℕ
apart_in None nodes = None
apart_in (Some range) nodes =
    apart_by (length (filter (is_near_high range) nodes)) (length (filter (is_near_low range) nodes)) range nodes

-- the node whose clock is far from most, where there is one
abbrev pub node_apart : List NodeShown → Option ℕ
node_apart nodes = apart_in (clock_range nodes) nodes
