-- Which line is due in a trace, by the lines before it.
use Rattle.std.specs.Prelude.{ℕ, ◌+◌, ◌^◌, ◌==◌, nat_le, nat_lt, Bool, true, false}
use Rattle.std.specs.Prelude.{◌&&◌, ◌||◌, not, List, Option, Some, None}
use Rattle.std.specs.Prelude.{if◌then◌else◌}
use Rattle.ttp_base.specs.NodeSet.{most_nodes, set_bits}
use Rattle.ttp_world.specs.declared.keep.Back.{Back}
use Rattle.ttp_world.specs.declared.keep.Back.TheVariants as back
use Rattle.ttp_world.specs.declared.keep.Keep.{Keep}
use Rattle.ttp_world.specs.declared.keep.Keep.TheVariants as keep
use Rattle.ttp_world.specs.declared.node.Ack.{Ack}
use Rattle.ttp_world.specs.declared.node.Ack.TheVariants as ack
use Rattle.ttp_world.specs.declared.script.Source.{Source}
use Rattle.ttp_world.specs.declared.script.Source.TheVariants as source
use Rattle.line_reader.specs.declared.trace_line.TraceLine.{TraceLine}
use Rattle.line_reader.specs.declared.trace_line.TraceLine.TheVariants as line
use Rattle.whole_trace.specs.declared.due.Due.{Due}
use Rattle.whole_trace.specs.declared.due.Due.TheVariants as due
use Rattle.whole_trace.specs.declared.due.Outline.{Outline}
use Rattle.whole_trace.specs.declared.shown.Head.{Head}

abbrev pub lies_within : ℕ → ℕ → ℕ → Bool
lies_within low high n = nat_le low n && nat_le n high

-- version 1 has 4 to 16 nodes, and version 2 has 4 to 24; there are 1 to 64 rounds, and 1 to 20000 slots
abbrev pub is_head : Head → Bool
is_head h =
    ((h.version == 1 && lies_within 4 16 h.nodes) || (h.version == 2 && lies_within 4 24 h.nodes))
    && lies_within 1 64 h.rounds && lies_within 1 20000 h.slots

-- a node, if there is one, is one of so many
abbrev pub is_below : ℕ → Option ℕ → Bool
is_below n None = true
is_below n (Some k) = nat_lt k n

-- members are nodes of a cluster of so many, which are 24 at most
abbrev pub are_members : ℕ → List ℕ → Bool
are_members n members = nat_le n most_nodes && nat_lt (set_bits members) (2 ^ n)

-- the node in whose acknowledgement a sender has doubts
abbrev pub doubted : Ack → Option ℕ
doubted (ack.Doubt x) = Some x
doubted _ = None

abbrev pub source_node : Source → Option ℕ
source_node (source.Node p) = Some p
source_node source.Status = None

-- members have six digits for version 2, and else four
abbrev pub has_digits : Bool → ℕ → Bool
has_digits true version = version == 2
has_digits false version = not (version == 2)

-- the line of node k after a slot, in the digits of the version, which names nodes of the cluster alone
abbrev pub is_node_line : Head → ℕ → ℕ → TraceLine → Bool
is_node_line head slot k (line.Node t j w peer message wide members accepted rejected a offset) =
    (t == slot) && (j == k) && nat_lt k head.nodes && has_digits wide head.version
    && is_below head.nodes peer && are_members head.nodes members && is_below head.nodes (doubted a)
is_node_line head slot k _ = false

abbrev pub is_keep : Keep → Bool
is_keep (keep.Yes start) = true
is_keep (keep.No rule slot) = lies_within 1 7 rule

abbrev pub is_back : Back → Bool
is_back (back.Yes start) = true
is_back (back.No rule slot) = lies_within 1 8 rule

-- What is due next.

abbrev pub first_node : Head → Option Due
first_node head = if is_head head then Some (due.Node head 0 0) else None

abbrev pub after_head : TraceLine → Option Due
after_head (line.Header v n r t number) =
    first_node (record { version = v; nodes = n; rounds = r; slots = t; schedule = number })
after_head _ = None

-- behind the line of node k: that of the next node, or lines of hosts
abbrev pub next_node : Head → ℕ → ℕ → Due
next_node head slot k = if nat_lt (k + 1) head.nodes then due.Node head slot (k + 1) else due.Host head slot false

abbrev pub after_node : Head → ℕ → ℕ → TraceLine → Option Due
after_node head slot k v = if is_node_line head slot k v then Some (next_node head slot k) else None

-- behind the nodes' lines of a slot: what hosts wrote, what they read, the next slot, and behind the last one the test
abbrev pub after_host : Head → ℕ → Bool → TraceLine → Option Due
after_host head slot has_read (line.Write t host number) =
    if (t == slot) && nat_lt host head.nodes && not has_read then Some (due.Host head slot false) else None
after_host head slot has_read (line.Read t host from number payload) =
    if (t == slot) && nat_lt host head.nodes && is_below head.nodes (source_node from)
    then Some (due.Host head slot true)
    else None
after_host head slot has_read (line.Keep k) =
    if (slot + 1 == head.slots) && is_keep k then Some (due.Back head k) else None
after_host head slot has_read v = if nat_lt (slot + 1) head.slots then after_node head (slot + 1) 0 v else None

-- behind the line of the hypothesis test: at most that on armed nodes
abbrev pub after_keep : Head → Keep → TraceLine → Option Due
after_keep head k (line.Back b) = if is_back b then Some (due.Nothing head k b) else None
after_keep head k _ = None

-- what is due behind a line, where the line is due itself
abbrev pub due_after : Due → TraceLine → Option Due
due_after due.First v = after_head v
due_after (due.Node head slot k) v = after_node head slot k v
due_after (due.Host head slot has_read) v = after_host head slot has_read v
due_after (due.Back head k) v = after_keep head k v
due_after (due.Nothing head k b) v = None

-- what the first line and the last ones said, where a trace may end
abbrev pub ending : Due → Option Outline
ending (due.Back head k) = Some (record { head = head; keep = k; back = None })
ending (due.Nothing head k b) = Some (record { head = head; keep = k; back = Some b })
ending _ = None
