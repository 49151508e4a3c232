-- Legal message numbers: which message a frame may carry, and which one a host may read.
use Rattle.std.specs.Prelude.{◌≡◌, ℕ, nat_le, Bool, true, false, ◌&&◌, ◌||◌, not, ◌==◌, List, [], ◌∷◌, ◌++◌, length}
use Rattle.std.specs.Prelude.{map, reverse, Option, Some, None, IsTrue}
use Rattle.std.specs.List.{list_all}
use Rattle.ttp_base.specs.NodeSet.{below}
use Rattle.ttp_world.specs.declared.medl.Medl.{Medl}
use Rattle.ttp_world.specs.declared.node.Entry.{Entry}
use Rattle.ttp_world.specs.declared.script.Script.{Script}
use Rattle.ttp_world.specs.declared.script.Source.{Source}
use Rattle.ttp_world.specs.declared.script.Source.TheVariants as source
use Rattle.ttp_world.specs.Diary.{History, entry_of}
use Rattle.ttp_world.specs.Messages.{message_of, ring_messages, newest_number}
use Rattle.ttp_world.specs.Outgoing.{messages_before, out_messages}
use Rattle.ttp_world.specs.Script.{HostRead, reads_in}
use Rattle.ttp_world.specs.World.{SlotNumbers, Numbers, world}

-- a number lies between two others, which count
abbrev pub is_between : ℕ → ℕ → ℕ → Bool
is_between low high i = nat_le low i && nat_le i high

-- Frames: one number for each that carries payload, from the newest message before the slot to the newest of the slot.

-- node k may send this message in a slot: one from its newest before the slot to its newest of the slot
abbrev pub is_legal_message : Medl → Script → ℕ → ℕ → Option ℕ → Bool
is_legal_message list script slot k None = true
is_legal_message list script slot k (Some i) =
    is_between (newest_number (messages_before list script k slot)) (newest_number (out_messages list script k slot)) i

-- two numbers are the same, or both are missing
abbrev pub is_same_number : Option ℕ → Option ℕ → Bool
is_same_number None None = true
is_same_number None (Some j) = false
is_same_number (Some i) None = false
is_same_number (Some i) (Some j) = i == j

-- two lists have the same numbers or lack them, place by place
abbrev pub are_same_numbers : List (Option ℕ) → List (Option ℕ) → Bool
are_same_numbers [] [] = true
are_same_numbers [] (n ∷ ns) = false
are_same_numbers (m ∷ ms) [] = false
are_same_numbers (m ∷ ms) (n ∷ ns) = is_same_number m n && are_same_numbers ms ns

-- in the slot of a row these are the messages of its frames, and each is legal
abbrev pub are_legal_messages : Medl → Script → ℕ → List Entry → List (Option ℕ) → Bool
are_legal_messages list script slot row sent =
    are_same_numbers sent (map message_of row)
    && list_all (λ k. is_legal_message list script slot k (message_of (entry_of row k))) (below (length row))

-- Reads: one number for each, from the ring's newest message before the slot to that after it.

-- a read with the number of the message that it got
pub record ReadMessage : Type 0 where
  pub read : HostRead
  pub number : ℕ

-- some reads, each with its number
abbrev pub read_messages : List HostRead → List ℕ → List ReadMessage
read_messages [] numbers = []
read_messages (read ∷ reads) [] = []
read_messages (read ∷ reads) (number ∷ numbers) = record { read = read; number = number } ∷ read_messages reads numbers

-- a read got a message from the newest before the slot to the newest after it
abbrev pub is_legal_read : Medl → Script → History → History → ReadMessage → Bool
is_legal_read list script before after r =
    is_between (newest_number (ring_messages list script before r.read.host r.read.source))
    (newest_number (ring_messages list script after r.read.host r.read.source)) r.number

-- there is one number for each read of a slot, and each is legal
abbrev pub are_legal_reads : Medl → Script → History → History → List HostRead → List ℕ → Bool
are_legal_reads list script before after reads numbers =
    (length reads == length numbers) && list_all (is_legal_read list script before after) (read_messages reads numbers)

-- the numbers of a slot are legal
abbrev pub is_legal_slot : Medl → Script → List Entry → History → SlotNumbers → Bool
is_legal_slot list script row before new =
    are_legal_messages list script (length before) row new.sent
    && are_legal_reads list script before (row ∷ before) (reads_in script (length before)) new.read

-- those of each slot of a history are
abbrev pub are_legal_slots : Medl → Script → History → Numbers → Bool
are_legal_slots list script [] numbers = true
are_legal_slots list script (row ∷ history) [] = true
are_legal_slots list script (row ∷ history) (new ∷ numbers) =
    is_legal_slot list script row history new && are_legal_slots list script history numbers

-- A host never reads an older message from a ring than it read before.

-- two sources are the same
abbrev pub is_same_source : Source → Source → Bool
is_same_source source.Status source.Status = true
is_same_source source.Status (source.Node k) = false
is_same_source (source.Node j) source.Status = false
is_same_source (source.Node j) (source.Node k) = j == k

-- two reads are of one ring: of one host and one source
abbrev pub is_same_ring : HostRead → HostRead → Bool
is_same_ring a b = (a.host == b.host) && is_same_source a.source b.source

-- all reads, the newest first
abbrev pub all_reads : Script → Numbers → List ReadMessage
all_reads script [] = []
all_reads script (new ∷ numbers) =
    reverse (read_messages (reads_in script (length numbers)) new.read) ++ all_reads script numbers

-- a read got no older message than an earlier read of the same ring
abbrev pub is_not_older : ReadMessage → ReadMessage → Bool
is_not_older r earlier = not (is_same_ring r.read earlier.read) || nat_le earlier.number r.number

-- that is so of all reads
abbrev pub never_fall : List ReadMessage → Bool
never_fall [] = true
never_fall (r ∷ earlier) = list_all (is_not_older r) earlier && never_fall earlier

-- message numbers are legal: those of each slot are, and no host reads an older message than it read before
abbrev pub is_legal : Medl → Script → Numbers → Bool
is_legal list script numbers =
    are_legal_slots list script (world list script numbers) numbers && never_fall (all_reads script numbers)

-- message numbers are legal, as a fact
abbrev pub IsLegal : Medl → Script → Numbers → Type 0
IsLegal list script numbers = IsTrue (is_legal list script numbers)

-- legal numbers of a whole run: some for each of its slots
pub record IsLegalRun (list : Medl) (script : Script) (numbers : Numbers) : Type 0 where
  pub count : length numbers ≡ script.slots
  pub legal : IsLegal list script numbers
