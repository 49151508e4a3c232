-- What the rings of a cluster hold: the messages of the world, and the pairs that its numbers name.
use Rattle.std.specs.Prelude.{◌≡◌, ◌≢◌, ℕ, ◌*◌, ◌≤◌, ◌==◌, ◌&&◌, Bool, List, [], ◌∷◌, ◌++◌, map, filter, length, get_or}
use Rattle.std.specs.Prelude.{flat_map, All}
use Rattle.std.specs.Prelude.{Option, Some, None, IsSomeAnd}
use Rattle.nbw_ring.specs.declared.view.Message.{Message}
use Rattle.nbw_ring.specs.declared.view.Settlement.{Settlement}
use Rattle.nbw_ring.specs.declared.view.Shape.{Shape}
use Rattle.nbw_ring.specs.Numbers.{newest_number}
use Rattle.nbw_ring.specs.States.{WriterState}
use Rattle.ttp_world.specs.declared.medl.Medl.{Medl}
use Rattle.ttp_world.specs.declared.script.Script.{Script}
use Rattle.ttp_world.specs.declared.script.Source.{Source}
use Rattle.ttp_world.specs.declared.script.Source.TheVariants as source
use Rattle.ttp_world.specs.Diary.{History}
use Rattle.ttp_world.specs.Legal.{ReadMessage, read_messages, is_same_source}
use Rattle.ttp_world.specs.Messages.{ring_messages}
use Rattle.ttp_world.specs.Outgoing.{messages_before, out_messages}
use Rattle.ttp_world.specs.Script.{reads_in}
use Rattle.ttp_world.specs.Words.{words_of_payload}
use Rattle.ttp_world.specs.World.{Numbers, world}

-- Messages.

-- a message of a source as its ring keeps it: a status has words, and a payload has the words of its bytes
abbrev pub ring_words : Source → List ℕ → List ℕ
ring_words source.Status message = message
ring_words (source.Node p) message = words_of_payload message

-- what a ring of node k's messages holds that its host writes, before a slot of this number
abbrev pub words_written : Medl → Script → ℕ → ℕ → List (List ℕ)
words_written list script k slot = map words_of_payload (messages_before list script k slot)

-- what the ring holds from which host k reads a source
abbrev pub words_read : Medl → Script → History → ℕ → Source → List (List ℕ)
words_read list script history k from = map (ring_words from) (ring_messages list script history k from)

-- Pairs.

-- the message of a number among those of a source
abbrev pub pair_of : Source → List (List ℕ) → ℕ → Message
pair_of from messages number = record { number = number; words = ring_words from (get_or messages number []) }

-- of the message in node k's frame in a slot, if one is told
abbrev pub pair_sent : Medl → Script → ℕ → ℕ → Option ℕ → List Message
pair_sent list script slot k None = []
pair_sent list script slot k (Some i) = pair_of (source.Node k) (out_messages list script k slot) i ∷ []

-- of a read, in a history that ends with its slot
abbrev pub pair_read : Medl → Script → History → ReadMessage → Message
pair_read list script history r =
    pair_of r.read.source (ring_messages list script history r.read.host r.read.source) r.number

abbrev pub is_read_of : ℕ → Source → ReadMessage → Bool
is_read_of k from r = (r.read.host == k) && is_same_source r.read.source from

-- those of host k's reads of a source
abbrev pub pairs_read_in : Medl → Script → History → List ReadMessage → ℕ → Source → List Message
pairs_read_in list script history reads k from = map (pair_read list script history) (filter (is_read_of k from) reads)

-- What numbers name for a ring, the oldest slot first: a message for each frame of node k with payload, and one for
-- each
-- of host k's reads of a source.

abbrev pub pairs_sent : Medl → Script → Numbers → ℕ → List Message
pairs_sent list script [] k = []
pairs_sent list script (new ∷ numbers) k =
    pairs_sent list script numbers k ++ pair_sent list script (length numbers) k (get_or new.sent k None)

abbrev pub pairs_read : Medl → Script → Numbers → ℕ → Source → List Message
pairs_read list script [] k from = []
pairs_read list script (new ∷ numbers) k from =
    pairs_read list script numbers k from
    ++ pairs_read_in list script (world list script (new ∷ numbers))
    (read_messages (reads_in script (length numbers)) new.read) k from

-- Writers.

-- the pairs that are joined in a writer, in their order
abbrev pub joined_pairs : WriterState → List Message
joined_pairs w = flat_map (λ s. s.pairs) w.joined

-- a reader that got a message at each attempt
abbrev pub GotEach : Settlement → Type 0
GotEach s = s.tries ≡ length s.pairs

-- a reader that loaded no counter above twice the number of the newest of these messages
abbrev pub SawAtMost : List (List ℕ) → Settlement → Type 0
SawAtMost messages s = s.seen ≤ 2 * newest_number messages

-- the writer of a ring of this shape, which wrote these messages, and in which these pairs are joined. None of the
-- readers that were settled loaded a counter above twice the writer's number, and with two buffers or more each got its
-- messages at the first attempt
pub record IsRing (shape : Shape) (messages : List (List ℕ)) (pairs : List Message) (w : WriterState) : Type 0 where
  pub shape_is : w.ring.shape ≡ shape
  pub messages_are : w.messages ≡ messages
  pub pairs_are : joined_pairs w ≡ pairs
  pub seen : All (SawAtMost w.messages) w.joined
  pub once : shape.buffers ≢ 1 → All GotEach w.joined

-- a writer is there exactly where a ring is due, and has written these messages
abbrev pub IsRingOf : Option Shape → List (List ℕ) → List Message → Option WriterState → Type 0
IsRingOf None messages pairs writer = writer ≡ None
IsRingOf (Some shape) messages pairs writer = IsSomeAnd writer (IsRing shape messages pairs)
