-- What a ring of the cluster has, and what it is once messages are written and a reader is settled.
use Rattle.cluster_run.proofs.Words.{◌≡◌, ◌≢◌, ℕ, ◌≤◌, ◌^◌, List, ◌++◌, length, Option, Some, None, IsSomeAnd, refl}
use Rattle.cluster_run.proofs.Words.{sym, ap, ◌∙◌, arith, IsSome, All-push, Message, Shape, WriterState, ReaderState}
use Rattle.cluster_run.proofs.Words.{with_joined, HasSeen, HasRoom, steps, Takes, word_count, IsRing, message_count}
use Rattle.std.proofs.lemmas.List.Concat.{flat_map-append}

pub ring_some : (shape : Shape) (messages : List (List ℕ)) (pairs : List Message) (end : Option WriterState)
    → IsSomeAnd end (IsRing shape messages pairs) → IsSome end
ring_some shape messages pairs None ring = absurd ring
ring_some shape messages pairs (Some w) ring = refl

pub ring_count : (shape : Shape) (messages : List (List ℕ)) (pairs : List Message) (end : Option WriterState)
    → IsSomeAnd end (IsRing shape messages pairs) → message_count end ≡ length messages
ring_count shape messages pairs None ring = absurd ring
ring_count shape messages pairs (Some w) ring = ap length ring.messages_are

pub ring_takes : (shape : Shape) (messages : List (List ℕ)) (pairs : List Message) (end : Option WriterState) (size : ℕ)
    → IsSomeAnd end (IsRing shape messages pairs) → size ≤ 240 → word_count size ≡ shape.width → Takes end size
ring_takes shape messages pairs None size ring few wide = absurd ring
ring_takes shape messages pairs (Some w) size ring few wide =
    (few, wide ∙ sym (ap (λ (s : Shape). s.width) ring.shape_is))

-- one of few messages has room for one more
pub room_of : (shape : Shape) (messages : List (List ℕ)) (pairs : List Message) (w : Option WriterState)
    → IsSomeAnd w (IsRing shape messages pairs) → length messages ≤ 2 ^ 62 → HasRoom w
room_of shape messages pairs None ring few = absurd ring
room_of shape messages pairs (Some w) ring few = omega (arith, ap length ring.messages_are, few)

-- with these messages more, after so many steps
pub ring_more : {shape : Shape} {messages : List (List ℕ)} {pairs : List Message} {w : WriterState}
    (more : List (List ℕ)) (n : ℕ) → IsRing shape messages pairs w
    → IsRing shape (messages ++ more) pairs (record w { messages = w.messages ++ more; steps = n })
ring_more {w = w} more n ring = grind steps

-- A ring with the pairs of one reader more, which is settled.
pub settled_ring : {shape : Shape} {messages : List (List ℕ)} {pairs : List Message} {w : WriterState} (r : ReaderState)
    → IsRing shape messages pairs w → (shape.buffers ≢ 1 → r.tries ≡ length r.got) → HasSeen w r
    → IsRing shape messages (pairs ++ r.got) (with_joined w r)
settled_ring {w = w} r ring once seen = grind (steps, All-push, flat_map-append)
