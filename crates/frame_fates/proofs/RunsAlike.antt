-- Two runs whose frames carry messages of the same sizes go on alike, slot by slot.
use Rattle.std.proofs.Common.{◌≡◌, ℕ, suc, ◌+◌, ◌-◌, ◌*◌, ◌<◌, Bool, true, false, cond}
use Rattle.std.proofs.Common.{List, [], ◌∷◌, ◌++◌, length, Option, Some, None, refl, ap, sym, ◌∙◌}
use Rattle.std.proofs.Common.{arith, length-append}
use Rattle.std.specs.Prelude.{◌==◌, map, is_some}
use Rattle.ttp_base.specs.NodeSet.{below}
use Rattle.ttp_base.proofs.Below.{map_agree-below}
use Rattle.ttp_world.specs.declared.medl.Medl.{Medl}
use Rattle.ttp_world.specs.declared.node.Delivered.{Delivered}
use Rattle.ttp_world.specs.declared.node.Entry.{Entry}
use Rattle.ttp_world.specs.declared.script.Script.{Script}
use Rattle.ttp_world.specs.After.{past_after}
use Rattle.ttp_world.specs.Conduct.{delivery}
use Rattle.ttp_world.specs.Diary.{History, entry_of, is_active_phase}
use Rattle.ttp_world.specs.Medium.{surroundings_in}
use Rattle.ttp_world.specs.Messages.{delivered_of, in_messages, messages_of, new_messages, newest_number}
use Rattle.ttp_world.specs.Messages.{flag, is_listening_phase, is_left_phase, has_averaged, cstate_word}
use Rattle.ttp_world.specs.Messages.{status_messages, status_words}
use Rattle.ttp_world.specs.Acknowledgement.{is_open, is_doubt}
use Rattle.ttp_world.specs.Past.{NodePast}
use Rattle.ttp_world.specs.Reception.{Hearing}
use Rattle.ttp_world.specs.Script.{IsValidScript}
use Rattle.ttp_world.specs.World.{BegunNode, BegunSlot, begun_node, node_past, node_after, slot_after, node_of}
use Rattle.ttp_world.specs.World.{is_loaded, frames_in, hearing_in, row_in}
use Rattle.ttp_world.proofs.NextPasts.{node_past-next}
use Rattle.frame_fates.specs.Alike.{unnumbered, unnumbered_row, unnumbered_history, unnumbered_past, sender_delivered}
use Rattle.frame_fates.specs.Runs.{IsRowAfter, AreRuns}
use Rattle.frame_fates.proofs.SlotsAlike.{AreAsLong, row_in-alike}
use Rattle.frame_fates.proofs.Unnumbered.{unnumbered_node, unnumbered_slot, begun_node-unnumbered, node_of-unnumbered}
use Rattle.frame_fates.proofs.Unnumbered.{is_loaded-unnumbered, row_in-unnumbered, past_after-unnumbered}
use Rattle.frame_fates.proofs.Unnumbered.{is_sending-unnumbered}
use Rattle.frame_fates.proofs.Unnumbered.{entry_of-unnumbered, surroundings_in-unnumbered, delivery-unnumbered}
use Rattle.ttp_world.proofs.LineLists.{map_of_map as map-map}

-- histories of as many slots, after which each node has the same past, but for the number in it
pub record HavePasts (list : Medl) (script : Script) (one other : History) : Type 0 where
  pub slots : length one ≡ length other
  pub pasts : (k : ℕ) → k < length list.slots
      → unnumbered_past (node_past list script one k) ≡ unnumbered_past (node_past list script other k)

-- The slot after them.

node_after-alike : (list : Medl) (script : Script) (one other : History) (k : ℕ) → HavePasts list script one other
    → k < length list.slots
    → unnumbered_node (node_after list script one k) ≡ unnumbered_node (node_after list script other k)
node_after-alike list script one other k same node =
    begun_node-unnumbered list script (length one) (node_past list script one k) k
    ∙ (λ i. begun_node list script (same.slots i) (same.pasts k node i) k)
    ∙ sym (begun_node-unnumbered list script (length other) (node_past list script other k) k)

slot_after-alike : (list : Medl) (script : Script) (one other : History) → HavePasts list script one other
    → unnumbered_slot (slot_after list script one) ≡ unnumbered_slot (slot_after list script other)
slot_after-alike list script one other same =
    let n = length list.slots in
    let nodes : map unnumbered_node (map (node_after list script one) (below n))
    ≡ map unnumbered_node (map (node_after list script other) (below n)) =
    map-map unnumbered_node (node_after list script one) (below n)
    ∙ map_agree-below (λ k. unnumbered_node (node_after list script one k))
    (λ k. unnumbered_node (node_after list script other k)) n
    (λ k node. node_after-alike list script one other k same node)
    ∙ sym (map-map unnumbered_node (node_after list script other) (below n)) in
    λ i. record { list = list; script = script; number = same.slots i; nodes = nodes i }

node_of-alike : (list : Medl) (script : Script) (one other : History) (k : ℕ) → HavePasts list script one other
    → unnumbered_node (node_of (slot_after list script one) k)
    ≡ unnumbered_node (node_of (slot_after list script other) k)
node_of-alike list script one other k same =
    sym (node_of-unnumbered (slot_after list script one) k)
    ∙ ap (λ (s : BegunSlot). node_of s k) (slot_after-alike list script one other same)
    ∙ node_of-unnumbered (slot_after list script other) k

-- Its rows.

row-alike : (list : Medl) (script : Script) (one other : History) (row row_too : List Entry)
    → IsValidScript list script → HavePasts list script one other → IsRowAfter list script one row
    → IsRowAfter list script other row_too → unnumbered_row row ≡ unnumbered_row row_too
row-alike list script one other row row_too valid same made made_too =
    ap unnumbered_row (made.made ∙ sym (row_in-unnumbered s made.chosen))
    ∙ row_in-alike (unnumbered_slot s) made.chosen made_too.chosen valid long
    ∙ ap (λ (begun : BegunSlot). unnumbered_row (row_in begun made_too.chosen)) slots
    ∙ ap unnumbered_row (row_in-unnumbered t made_too.chosen ∙ sym made_too.made)
  where
    s : BegunSlot
    s = slot_after list script one

    t : BegunSlot
    t = slot_after list script other

    slots : unnumbered_slot s ≡ unnumbered_slot t
    slots = slot_after-alike list script one other same

    long : AreAsLong (unnumbered_slot s) made.chosen made_too.chosen
    long = record {
      same = λ k node loaded.
          made.sizes k node (sym (is_loaded-unnumbered s k) ∙ loaded)
          ∙ sym (made_too.sizes k node
          (sym (is_loaded-unnumbered t k) ∙ ap (λ (begun : BegunSlot). is_loaded begun k) (sym slots) ∙ loaded));
    }

-- The pasts after it.

entry-alike : (row row_too : List Entry) (k : ℕ) → unnumbered_row row ≡ unnumbered_row row_too
    → unnumbered (entry_of row k) ≡ unnumbered (entry_of row_too k)
entry-alike row row_too k same =
    sym (entry_of-unnumbered row k) ∙ ap (λ (r : List Entry). entry_of r k) same ∙ entry_of-unnumbered row_too k

surroundings-alike : (script : Script) (one other : History) (row row_too : List Entry) (k : ℕ)
    → length one ≡ length other → unnumbered_row row ≡ unnumbered_row row_too
    → surroundings_in script (length one) row k ≡ surroundings_in script (length other) row_too k
surroundings-alike script one other row row_too k slots same =
    sym (surroundings_in-unnumbered script (length one) row k)
    ∙ (λ i. surroundings_in script (slots i) (same i) k)
    ∙ surroundings_in-unnumbered script (length other) row_too k

past-next : (list : Medl) (script : Script) (history : History) (row : List Entry) (k : ℕ)
    → IsRowAfter list script history row → k < length list.slots
    → unnumbered_past (node_past list script (row ∷ history) k)
    ≡ unnumbered_past (past_after list k (unnumbered_past (node_past list script history k))
    (unnumbered (entry_of row k)) (surroundings_in script (length history) row k))
past-next list script history row k made node =
    (λ i. unnumbered_past (node_past list script (made.made i ∷ history) k))
    ∙ ap unnumbered_past (node_past-next list script history made.chosen k node)
    ∙ (λ i. unnumbered_past (past_after list k (node_past list script history k) (entry_of (sym made.made i) k)
    (surroundings_in script (length history) (sym made.made i) k)))
    ∙ past_after-unnumbered list k (node_past list script history k) (entry_of row k)
    (surroundings_in script (length history) row k)

HavePasts-next : (list : Medl) (script : Script) (one other : History) (row row_too : List Entry)
    → IsValidScript list script → HavePasts list script one other → IsRowAfter list script one row
    → IsRowAfter list script other row_too → HavePasts list script (row ∷ one) (row_too ∷ other)
HavePasts-next list script one other row row_too valid same made made_too =
    let rows = row-alike list script one other row row_too valid same made made_too in
    record {
      slots = ap suc same.slots;
      pasts = λ k node.
          let entries = entry-alike row row_too k rows in
          let around = surroundings-alike script one other row row_too k same.slots rows in
          past-next list script one row k made node
          ∙ (λ i. unnumbered_past (past_after list k (same.pasts k node i) (entries i) (around i)))
          ∙ sym (past-next list script other row_too k made_too node);
    }

-- The runs.

-- the slots before the newest
pub older : {list : Medl} {script : Script} {one other : History} {row row_too : List Entry}
    → AreRuns list script (row ∷ one) (row_too ∷ other) → AreRuns list script one other
older runs = record {
  valid = runs.valid;
  first = runs.first.1;
  second = runs.second.1;
  slots = omega (arith, runs.slots);
}

pub runs-pasts : (list : Medl) (script : Script) (one other : History) → AreRuns list script one other
    → HavePasts list script one other
runs-pasts list script [] [] runs = record { slots = refl; pasts = λ k node. refl }
runs-pasts list script (row ∷ one) (row_too ∷ other) runs =
    HavePasts-next list script one other row row_too runs.valid (runs-pasts list script one other (older runs))
    runs.first.0 runs.second.0
runs-pasts list script one other runs = absurd (omega (arith, runs.slots))

pub runs-clocks : (list : Medl) (script : Script) (one other : History) (k : ℕ) → AreRuns list script one other
    → k < length list.slots → (node_past list script one k).offset ≡ (node_past list script other k).offset
runs-clocks list script one other k runs node =
    ap (λ (past : NodePast). past.offset) ((runs-pasts list script one other runs).pasts k node)

newest-alike : (list : Medl) (script : Script) (one other : History) (row row_too : List Entry)
    → AreRuns list script (row ∷ one) (row_too ∷ other) → unnumbered_row row ≡ unnumbered_row row_too
newest-alike list script one other row row_too runs =
    row-alike list script one other row row_too runs.valid (runs-pasts list script one other (older runs))
    runs.first.0 runs.second.0

pub runs-entries : (list : Medl) (script : Script) (one other : History) → AreRuns list script one other
    → unnumbered_history one ≡ unnumbered_history other
runs-entries list script [] [] runs = refl
runs-entries list script (row ∷ one) (row_too ∷ other) runs = λ i.
    newest-alike list script one other row row_too runs i ∷ runs-entries list script one other (older runs) i
runs-entries list script one other runs = absurd (omega (arith, runs.slots))

-- Deliveries.

delivery-alike : (list : Medl) (k : ℕ) (p q : NodePast) (h g : Hearing) (d e : Entry)
    → unnumbered_past p ≡ unnumbered_past q → unnumbered d ≡ unnumbered e
    → sender_delivered (delivery list k p h d) ≡ sender_delivered (delivery list k q g e)
delivery-alike list k p q h g d e pasts entries =
    delivery-unnumbered list k p h h d
    ∙ (λ i. sender_delivered (delivery list k (pasts i) h (entries i)))
    ∙ sym (delivery-unnumbered list k q g h e)

pub runs-deliveries : (list : Medl) (script : Script) (row row_too : List Entry) (one other : History) (k : ℕ)
    → AreRuns list script (row ∷ one) (row_too ∷ other)
    → sender_delivered (delivered_of list script one row k)
    ≡ sender_delivered (delivered_of list script other row_too k)
runs-deliveries list script row row_too one other k runs =
    let s = slot_after list script one in
    let t = slot_after list script other in
    let nodes = node_of-alike list script one other k (runs-pasts list script one other (older runs)) in
    delivery-alike list k (node_of s k).past (node_of t k).past
    (hearing_in s (frames_in s (messages_of list script (length one) row)) k)
    (hearing_in t (frames_in t (messages_of list script (length other) row_too)) k)
    (entry_of row k) (entry_of row_too k) (ap (λ (node : BegunNode). node.past) nodes)
    (entry-alike row row_too k (newest-alike list script one other row row_too runs))

-- so as many messages came from each sender
abbrev count_of : ℕ → Option ℕ → ℕ
count_of p None = 0
count_of p (Some sender) = length (new_messages p (Some (record { sender = sender; payload = [] })))

one_or_none : (b : Bool) (payload : List ℕ)
    → length {A = List ℕ} (cond b (payload ∷ []) []) ≡ length {A = List ℕ} (cond b ([] ∷ []) [])
one_or_none true payload = refl
one_or_none false payload = refl

length-new_messages : (p : ℕ) (delivered : Option Delivered)
    → length (new_messages p delivered) ≡ count_of p (sender_delivered delivered)
length-new_messages p None = refl
length-new_messages p (Some d) = one_or_none (d.sender == p) d.payload

length-in_messages : (list : Medl) (script : Script) (one other : History) (k p : ℕ) → AreRuns list script one other
    → length (in_messages list script one k p) ≡ length (in_messages list script other k p)
length-in_messages list script [] [] k p runs = refl
length-in_messages list script (row ∷ one) (row_too ∷ other) k p runs =
    let mine = delivered_of list script one row k in
    let theirs = delivered_of list script other row_too k in
    let same = length-new_messages p mine ∙ ap (count_of p) (runs-deliveries list script row row_too one other k runs)
    ∙ sym (length-new_messages p theirs) in
    let before = length-in_messages list script one other k p (older runs) in
    let long = length-append (in_messages list script one k p) (new_messages p mine) in
    omega (arith, long, before, same, length-append (in_messages list script other k p) (new_messages p theirs))
length-in_messages list script one other k p runs = absurd (omega (arith, runs.slots))

pub runs-received : (list : Medl) (script : Script) (one other : History) (k p : ℕ) → AreRuns list script one other
    → newest_number (in_messages list script one k p) ≡ newest_number (in_messages list script other k p)
runs-received list script one other k p runs = ap (λ n. n - 1) (length-in_messages list script one other k p runs)

-- Status.

is_some-sender : (delivered : Option Delivered) → is_some delivered ≡ is_some (sender_delivered delivered)
is_some-sender None = refl
is_some-sender (Some d) = refl

-- status words by whether the node sent in the slot
abbrev words_by : Medl → ℕ → NodePast → Bool → Bool → List ℕ
words_by list slot past sends delivers =
    slot
    ∷ (flag 1 (is_active_phase past.phase)
    + (flag 2 (is_listening_phase past.phase)
    + (flag 4 (is_left_phase past.phase)
    + (flag 8 sends
    + (flag 16 delivers
    + (flag 32 (is_open past.ack)
    + (flag 64 (is_doubt past.ack)
    + flag 128 (has_averaged list past))))))))
    ∷ cstate_word list past ∷ (256 * past.accepted + past.rejected) ∷ []

status_words-unnumbered : (list : Medl) (slot : ℕ) (past : NodePast) (delivers : Bool)
    → status_words list slot past delivers ≡ status_words list slot (unnumbered_past past) delivers
status_words-unnumbered list slot past delivers =
    ap (λ sends. words_by list slot past sends delivers) (sym (is_sending-unnumbered past.entry))

pub runs-status : (list : Medl) (script : Script) (one other : History) (k : ℕ) → AreRuns list script one other
    → k < length list.slots → status_messages list script one k ≡ status_messages list script other k
runs-status list script [] [] k runs node = refl
runs-status list script (row ∷ one) (row_too ∷ other) k runs node =
    let pasts = runs-pasts list script (row ∷ one) (row_too ∷ other) runs in
    let slots = (runs-pasts list script one other (older runs)).slots in
    let delivers : is_some (delivered_of list script one row k) ≡ is_some (delivered_of list script other row_too k) =
    is_some-sender (delivered_of list script one row k)
    ∙ ap is_some (runs-deliveries list script row row_too one other k runs)
    ∙ sym (is_some-sender (delivered_of list script other row_too k)) in
    let words : status_words list (length one) (node_past list script (row ∷ one) k)
    (is_some (delivered_of list script one row k))
    ≡ status_words list (length other) (node_past list script (row_too ∷ other) k)
    (is_some (delivered_of list script other row_too k)) =
    status_words-unnumbered list (length one) (node_past list script (row ∷ one) k) _
    ∙ (λ i. status_words list (slots i) (pasts.pasts k node i) (delivers i))
    ∙ sym (status_words-unnumbered list (length other) (node_past list script (row_too ∷ other) k) _) in
    λ i. runs-status list script one other k (older runs) node i ++ words i ∷ []
runs-status list script one other k runs node = absurd (omega (arith, runs.slots))
