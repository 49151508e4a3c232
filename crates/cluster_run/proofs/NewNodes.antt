-- The nodes of a new cluster, as their ends are made one after another: their rings have the zeros of the world.
use Rattle.cluster_run.proofs.Words.{◌≡◌, All-nil, ℕ, ◌+◌, ◌*◌, Bool, true, false, cond, List, [], ◌∷◌, length, map}
use Rattle.cluster_run.proofs.Words.{get_or, replicate, Option, Some, None, refl, sym, ap, subst, ◌∙◌, All, fill_by_all}
use Rattle.cluster_run.proofs.Words.{length-replicate, Shape, WriterState, Medl, Script, Source, plan_at, word_count}
use Rattle.cluster_run.proofs.Words.{words_of_payload, shape_of, message_shape, incoming_shape, IsNew, GotEach}
use Rattle.cluster_run.proofs.Words.{SawAtMost, joined_pairs, IsRingOf, words_written, words_read, steps}
use Rattle.cluster_run.proofs.Words.{map_agree-below, number_in, zeros_of, payload_word, ◌++◌, arith, ControllerState}
use Rattle.cluster_run.proofs.Words.{HostState, at_source, AreNewEnds, Nodes, AreBytesBefore, desk_ends, end_at}
use Rattle.cluster_run.proofs.Words.{host_at, nodes_view, NodesStandFor, StandsForSome}
use Rattle.std.proofs.lemmas.List.{length-append}
use Rattle.cluster_run.specs.Nodes.{AreNewNodes}
use Rattle.cluster_run.proofs.Changes.{pushed_more}
use Rattle.ttp_world.specs.declared.script.Source.TheVariants as source

-- The words of zeros are zeros.

zero_at : (n k : ℕ) → ◌≡◌ {A = ℕ} (get_or (replicate n 0) k 0) 0
zero_at n k = grind steps

word_of_zeros : (n i : ℕ) → payload_word (replicate n 0) i ≡ 0
word_of_zeros n i = ap number_in
    (map_agree-below (λ j. get_or (replicate n 0) (8 * i + j) 0) (λ j. 0) 8 (λ j near. zero_at n (8 * i + j)))

words_of_zeros : (n : ℕ) → words_of_payload (replicate n 0) ≡ replicate (word_count n) 0
words_of_zeros n = rw length-replicate (sym (fill_by_all (payload_word (replicate n 0)) (replicate (word_count n) 0)
    (word_count n) 0 (length-replicate (word_count n) 0)
    (λ i near. zero_at (word_count n) i ∙ sym (word_of_zeros n i))))

-- A new ring.

new_ring : (shape : Shape) (messages : List (List ℕ)) (w : Option WriterState) → messages ≡ replicate shape.width 0 ∷ []
    → IsNew (Some shape) w → IsRingOf (Some shape) messages [] w
new_ring shape messages None zeros new = new
new_ring shape messages (Some w) zeros new = record {
  shape_is = new.0;
  messages_are = ap (λ (v : WriterState). v.messages) new.1 ∙ ap (λ (s : Shape). replicate s.width 0 ∷ []) new.0
      ∙ sym zeros;
  pairs_are = ap joined_pairs new.1;
  seen = subst (All (SawAtMost w.messages))
      (sym (ap (λ (v : WriterState). v.joined) new.1)) (All-nil (SawAtMost w.messages));
  once = λ more. subst (All GotEach) (sym (ap (λ (v : WriterState). v.joined) new.1)) (All-nil GotEach);
}

new_ring_if : (empty : Bool) (shape : Shape) (messages : List (List ℕ)) (w : Option WriterState)
    → messages ≡ replicate shape.width 0 ∷ [] → IsNew (cond empty None (Some shape)) w
    → IsRingOf (cond empty None (Some shape)) messages [] w
new_ring_if true shape messages w zeros new = new
new_ring_if false shape messages w zeros new = new_ring shape messages w zeros new

zero_words : (list : Medl) (k : ℕ)
    → map words_of_payload (zeros_of list k ∷ []) ≡ replicate (shape_of list (word_count
    (plan_at list k).payload)).width 0 ∷ []
zero_words list k = ap (λ ws. ws ∷ []) (words_of_zeros (plan_at list k).payload)

-- what hosts send
pub new_written : (list : Medl) (script : Script) (k : ℕ) (w : Option WriterState) → IsNew (message_shape list k) w
    → IsRingOf (message_shape list k) (words_written list script k 0) [] w
new_written list script k w new = grind (steps, new_ring_if, zero_words)

-- A new ring that a host reads holds one message, of zeros.
new_read_if : (own empty : Bool) (shape : Shape) (messages : List (List ℕ)) (w : Option WriterState)
    → messages ≡ replicate shape.width 0 ∷ [] → IsNew (cond own None (cond empty None (Some shape))) w
    → IsRingOf (cond own None (cond empty None (Some shape))) messages [] w
new_read_if true empty shape messages w zeros new = new
new_read_if false empty shape messages w zeros new = new_ring_if empty shape messages w zeros new

pub new_read : (list : Medl) (script : Script) (k : ℕ) (from : Source) (w : Option WriterState)
    → IsNew (incoming_shape list k from) w
    → IsRingOf (incoming_shape list k from) (words_read list script [] k from) [] w
new_read list script k source.Status w new = new_ring (shape_of list 4) (replicate 4 0 ∷ []) w refl new
new_read list script k (source.Node p) w new = grind (steps, new_read_if, zero_words)

-- both ends of the first nodes, so many, all new
pub record AreMade (list : Medl) (k : ℕ) (cs : List ControllerState) (hs : List HostState) : Type 0 where
  pub controllers : length cs ≡ k
  pub hosts : length hs ≡ k
  pub new : AreNewEnds list k cs hs

pub made_more : (list : Medl) (k : ℕ) (cs : List ControllerState) (hs : List HostState) (c : ControllerState)
    (h : HostState) → AreMade list k cs hs → ((from : Source) → IsNew (incoming_shape list k from) (at_source c from))
    → IsNew (message_shape list k) h → AreMade list (k + 1) (cs ++ c ∷ []) (hs ++ h ∷ [])
made_more list k cs hs c h made incoming outgoing = record {
  controllers = omega (arith, length-append cs (c ∷ []), made.controllers);
  hosts = omega (arith, length-append hs (h ∷ []), made.hosts);
  new = record {
    incoming = pushed_more (λ j e. (from : Source) → IsNew (incoming_shape list j from) (at_source e from)) [] k cs c
        made.controllers made.new.incoming incoming;
    outgoing = pushed_more (λ j e. IsNew (message_shape list j) e) None k hs h made.hosts made.new.outgoing outgoing;
  };
}

pub new_nodes : (list : Medl) (script : Script) (nodes : Nodes) → AreNewNodes list nodes
    → NodesStandFor list script (nodes_view nodes) []
new_nodes list script nodes new = record {
  seats = record { each = λ j seat here. new.stand.each j seat here };
  written = λ k near. new_written list script k (host_at nodes.host_ends.items k) (new.rings.outgoing k near);
  read = λ k near from. new_read list script k from (at_source (end_at (desk_ends nodes.desks.items) k) from)
      (new.rings.incoming k near from);
}

-- Before slot 0 hosts have written nothing but zeros, which are bytes.
pub new_bytes : (list : Medl) (script : Script) → AreBytesBefore list script 0
new_bytes list script k = grind steps

pub new_stands : (list : Medl) (script : Script) (nodes : Nodes) → AreNewNodes list nodes
    → StandsForSome list script 0 (nodes_view nodes)
new_stands list script nodes new =
    record { numbers = []; at = record { count = refl; stands = new_nodes list script nodes new } }
