-- Sets of a list's nodes: they have room in its frames, and those on which a node joins are such.
use Rattle.controller.proofs.Words.{ℕ, ◌<◌, Bool, true, false, ◌∷◌, [], List, length, subst, sym, arith, ◌≡◌, refl}
use Rattle.controller.proofs.Words.{IfSome, ◌&&◌, ◌∙◌, bit_at, ◌==◌, and_parts, nat_tests, Medl, Ack, carried}
use Rattle.controller.proofs.Words.{is_joinable_state, IsValid, is_wide, member_width, nodes-most, nat_lt, ltb-true}
use Rattle.controller.proofs.Words.{node_limit, node_limit-most, IsCStateWithin, AreNodes, list_all}
use Rattle.ttp_world.specs.Reception.{Candidates, candidate_sets, candidates}
use Rattle.ttp_base.proofs.NodeLists.{filter-below, with_node-nil}
use Rattle.ttp_base.proofs.NodeSets.{has_node-sieve, same_sieve}
use Rattle.ttp_base.proofs.SetWords.{HasWord, HasWord-filter, HasWord-only, HasWord-with, HasWord-without}
use Rattle.ttp_base.proofs.SetWords.{set_bits-small}
use Rattle.ttp_base.specs.NodeSet.{most_nodes, has_node, with_node, without_node, members_in}
use Rattle.ttp_frame.specs.Shape.{HaveRoom}
use Rattle.ttp_world.specs.declared.node.Ack.TheVariants as ack

-- a set has a word of the list's frames
abbrev HasListWord : Medl → List ℕ → Type 0
HasListWord list members = HasWord (node_limit list) members

has_room : (list : Medl) (members : List ℕ) → HasListWord list members → HaveRoom (is_wide list) members
has_room list members word = set_bits-small (node_limit list) members word (node_limit-most list)

module _ (list : Medl) (valid : IsValid list) where
  nodes-word : (members : List ℕ) → AreNodes list members → HasListWord list members
  nodes-word members are = rw are
      (HasWord-filter (node_limit list) (has_node members) (length list.slots) valid.count.1 (nodes-most list valid))

  with_node-word : (members : List ℕ) (k : ℕ) → k < length list.slots → HasListWord list members
      → HasListWord list (with_node members k)
  with_node-word members k node has =
      HasWord-with (node_limit list) members k has (omega (arith, valid.count)) (omega (arith, nodes-most list valid))

  without_node-word : (members : List ℕ) (k : ℕ) → k < length list.slots → HasListWord list members
      → HasListWord list (without_node members k)
  without_node-word members k node has =
      HasWord-without (node_limit list) members k has (omega (arith, nodes-most list valid))

  pub nodes-room : (members : List ℕ) → AreNodes list members → HaveRoom (is_wide list) members
  nodes-room members are = has_room list members (nodes-word members are)

  pub with_node-room : (members : List ℕ) (k : ℕ) → AreNodes list members → k < length list.slots
      → HaveRoom (is_wide list) (with_node members k)
  with_node-room members k are node = has_room list _ (with_node-word members k node (nodes-word members are))

  pub only-room : (k : ℕ) → k < length list.slots → HaveRoom (is_wide list) (k ∷ [])
  only-room k node = has_room list _ (HasWord-only (node_limit list) k (omega (arith, valid.count))
      (omega (arith, nodes-most list valid)))

pub ruleset rooms = (nodes-room, with_node-room, only-room, with_node-nil, nodes-most)

-- The candidates for a sender's members, where they are made of nodes of the list.

pub record HaveRooms (list : Medl) (c : Candidates) : Type 0 where
  pub first : HaveRoom (is_wide list) c.first
  pub second : IfSome c.second (HaveRoom (is_wide list))

module _ (list : Medl) (a : Ack) (own : ℕ) (valid : IsValid list) (node : own < length list.slots)
    (doubt : (x : ℕ) → a ≡ ack.Doubt x → x < length list.slots) where
  candidate_sets-room : (b : Ack) (members : List ℕ) → a ≡ b → HasListWord list members
      → HaveRooms list (candidate_sets b own members)
  candidate_sets-room ack.Closed members same has = record { first = has_room list _ has; second = tt }
  candidate_sets-room ack.First members same has = record {
    first = has_room list _ (with_node-word list valid members own node has);
    second = has_room list _ (without_node-word list valid members own node has);
  }
  candidate_sets-room (ack.Doubt x) members same has = record {
    first = has_room list _ (without_node-word list valid (with_node members own) x (doubt x same)
        (with_node-word list valid members own node has));
    second = has_room list _ (with_node-word list valid (without_node members own) x (doubt x same)
        (without_node-word list valid members own node has));
  }

  -- where they are made of nodes of the list
  pub candidates-room : (members : List ℕ) (sender : ℕ) → sender < length list.slots → AreNodes list members
      → HaveRooms list (candidates a own members sender)
  candidates-room members sender sends are =
      candidate_sets-room a (with_node members sender) refl
      (with_node-word list valid members sender sends (nodes-word list valid members are))

-- A C-state on which a node joins is one of the list.

-- what all members pass, each passes
each_of_all : (q : ℕ → Bool) (s : List ℕ) (j : ℕ) → list_all q s ≡ true → has_node s j ≡ true → q j ≡ true
each_of_all q [] j all is = cc
each_of_all q (x ∷ s) j all is = grind (arith, nat_tests, each_of_all q s j)

-- a test that another one implies takes nothing from it
absorbs : (x y : Bool) → (y ≡ true → x ≡ true) → y ≡ (x && y)
absorbs true y implied = refl
absorbs false true implied = sym (implied refl)
absorbs false false implied = refl

-- the members of a word are nodes of a list where each is
members_in-nodes : (list : Medl) (word : ℕ) → IsValid list
    → list_all (λ k. nat_lt k (length list.slots)) (members_in word) ≡ true → AreNodes list (members_in word)
unfolding members_in
members_in-nodes list word valid all =
    let n = length list.slots in
    let members = members_in word in
    let is_set = λ (k : ℕ). bit_at word k == 1 in
    let agree : (j : ℕ) → j < most_nodes → is_set j ≡ (nat_lt j n && has_node members j) =
    λ j within. sym (has_node-sieve is_set most_nodes j within)
    ∙ absorbs (nat_lt j n) (has_node members j) (each_of_all (λ k. nat_lt k n) members j all) in
    same_sieve is_set (λ j. nat_lt j n && has_node members j) most_nodes agree
    ∙ filter-below (has_node members) n most_nodes (nodes-most list valid)

pub joinable-within : (list : Medl) (bytes : List ℕ) → IsValid list
    → is_joinable_state list (carried (member_width list) bytes) ≡ true
    → IsCStateWithin list (carried (member_width list) bytes)
joinable-within list bytes valid joins =
    let c = carried (member_width list) bytes in
    let round = and_parts (nat_lt c.round list.rounds) _ joins in
    let slot = and_parts (nat_lt c.slot (length list.slots)) _ round.1 in
    record {
      round = ltb-true c.round list.rounds round.0;
      slot = ltb-true c.slot (length list.slots) slot.0;
      members = members_in-nodes list _ valid (and_parts _ _ slot.1).0;
    }
