-- What is known of the nodes: before the first slot, and node by node after one slot more.
use Rattle.std.proofs.Common.{◌≡◌, ◌≢◌, ℕ, ◌+◌, ◌<◌, ◌≤◌, List, [], ◌∷◌, ◌++◌}
use Rattle.std.proofs.Common.{length, get_or, set, Option, None, refl, ap}
use Rattle.std.proofs.Common.{sym, subst, ◌∙◌, inl, inr, arith}
use Rattle.std.proofs.lemmas.Bool.{cases_eq}
use Rattle.std.proofs.lemmas.List.{length-set, get_or_default, get_or-set_same, get_or-set_other, length_push}
use Rattle.std.proofs.lemmas.List.{get_or_append_left}
use Rattle.std.proofs.Math.Seq.{get_or-append_seam}
use Rattle.ttp_world.specs.declared.medl.Medl.{Medl}
use Rattle.ttp_world.specs.declared.node.Chosen.{Chosen}
use Rattle.ttp_world.specs.declared.node.Delivered.{Delivered}
use Rattle.ttp_world.specs.declared.node.Entry.{Entry}
use Rattle.ttp_world.specs.declared.node.NodeState.{NodeState}
use Rattle.ttp_world.specs.declared.script.Script.{Script}
use Rattle.ttp_world.specs.After.{place_after}
use Rattle.ttp_world.specs.Diary.{History, entry_of, diary_of, Place, no_place, place_of}
use Rattle.ttp_world.specs.Outgoing.{nothing_chosen}
use Rattle.ttp_world.specs.World.{chosen_of}
use Rattle.node_parts.specs.ClockStandsFor.{ClockStandsFor}
use Rattle.controller.specs.PlantStands.{outcome_at, ShowsNode}
use Rattle.controller.specs.PlantView.{PlantView}
use Rattle.mode_change.specs.declared.node.NodeModes.{NodeModes}
use Rattle.mode_change.specs.Knowing.{AreSmall, mode_by, KnowsModes, KnowAll, IsPastRow}
use Rattle.mode_change.specs.ModeText.{mode_line, mode_line_of}
use Rattle.mode_change.specs.Modes.{no_modes, modes_of, modes_with, with_request, ends_cycle, switched_at}
use Rattle.mode_change.specs.Modes.{is_delivery_live}

-- Before the first slot.

pub record AreNew (nodes : List NodeModes) (list : Medl) (many : ℕ) : Type 0 where
  pub count : length nodes ≡ many
  pub each : (script : Script) (k : ℕ) (node : NodeModes) → k < many → node ≡ get_or nodes k node
      → KnowsModes node list script [] k

new-knows : (list : Medl) (script : Script) (k : ℕ) (new : NodeModes) → ClockStandsFor new.clock list no_place
    → new.modes ≡ no_modes → new.live ≡ None → KnowsModes new list script [] k
new-knows list script k new stands modes live = record {
  clock = stands;
  modes = modes;
  live = live;
  small = subst AreSmall (sym modes) (tt, tt);
}

pub new-more : (nodes : List NodeModes) (list : Medl) (many : ℕ) (new : NodeModes) → AreNew nodes list many
    → ClockStandsFor new.clock list no_place → new.modes ≡ no_modes → new.live ≡ None
    → AreNew (nodes ++ new ∷ []) list (many + 1)
new-more nodes list many new are stands modes live = record {
  count = length_push nodes new ∙ ap (λ n. n + 1) are.count;
  each = λ script k node less is. elim (cases_eq k many) [
    | inl last ↦
        let seam : get_or (nodes ++ new ∷ []) k node ≡ new =
        ap (λ i. get_or (nodes ++ new ∷ []) i node) (last ∙ sym are.count) ∙ get_or-append_seam nodes new [] node in
        subst (λ (n : NodeModes). KnowsModes n list script [] k) (sym (is ∙ seam))
        (new-knows list script k new stands modes live)
    | inr other ↦
        let count = are.count in
        are.each script k node (omega (arith, less, other))
        (is ∙ get_or_append_left nodes (new ∷ []) node k (omega (arith, less, other, count)))
  ];
}

-- A slot.

-- the nodes below one have taken the slot's part, and the others have not
pub record IsEntering (plant : PlantView) (chosen : List Chosen) (before nodes : List NodeModes) (list : Medl) (i : ℕ)
    : Type 0 where
  pub count : length nodes ≡ length before
  pub done : (script : Script) (row : List Entry) (history : History) → IsPastRow plant chosen list script row history
      → KnowAll before list script history → (k : ℕ) (node : NodeModes) → k < i → node ≡ get_or nodes k node
      → KnowsModes node list script (row ∷ history) k
  pub left : (k : ℕ) (node : NodeModes) → i ≤ k → node ≡ get_or nodes k node → node ≡ get_or before k node

pub entering-first : (plant : PlantView) (chosen : List Chosen) (nodes : List NodeModes) (list : Medl)
    → IsEntering plant chosen nodes nodes list 0
entering-first plant chosen nodes list = record {
  count = refl;
  done = λ script row history past known k node less is. absurd (omega (arith, less));
  left = λ k node from is. is;
}

module _ (plant : PlantView) (chosen : List Chosen) (list : Medl) (script : Script) (row : List Entry)
    (history : History) (past : IsPastRow plant chosen list script row history) (k : ℕ) (node : k < length list.slots)
  where
    -- the entry that the plant shows
    pub entry-shown : (state : NodeState) → ShowsNode plant k state → state.entry ≡ entry_of row k
    entry-shown state shows = ap (λ (s : NodeState). s.entry) (shows script (row ∷ history) past.stands)

    pub chosen-is : (j : ℕ) (c : Chosen) → j ≡ k → get_or chosen j c ≡ chosen_of chosen k
    chosen-is j c is =
        let nodes = past.nodes in
        ap (λ i. get_or chosen i c) is ∙ get_or_default chosen k c nothing_chosen (omega (arith, node, nodes))

    -- one node after the slot
    pub knows-next : (old new : NodeModes) (e : Entry) (c : Chosen) (delivered : Option Delivered)
        → KnowsModes old list script history k → e ≡ entry_of row k → c ≡ chosen_of chosen k
        → delivered ≡ (outcome_at plant k).delivered
        → ((place : Place) → ClockStandsFor old.clock list place
        → ClockStandsFor new.clock list (place_after list k place e))
        → ((place : Place) → ClockStandsFor old.clock list place
        → new.modes ≡ switched_at (ends_cycle list (place_after list k place e))
        (with_request (mode_by list k e c.payload delivered) (modes_with e old.modes)))
        → new.live ≡ is_delivery_live list delivered old.modes.mode → AreSmall new.modes
        → KnowsModes new list script (row ∷ history) k
    knows-next old new e c delivered knows entry_is chosen_as delivered_as stands modes live small =
        let place = place_of list k (diary_of history k) in
        let there : place_after list k place e ≡ place_of list k (diary_of (row ∷ history) k) =
        ap (place_after list k place) entry_is ∙ sym (past.place k node) in
        record {
          clock = subst (λ (p : Place). ClockStandsFor new.clock list p) there (stands place knows.clock);
          modes =
              modes place knows.clock
              ∙ (λ i. switched_at (ends_cycle list (there i))
              (with_request (mode_by list k (entry_is i) (chosen_as i).payload (delivered_as i))
              (modes_with (entry_is i) (knows.modes i))))
              ∙ ap (λ request. switched_at (ends_cycle list (place_of list k (diary_of (row ∷ history) k)))
              (with_request request (modes_with (entry_of row k) (modes_of list script history k))))
              (past.asked k node);
          live =
              live
              ∙ (λ i. is_delivery_live list ((delivered_as ∙ past.delivered k node) i) (knows.modes i).mode);
          small = small;
        }

module _ (plant : PlantView) (chosen : List Chosen) (before nodes : List NodeModes) (list : Medl) (i : ℕ)
    (entering : IsEntering plant chosen before nodes list i) (inside : i < length list.slots) where
  -- the node that is next is still as it was
  pub old-knows : (script : Script) (history : History) (old : NodeModes) → KnowAll before list script history
      → old ≡ get_or nodes i old → KnowsModes old list script history i
  old-knows script history old known is =
      known.each i old inside (entering.left i old (omega arith) is)

  pub old-is : (j : ℕ) (old : NodeModes) → length before ≡ length list.slots → j ≡ i
      → get_or nodes j old ≡ get_or nodes i (get_or nodes j old)
  old-is j old long is =
      let count = entering.count in
      ap (λ k. get_or nodes k old) is
      ∙ get_or_default nodes i old (get_or nodes j old) (omega (arith, inside, count, long))

  pub entering-next : (old new : NodeModes) → length before ≡ length list.slots → old ≡ get_or nodes i old
      → ((script : Script) (row : List Entry) (history : History) → IsPastRow plant chosen list script row history
      → KnowsModes old list script history i → KnowsModes new list script (row ∷ history) i)
      → IsEntering plant chosen before (set nodes i new) list (i + 1)
  entering-next old new long is next = record {
    count = length-set nodes i new ∙ entering.count;
    done = λ script row history past known k node less at. elim (cases_eq k i) [
      | inl same ↦
          let count = entering.count in
          let here : node ≡ new =
          at ∙ ap (λ j. get_or (set nodes i new) j node) same
          ∙ get_or-set_same nodes i new node (omega (arith, inside, count, long)) in
          subst (λ (n : NodeModes). KnowsModes n list script (row ∷ history) k) (sym here)
          (subst (KnowsModes new list script (row ∷ history)) (sym same)
          (next script row history past (old-knows script history old known is)))
      | inr other ↦
          entering.done script row history past known k node (omega (arith, less, other))
          (at ∙ get_or-set_other nodes i k new node other)
    ];
    left = λ k node from at.
        let other : k ≢ i = omega (arith, from) in
        entering.left k node (omega (arith, from)) (at ∙ get_or-set_other nodes i k new node other);
  }

pub entering-all : (plant : PlantView) (chosen : List Chosen) (before nodes : List NodeModes) (list : Medl) (i : ℕ)
    → IsEntering plant chosen before nodes list i → length list.slots ≤ i → (script : Script) (row : List Entry)
    (history : History) → IsPastRow plant chosen list script row history → KnowAll before list script history
    → KnowAll nodes list script (row ∷ history)
entering-all plant chosen before nodes list i entering all script row history past known = record {
  count = entering.count ∙ known.count;
  each = λ k node less at. entering.done script row history past known k node (omega (arith, less, all)) at;
}

-- The line of a node.
pub line-known : (nodes : List NodeModes) (list : Medl) (script : Script) (row : List Entry) (history : History)
    (slot k : ℕ) (node : NodeModes) → KnowAll nodes list script (row ∷ history) → slot ≡ length history
    → k < length list.slots → node ≡ get_or nodes k node
    → mode_line slot k node.modes node.live ≡ mode_line_of list script row history k
line-known nodes list script row history slot k node known at less is =
    let knows = known.each k node less is in
    λ i. mode_line (at i) k (knows.modes i) (knows.live i)
