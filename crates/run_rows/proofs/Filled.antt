-- An array that is filled node by node.
use Rattle.std.proofs.Common.{◌≡◌, ◌≢◌, ℕ, ◌+◌, ◌<◌, ◌≤◌, List, length, get_or}
use Rattle.std.proofs.Common.{ap, sym, subst, ◌∙◌, arith, unsigned_abs}
use Rattle.std.proofs.Common.{below_more, get_or-set_other}
use Rattle.std.proofs.Math.ListN.{length-set}
use Rattle.std.proofs.lemmas.List.{get_or-set_same, get_or_default}
use Rattle.std.specs.Prelude.{slice_set}
use Rattle.ttp_world.specs.ZerosWorld.{zeros_world}
use Rattle.controller.specs.Limits.{most_clock}
use Rattle.run_rows.proofs.FromBelow.{next_row}
use Rattle.run_costs.specs.States.{AreShown, off_state}
use Rattle.run_rows.proofs.OneMore.{shown-entry}
use Rattle.run_rows.specs.Begun.{AreBegun, begun_shown, nothing_begun}
use Rattle.run_rows.specs.Kept.{AreKeptOf, kept_of, nothing_kept}
use Rattle.run_rows.specs.declared.row.Kept.{Kept}
use Rattle.run_rows.specs.declared.row.NodeBegun.{NodeBegun}
use Rattle.ttp_world.specs.Diary.{entry_of}
use Rattle.ttp_world.specs.Past.{state_of}
use Rattle.ttp_world.specs.World.{node_after, node_past}
use Rattle.ttp_world.specs.declared.medl.Medl.{Medl}
use Rattle.ttp_world.specs.declared.node.NodeState.{NodeState}
use Rattle.ttp_world.specs.declared.script.Script.{Script}

-- one more is what it is to be
set-more : {X : Type 0} (f : ℕ → X) (xs : List X) (d x : X) (at n : ℕ) → at ≡ n → n < length xs → x ≡ f n
    → ((k : ℕ) → k < n → get_or xs k d ≡ f k)
    → (k : ℕ) → k < n + 1 → get_or (slice_set xs at x) k d ≡ f k
set-more f xs d x at n same inside is before =
    below_more _ _
    (λ k earlier.
    let other : k ≢ at = omega (arith, same, earlier) in get_or-set_other xs at k x d other ∙ before k earlier)
    (ap (λ (m : ℕ). get_or (slice_set xs at x) m d) (sym same)
    ∙ get_or-set_same xs at x d (omega (arith, same, inside))
    ∙ is)

pub kept-more : (list : Medl) (script : Script) (slots n at : ℕ) (kept : List Kept) (one : Kept) → at ≡ n → n < 24
    → AreKeptOf list script slots n kept
    → one ≡ kept_of (node_past list script (zeros_world list script slots) n)
    → AreKeptOf list script slots (n + 1) (slice_set kept at one)
kept-more list script slots n at kept one same few are is = record {
  room = length-set kept at one ∙ are.room;
  nodes =
      set-more (λ k. kept_of (node_past list script (zeros_world list script slots) k)) kept nothing_kept one at n same
      (omega (arith, few, are.room)) is are.nodes;
}

pub begun-more : (list : Medl) (script : Script) (slot n at : ℕ) (begun : List NodeBegun) (one : NodeBegun) → at ≡ n
    → n < 24 → AreBegun list script slot n begun
    → one ≡ begun_shown list (node_after list script (zeros_world list script slot) n)
    → unsigned_abs one.clock ≤ most_clock
    → AreBegun list script slot (n + 1) (slice_set begun at one)
begun-more list script slot n at begun one same few are is near = record {
  room = length-set begun at one ∙ are.room;
  nodes =
      set-more (λ k. begun_shown list (node_after list script (zeros_world list script slot) k))
      begun nothing_begun one at
      n same (omega (arith, few, are.room)) is are.nodes;
  near = below_more _ _ are.near (subst (λ (b : NodeBegun). unsigned_abs b.clock ≤ most_clock) is near);
}

-- What is read of it.

pub kept-at : (list : Medl) (script : Script) (slots n at k : ℕ) (kept : List Kept) (d : Kept)
    → AreKeptOf list script slots n kept → n ≤ 24 → at ≡ k → k < n
    → get_or kept at d ≡ kept_of (node_past list script (zeros_world list script slots) k)
kept-at list script slots n at k kept d are few same less =
    ap (λ (m : ℕ). get_or kept m d) same
    ∙ get_or_default kept k d nothing_kept (omega (arith, are.room, few, less))
    ∙ are.nodes k less

pub begun-at : (list : Medl) (script : Script) (slot n at k : ℕ) (begun : List NodeBegun) (d : NodeBegun)
    → AreBegun list script slot n begun → n ≤ 24 → at ≡ k → k < n
    → get_or begun at d ≡ begun_shown list (node_after list script (zeros_world list script slot) k)
begun-at list script slot n at k begun d are few same less =
    ap (λ (m : ℕ). get_or begun m d) same
    ∙ get_or_default begun k d nothing_begun (omega (arith, are.room, few, less))
    ∙ are.nodes k less

pub state-shown : (list : Medl) (script : Script) (slots at k : ℕ) (states : List NodeState) (d : NodeState)
    → AreShown list script (zeros_world list script slots) states → at ≡ k → k < length list.slots
    → get_or states at d ≡ state_of (node_past list script (zeros_world list script slots) k)
state-shown list script slots at k states d shown same less =
    ap (λ (m : ℕ). get_or states m d) same
    ∙ get_or_default states k d off_state (omega (arith, shown.count, less))
    ∙ shown.nodes k less

pub entry-at : (list : Medl) (script : Script) (slot at k : ℕ) (states : List NodeState) (d : NodeState)
    → AreShown list script (zeros_world list script (slot + 1)) states → at ≡ k → k < length list.slots
    → (get_or states at d).entry ≡ entry_of (next_row list script slot) k
entry-at list script slot at k states d shown same less =
    ap (λ (s : NodeState). s.entry)
    (ap (λ (m : ℕ). get_or states m d) same
    ∙ get_or_default states k d off_state (omega (arith, shown.count, less)))
    ∙ shown-entry list script slot k states shown less
