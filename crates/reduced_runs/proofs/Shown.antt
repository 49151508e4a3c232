-- What a run shows of a node's newest entry.
use Rattle.std.proofs.Common.{◌≡◌, ℕ, ◌+◌, ◌<◌, List, length, ap, sym, ◌∙◌, arith}
use Rattle.std.specs.Prelude.{get_or}
use Rattle.std.proofs.Math.Numerals.{suc-eq-add-one}
use Rattle.std.proofs.lemmas.List.{get_or_default}
use Rattle.ttp_world.specs.declared.medl.Medl.{Medl}
use Rattle.ttp_world.specs.declared.node.NodeState.{NodeState}
use Rattle.ttp_world.specs.declared.script.Script.{Script}
use Rattle.ttp_world.specs.Diary.{newest_entry, diary_of}
use Rattle.ttp_world.specs.ZerosWorld.{zeros_world}
use Rattle.causes.specs.Reduced.{entry_in_run}
use Rattle.run_costs.specs.States.{AreShown, off_state}

pub shown-entry : (list : Medl) (script : Script) (slot k : ℕ) (states : List NodeState) (d : NodeState)
    → AreShown list script (zeros_world list script (slot + 1)) states → k < length list.slots
    → (get_or states k d).entry ≡ entry_in_run list script slot k
shown-entry list script slot k states d shown node =
    let count = shown.count in
    ap (λ (s : NodeState). s.entry) (get_or_default states k d off_state (omega (arith, count, node)))
    ∙ (ap (λ (s : NodeState). s.entry) (shown.nodes k node)
    ∙ ap (λ n. newest_entry (diary_of (zeros_world list script n) k)) (sym (suc-eq-add-one slot)))
