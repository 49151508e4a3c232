use Rattle.std.proofs.Common.{ℕ, ◌++◌, [], ◌∷◌, List, ap, append_assoc, sym, ◌∙◌}
use Rattle.std.proofs.lemmas.List.{append-nil}
use Rattle.std.specs.Prelude.{filter}
use Rattle.causes.specs.LinesOf.{spots_in}
use Rattle.causes.specs.declared.cause.Spot.{Spot}
use Rattle.entry_causes.proofs.Gathered.{spots-next}
use Rattle.ttp_world.proofs.ListFacts.{node-out}
use Rattle.run_looks.specs.declared.sources.Sources.{Sources}
use Rattle.run_rows.specs.Rows.{run_slot}
use Rattle.ttp_base.specs.NodeSet.{below, has_node}
use Rattle.entry_causes.proofs.senders.add_spots.Goals as goal
use Rattle.entry_causes.proofs.senders.add_spots.Goals.{then-has+in_ok-add_entry, else-has}

pub loop-node-preserved : goal.loop-node-preserved
loop-node-preserved c =
    let run = c.args.run.now in
    let s = run_slot run c.args.slot in
    let k = c.loop-node.node in
    let h = has_node c.args.nodes in
    let old = c.args.out.now.entries in
    let so_far = spots_in s (filter h (below k)) in
    elim c.if-has.branch [
      | then-has+in_ok-add_entry w ↦ record {
        lines =
            ap (λ (o : Sources). o.lines) w.out-is ∙ w.in_ok-add_entry.ensures.lines ∙ append-nil c.loop-node.out.lines
            ∙ c.loop-node.invariant.lines;
        entries =
            ap (λ (o : Sources). o.entries) w.out-is ∙ w.in_ok-add_entry.ensures.entries
            ∙ ap (λ (spots : List Spot). spots ++ record { slot = c.args.slot; node = k } ∷ [])
            c.loop-node.invariant.entries
            ∙ append_assoc old so_far (record { slot = c.args.slot; node = k } ∷ [])
            ∙ ap (λ (spots : List Spot). old ++ spots)
            (spots-next run.list run.script c.args.slot h k (sym c.has.ensures ∙ w.if-has.true));
      }
      | else-has w ↦ record {
        lines = ap (λ (o : Sources). o.lines) w.out-is ∙ c.loop-node.invariant.lines;
        entries =
            ap (λ (o : Sources). o.entries) w.out-is ∙ c.loop-node.invariant.entries
            ∙ ap (λ (nodes : List ℕ). old ++ spots_in s nodes)
            (sym (node-out h k (sym c.has.ensures ∙ w.if-has.false)));
      }
    ]
