use Rattle.std.proofs.Common.{ℕ, ◌++◌, [], ◌∷◌, List, ap, append_assoc, sym, ◌∙◌}
use Rattle.std.proofs.lemmas.List.{append-nil}
use Rattle.std.proofs.lemmas.List.Elements.{filter_map-append}
use Rattle.std.specs.List.{filter_map}
use Rattle.std.specs.Prelude.{filter}
use Rattle.causes.specs.LinesOf.{widest_line}
use Rattle.causes.specs.declared.cause.ScriptLine.{ScriptLine}
use Rattle.ttp_world.proofs.ListFacts.{node-out, one-more}
use Rattle.run_looks.specs.declared.sources.Sources.{Sources}
use Rattle.ttp_base.specs.NodeSet.{below, has_node}
use Rattle.ttp_world.specs.Events.{is_send_fault}
use Rattle.ttp_world.specs.declared.script.Fault.TheVariants as fault
use Rattle.entry_causes.proofs.senders.add_each_silencing.Goals as goal
use Rattle.entry_causes.proofs.senders.add_each_silencing.Goals.{then-has+in_ok-add_sender_silencing, else-has}

pub loop-sender-preserved : goal.loop-sender-preserved
loop-sender-preserved c =
    let run = c.args.run.now in
    let k = c.loop-sender.sender in
    let h = has_node c.args.senders in
    let f = λ (p : ℕ). widest_line (is_send_fault fault.Silence p c.args.channel c.args.slot) run.script in
    let old = c.args.out.now.lines in
    elim c.if-has.branch [
      | then-has+in_ok-add_sender_silencing w ↦ record {
        lines =
            ap (λ (o : Sources). o.lines) w.out-is ∙ w.in_ok-add_sender_silencing.ensures.lines
            ∙ ap (λ (lines : List ScriptLine). lines ++ filter_map f (k ∷ [])) c.loop-sender.invariant.lines
            ∙ append_assoc old (filter_map f (filter h (below k))) (filter_map f (k ∷ []))
            ∙ ap (λ (lines : List ScriptLine). old ++ lines)
            (sym (filter_map-append f (filter h (below k)) (k ∷ []))
            ∙ ap (filter_map f) (sym (one-more h k (sym c.has.ensures ∙ w.if-has.true))));
        entries =
            ap (λ (o : Sources). o.entries) w.out-is ∙ w.in_ok-add_sender_silencing.ensures.entries
            ∙ append-nil c.loop-sender.out.entries ∙ c.loop-sender.invariant.entries;
      }
      | else-has w ↦ record {
        lines =
            ap (λ (o : Sources). o.lines) w.out-is ∙ c.loop-sender.invariant.lines
            ∙ ap (λ (nodes : List ℕ). old ++ filter_map f nodes)
            (sym (node-out h k (sym c.has.ensures ∙ w.if-has.false)));
        entries = ap (λ (o : Sources). o.entries) w.out-is ∙ c.loop-sender.invariant.entries;
      }
    ]
