use Rattle.std.proofs.Common.{◌++◌, ◌-◌, Bool, List, ap, append_assoc, sym, ◌∙◌, arith}
use Rattle.std.proofs.lemmas.List.{append-nil}
use Rattle.causes.specs.Clocks.{jumps_borne_since, jumps_clock}
use Rattle.causes.specs.LinesOf.{lines_where}
use Rattle.causes.specs.declared.cause.ScriptLine.{ScriptLine}
use Rattle.entry_causes.proofs.JumpsBorne.{jumps-end, jumps-none, jumps-on}
use Rattle.run_rows.specs.Rows.{past_slots}
use Rattle.run_rows.specs.declared.row.NodeRow.{NodeRow}
use Rattle.entry_causes.proofs.clocks.add_jumps_borne.Goals as goal

pub returns-then-begins_jumps : goal.returns-then-begins_jumps
returns-then-begins_jumps c =
    let run = c.args.run.now in
    let at = c.loop-at.at in
    let was = ap (λ (r : NodeRow). r.begun.has_averaged) c.row.ensures in
    let end =
    jumps-end run.list run.script at c.loop-at.who c.clock_taken-who.result c.loop-at.averaged c.begins_jumps.result
    c.row.result.now.begun.has_averaged (omega arith) c.clock_taken-who.ensures.value was c.begins_jumps.ensures
    c.if-begins_jumps.true in
    record {
      lines =
          c.in_ok-add_lines.ensures.lines
          ∙ ap (λ (lines : List ScriptLine). c.loop-at.out.lines ++ lines) (sym (append-nil _) ∙ sym end)
          ∙ c.loop-at.invariant.lines;
      entries =
          c.in_ok-add_lines.ensures.entries ∙ append-nil c.loop-at.out.entries ∙ c.loop-at.invariant.entries
          ∙ sym (append-nil c.args.out.now.entries);
    }

pub loop-at-preserved : goal.loop-at-preserved
loop-at-preserved c =
    let run = c.args.run.now in
    let at = c.loop-at.at in
    let was = ap (λ (r : NodeRow). r.begun.has_averaged) c.row.ensures in
    let rest = λ (b : Bool). jumps_borne_since c.clock_taken-who.result b (past_slots run (at - 1)) in
    let on =
    jumps-on run.list run.script at c.loop-at.who c.clock_taken-who.result c.loop-at.averaged c.begins_jumps.result
    c.row.result.now.begun.has_averaged (omega arith) c.clock_taken-who.ensures.value was c.begins_jumps.ensures
    c.if-begins_jumps.false in
    record {
      lines =
          (λ i. c.in_ok-add_lines.ensures.lines i ++ rest (c.either-averaged.ensures i))
          ∙ append_assoc c.loop-at.out.lines (lines_where (jumps_clock c.clock_taken-who.result (at - 1)) run.script) _
          ∙ ap (λ (lines : List ScriptLine). c.loop-at.out.lines ++ lines) (sym on)
          ∙ c.loop-at.invariant.lines;
      entries = c.in_ok-add_lines.ensures.entries ∙ append-nil c.loop-at.out.entries ∙ c.loop-at.invariant.entries;
      node = c.clock_taken-who.ensures.node;
      within = omega arith;
    }

pub returns : goal.returns
returns c =
    let run = c.args.run.now in
    record {
      lines =
          sym (append-nil c.loop-at.out.lines)
          ∙ ap (λ (lines : List ScriptLine). c.loop-at.out.lines ++ lines)
          (sym (jumps-none run.list run.script c.loop-at.at c.loop-at.who c.loop-at.averaged (omega arith)))
          ∙ c.loop-at.invariant.lines;
      entries = c.loop-at.invariant.entries ∙ sym (append-nil c.args.out.now.entries);
    }
