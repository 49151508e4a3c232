use Rattle.trace_check.proofs.Words.{◌∙◌, ◌+◌, Some, None, get_or, [], sym, subst, arith, lines_of, messages_written}
use Rattle.trace_check.proofs.Words.{Outgoing}
use Rattle.trace_check.specs.Outgoing.{number_by_line}
use Rattle.trace_check.proofs.Taken.{HasLookedAt, line_at, looked-past, looked-taken, named-in, none_at_first}
use Rattle.trace_check.proofs.Taken.{number_so_far, so_far-behind, taken-bare}
use Rattle.trace_check.proofs.outgoing.Outgoing.choose.Goals as goal
use Rattle.trace_check.proofs.outgoing.Outgoing.choose.Goals.{then-is_some+in-Some, then-is_some+in_default}
use Rattle.trace_check.proofs.outgoing.Outgoing.choose.Goals.{else-is_some}

pub loop-node-preserved : goal.loop-node-preserved
loop-node-preserved c =
    let list = c.args.list.now in
    let script = c.args.script.now in
    let slot = c.args.slot in
    let text = c.args.text.now in
    let o = c.loop-node.self in
    let rest = c.loop-node.rest.now in
    let line = c.cut_line.result.0.now in
    let behind = c.cut_line.result.1.now in
    let node = c.loop-node.node in
    let at = line_at list script slot text rest line node c.loop-node.invariant.lines c.cut_line.ensures.first in
    elim c.if-is_some.branch [
      | then-is_some+in-Some w ↦
          subst (λ (new : Outgoing). HasLookedAt new list script slot text behind (node + 1)) (sym w.self-is)
          (looked-taken list script slot text o w.take.new.self rest behind node w.in-Some.number c.loop-node.invariant
          c.cut_line.ensures.others
          (named-in list script slot text node line (Some w.in-Some.number) at w.in-Some.ensures)
          (w.take.ensures list (number_so_far list script slot text node) c.loop-node.invariant.chooses
          (omega arith) (so_far-behind list script slot text node node (omega arith))))
      | then-is_some+in_default w ↦
          subst (λ (new : Outgoing). HasLookedAt new list script slot text behind (node + 1)) (sym w.self-is)
          (looked-past list script slot text o rest behind node c.loop-node.invariant c.cut_line.ensures.others
          (sym (named-in list script slot text node line None at w.in_default.ensures)))
      | else-is_some w ↦
          subst (λ (new : Outgoing). HasLookedAt new list script slot text behind (node + 1)) (sym w.self-is)
          (looked-past list script slot text o rest behind node c.loop-node.invariant c.cut_line.ensures.others
          (taken-bare list script slot node (number_by_line (get_or (lines_of text) node []))
          (none_at_first (λ p. p.now) c.written_in.result (messages_written script node slot)
          (sym c.is_some.ensures ∙ w.if-is_some.false) c.written_in.ensures)))
    ]
