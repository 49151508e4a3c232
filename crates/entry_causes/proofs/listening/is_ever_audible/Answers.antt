use Rattle.std.proofs.Common.{◌-◌, Bool, not, ◌||◌, filter, take, ap, sym, ◌∙◌, arith}
use Rattle.causes.specs.Listening.{hears_nothing, is_empty}
use Rattle.causes.specs.RunSlots.{RunSlot}
use Rattle.entry_causes.proofs.Listens.{empty-down, empty-none}
use Rattle.run_rows.specs.Rows.{past_slots}
use Rattle.entry_causes.proofs.listening.is_ever_audible.Goals as goal

pub returns-then-not-hears_nothing : goal.returns-then-not-hears_nothing
returns-then-not-hears_nothing c =
    let run = c.args.run.now in
    let h = λ (u : RunSlot). not (hears_nothing c.args.node u) in
    let rest = not (is_empty (filter h (take (c.loop-at.at - 1 - c.args.from) (past_slots run (c.loop-at.at - 1))))) in
    sym
    (c.loop-at.invariant.is ∙ empty-down h run.list run.script c.loop-at.at c.args.from (omega arith)
    ∙ ap (λ (b : Bool). not b || rest) (sym c.hears_nothing.ensures ∙ c.if-not-hears_nothing.true))

pub loop-at-preserved : goal.loop-at-preserved
loop-at-preserved c =
    let run = c.args.run.now in
    let h = λ (u : RunSlot). not (hears_nothing c.args.node u) in
    let rest = not (is_empty (filter h (take (c.loop-at.at - 1 - c.args.from) (past_slots run (c.loop-at.at - 1))))) in
    record {
      is =
          c.loop-at.invariant.is ∙ empty-down h run.list run.script c.loop-at.at c.args.from (omega arith)
          ∙ ap (λ (b : Bool). not b || rest) (sym c.hears_nothing.ensures ∙ c.if-not-hears_nothing.false);
      within = omega arith;
    }

pub returns : goal.returns
returns c =
    let run = c.args.run.now in
    let h = λ (u : RunSlot). not (hears_nothing c.args.node u) in
    sym (c.loop-at.invariant.is ∙ empty-none h run.list run.script c.loop-at.at c.args.from (omega arith))
