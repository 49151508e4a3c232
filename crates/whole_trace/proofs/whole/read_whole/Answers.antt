use Rattle.std.proofs.Common.{rules, ℕ, sym, ap, ◌∙◌, arith}
use Rattle.std.specs.Prelude.{Result}
use Rattle.ttp_base.specs.Text.{lines_of}
use Rattle.whole_trace.specs.declared.due.Outline.{Outline}
use Rattle.whole_trace.specs.Whole.{judged}
use Rattle.whole_trace.proofs.Heads.{ending_head, head_kept}
use Rattle.whole_trace.proofs.Judging.{all-judged, behind_lines, behind-one}
use Rattle.whole_trace.proofs.NodeSteps.{judged-step}
use Rattle.whole_trace.proofs.whole.read_whole.Goals as goal

pub loop-alike-preserved : goal.loop-alike-preserved
loop-alike-preserved c =
    let known = c.loop-alike.invariant in
    let at = c.loop-alike.at in
    let behind = c.in-Some.behind in
    let step = c.in-Some.ensures.some in
    let others = judged behind.due (lines_of behind.rest.now) in
    record {
      judged =
          known.judged
          ∙ ap (λ (r : Result Outline ℕ). behind_lines c.loop-alike.passed r)
          (judged-step at.due at.rest.now step.0 behind.due behind.rest.now step.1)
          ∙ behind-one c.loop-alike.passed others;
      head = head_kept at.due behind.due step.0 known.head step.1.next;
      few = omega (arith, step.1.shorter, known.few);
    }

pub invariant_of-result : goal.invariant_of-result
invariant_of-result c =
    let at = c.loop-alike.at in
    let known = c.loop-alike.invariant in
    let end = sym c.ending.ensures ∙ c.in-Some-ending.is in (
      all-judged at.due at.rest.now c.loop-alike.passed c.in-Some-ending.outline _ known.judged (search rules) end,
      ending_head at.due c.in-Some-ending.outline known.head end,
    )
