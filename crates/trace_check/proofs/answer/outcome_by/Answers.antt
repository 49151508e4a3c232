use Rattle.trace_check.proofs.Words.{◌≡◌, ℕ, ◌+◌, ◌<◌, ◌^◌, List, [], Bor, ap, sym, subst, ◌∙◌, refl, arith}
use Rattle.trace_check.proofs.Words.{IsFirstWrong, IsTraceAnd}
use Rattle.trace_check.specs.declared.answer.Outcome.TheVariants.{Differs}
use Rattle.trace_check.proofs.FewLines.{IsWrongBehind, amiss-counted, more-counted}
use Rattle.trace_check.proofs.Outcomes.{whole-trace, first_wrong-no_trace, one_first_wrong}
use Rattle.trace_check.proofs.OwnNumbers.{is_trace-numbers, numbers-is_trace}
use Rattle.ttp_world.proofs.ListFacts.{nothing_in as empty_rest}
use Rattle.trace_check.proofs.answer.outcome_by.Goals as goal
use Rattle.trace_check.proofs.answer.outcome_by.Goals.{in-Ok, in-Err}

pub returns-in-Ok-empty-clause-same : goal.returns-in-Ok-empty-clause-same
returns-in-Ok-empty-clause-same c =
    let none : c.in-Ok-empty.field-0.now ≡ [] =
    empty_rest c.in-Ok-empty.field-0.now (omega (arith, c.in-Ok-empty.len_below)) in (
      λ same.
          numbers-is_trace c.args.list.now c.args.script.now c.args.text.now c.requires.list c.requires.script
          (whole-trace c.args.list.now c.args.script.now c.args.text.now
          (subst (IsTraceAnd c.args.list.now c.args.script.now c.args.text.now) none c.in-Ok-empty.ensures.ok)),
      λ trace. refl,
    )

pub returns-in-Ok-empty-clause-differs : goal.returns-in-Ok-empty-clause-differs
returns-in-Ok-empty-clause-differs c line =
    let none : c.in-Ok-empty.field-0.now ≡ [] =
    empty_rest c.in-Ok-empty.field-0.now (omega (arith, c.in-Ok-empty.len_below)) in
    let trace = whole-trace c.args.list.now c.args.script.now c.args.text.now
    (subst (IsTraceAnd c.args.list.now c.args.script.now c.args.text.now) none c.in-Ok-empty.ensures.ok) in (
      λ same. absurd cc,
      λ first. absurd (first_wrong-no_trace c.args.list.now c.args.script.now c.args.text.now line first trace),
    )

wrong_behind : (c : goal.Joined-follow)
    → IsWrongBehind c.args.list.now c.args.script.now c.args.text.now c.match-follow.left.now
wrong_behind c =
    let list = c.args.list.now in
    let script = c.args.script.now in
    let text = c.args.text.now in
    elim c.match-follow.branch [
      | in-Ok w ↦
          subst (λ (left : Bor (List ℕ)). IsWrongBehind list script text left.now) (sym w.left-is)
          (more-counted list script text w.in-Ok.rest.now c.requires.list c.requires.script w.in-Ok.ensures.ok
          (omega (arith, w.in-Ok.len_at_least)))
      | in-Err w ↦
          subst (λ (left : Bor (List ℕ)). IsWrongBehind list script text left.now) (sym w.left-is)
          (amiss-counted list script text w.in-Err.wrong.text.now c.requires.list c.requires.script
          w.in-Err.ensures.wrong)
    ]

-- the same where the answer is given
answered : (c : goal.After-line_behind)
    → IsWrongBehind c.args.list.now c.args.script.now c.args.text.now c.match-follow.left.now
answered c =
    let list = c.args.list.now in
    let script = c.args.script.now in
    let text = c.args.text.now in
    elim c.match-follow.branch [
      | in-Ok w ↦
          subst (λ (left : Bor (List ℕ)). IsWrongBehind list script text left.now) (sym w.left-is)
          (more-counted list script text w.in-Ok.rest.now c.requires.list c.requires.script w.in-Ok.ensures.ok
          (omega (arith, w.in-Ok.len_at_least)))
      | in-Err w ↦
          subst (λ (left : Bor (List ℕ)). IsWrongBehind list script text left.now) (sym w.left-is)
          (amiss-counted list script text w.in-Err.wrong.text.now c.requires.list c.requires.script
          w.in-Err.ensures.wrong)
    ]

pub line_behind-requires : goal.line_behind-requires
line_behind-requires c =
    let wrong = wrong_behind c in subst (λ n. n + 1 < 2 ^ 32) (sym wrong.counted) wrong.few

first_wrong : (c : goal.After-line_behind)
    → IsFirstWrong c.args.list.now c.args.script.now c.args.text.now c.line_behind.result
first_wrong c =
    let wrong = answered c in
    subst (IsFirstWrong c.args.list.now c.args.script.now c.args.text.now)
    (sym (c.line_behind.ensures ∙ ap (λ n. n + 1) wrong.counted)) wrong.first

pub returns-clause-same : goal.returns-clause-same
returns-clause-same c = (
  λ same. absurd cc,
  λ trace.
      absurd (first_wrong-no_trace c.args.list.now c.args.script.now c.args.text.now c.line_behind.result
      (first_wrong c) (is_trace-numbers c.args.list.now c.args.script.now c.args.text.now trace)),
)

pub returns-clause-differs : goal.returns-clause-differs
returns-clause-differs c line = (
  λ same.
      let is : c.line_behind.result ≡ line = cc in
      subst (IsFirstWrong c.args.list.now c.args.script.now c.args.text.now) is (first_wrong c),
  λ first.
      ap Differs
      (one_first_wrong c.args.list.now c.args.script.now c.args.text.now c.line_behind.result line (first_wrong c)
      first),
)
