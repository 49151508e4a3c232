-- What a caller of `bench` concludes whose library is sure of its files: a right list and a right script give what is
-- due, or memory was refused, or the sink cut a text short that it was not sure to take. No count is asked for.
use Rattle.ttp_top.proofs.Terms.{◌≡◌, ◌⊎◌, ℕ, ◌<◌, ◌≤◌, true, List, length, refl, ap, sym, subst, ◌∙◌, inl, inr, arith}
use Rattle.ttp_top.proofs.Terms.{concat, Lines, Medl, Script, IsLegalRun, IsValid, IsValidScript, trace_lines, Numbers}
use Rattle.ttp_top.proofs.Terms.{is_trace, trace-short, Outside, trace_limit, AreRight, BenchAnswer, BenchPlan}
use Rattle.ttp_top.proofs.Terms.{ttpbench, CutOf, traces, IsTrace, WroteTraceOf, RunPromise, WroteSuch, CutSuch}
use Rattle.ttp_top.proofs.Terms.{TestPromise, OfTrace, HasJudged, CutVerdict, AreAllTold, TextPromise}
use Rattle.std.proofs.lemmas.Bool.{true≢false}
use Rattle.ttp_base.specs.Outside.{count_end}
use Rattle.ttp_top.proofs.FromBelow.{numbers-is_trace, HoldsSurely, none_rose, surely_told, unless_cut}
use Rattle.commands.specs.Promise.{Promise}

-- no trace is longer than the file of one may be
pub trace_within : (list : Medl) (script : Script) (lines : Lines) → IsTrace list script lines
    → length (concat lines) ≤ trace_limit
trace_within list script lines trace =
    subst (λ (l : Lines). length (concat l) ≤ trace_limit) (sym trace.text)
    (trace-short list script trace.numbers trace.valid trace.valid_script trace.legal.count trace.legal.legal)

-- the text of a run is a trace for `verify` and `modes`
pub own_text : (list : Medl) (script : Script) (numbers : Numbers) → IsValid list → IsValidScript list script
    → IsLegalRun list script numbers → is_trace list script (concat (trace_lines list script numbers)) ≡ true
own_text list script numbers valid valid_script legal =
    numbers-is_trace list script (concat (trace_lines list script numbers)) valid valid_script
    (record { numbers = numbers; legal = legal; whole = refl })

module _ {plan : BenchPlan} {before now : Outside} {answer : BenchAnswer}
    (call : Promise ttpbench plan before now answer)
    {list script bytes script_bytes : List ℕ} {medl : Medl} {right : Script} (l : HoldsSurely before.files list bytes)
    (s : HoldsSurely before.files script script_bytes) (are : AreRight bytes script_bytes medl right)
    (can : before.output.faults < count_end) where
  -- `run`: status 0 and a trace, 7, or 6, where one was cut short
  pub ran : RunPromise list script before now answer
      → ((answer.status ≡ 0) × WroteTraceOf medl right before.output now.output answer.kept)
      ⊎ ((answer.status ≡ 7) ⊎ ((answer.status ≡ 6) × CutOf (traces medl right) before.output now.output))
  ran own =
      let told = surely_told call l s are in
      elim (unless_cut call can (own.complete medl right told)) [
        | inl ends ↦ elim ends [ inl whole ↦ inl whole | inr seven ↦ inr (inl seven.0) ]
        | inr six ↦ inr (inr (six, own.cut medl right told six))
      ]

  -- `keeps` and `precision`: status 0 and lines of the test, 7, or 6, where some were cut short
  pub tested : {such : Medl → Script → Lines → Type 0} → TestPromise such list script before now answer
      → ((answer.status ≡ 0) × WroteSuch (such medl right) before.output now.output)
      ⊎ ((answer.status ≡ 7) ⊎ ((answer.status ≡ 6) × CutSuch (such medl right) before.output now.output))
  tested own =
      let told = surely_told call l s are in
      elim (unless_cut call can (own.complete medl right told)) [
        | inl ends ↦ elim ends [ inl whole ↦ inl whole | inr seven ↦ inr (inl seven.0) ]
        | inr six ↦ inr (inr (six, own.cut medl right told six))
      ]

  module _ {said : OfTrace} {trace text : List ℕ} (t : HoldsSurely before.files trace text)
      (own : TextPromise said list script trace before now answer) where
    pub all_told : AreAllTold list script trace before now medl right text
    all_told = record {
      files = surely_told call l s are;
      trace_file = t.held;
      trace_quiet = none_rose call trace t.sure t.counts;
    }

    -- `verify` and `modes`: the verdict, 7, or 6, where it was cut short
    pub judged : HasJudged said medl right text before.output now.output answer.status
        ⊎ ((answer.status ≡ 7) ⊎ ((answer.status ≡ 6) × CutVerdict said medl right text before.output now.output))
    judged =
        elim (unless_cut call can (own.complete medl right text all_told)) [
          | inl ends ↦ elim ends [ inl whole ↦ inl whole | inr seven ↦ inr (inl seven.0) ]
          | inr six ↦ inr (inr (six, own.cut medl right text all_told six))
        ]

    -- of a trace they answer 0 or 7, where the sink is sure to take what is said of it
    pub judged_trace : is_trace medl right text ≡ true → length (concat (said medl right text)) < before.output.takes
        → (answer.status ≡ 0) ⊎ (answer.status ≡ 7)
    judged_trace is short =
        elim judged [
          | inl whole ↦
              elim whole.verdict [ inl same ↦ inl same.0 | inr other ↦ absurd (true≢false (sym is ∙ other.1.0)) ]
          | inr others ↦
              elim others [
                | inl seven ↦ inr seven
                | inr six ↦
                    elim six.1.verdict [
                      | inl same ↦
                          absurd (omega (
                            arith,
                            short,
                            six.1.cut.short,
                            ap (λ (lines : Lines). length (concat lines)) same.1.1,
                          ))
                      | inr other ↦ absurd (true≢false (sym is ∙ other.1.0))
                    ]
              ]
        ]
