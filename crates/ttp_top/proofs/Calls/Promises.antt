-- The promise of a call, from the plan that it followed.
use Rattle.ttp_top.proofs.Terms.{◌≡◌, ◌≢◌, ◌⊎◌, ℕ, ◌<◌, ◌≤◌, false, [], Option, None, ap, sym, subst, ◌∙◌, inl, inr}
use Rattle.ttp_top.proofs.Terms.{arith, ◌==◌, ◌&&◌, is_some, cases_lt, Wrote, Outside, IsFinal, SaysLine, BenchAnswer}
use Rattle.ttp_top.proofs.Terms.{ttpbench, plan_of, BenchPromise, Form, is_run, runs_cluster}
use Rattle.commands.specs.Outcome.{Follows}
use Rattle.commands.specs.Promise.{IsUnfinished, Promise}
use Rattle.commands.specs.Texts.{Texts, WroteAmong}
use Rattle.ttp_top.proofs.FromBelow.{all_come, every_weaker, wrote_nothing, promise as call_promise}
use Rattle.ttp_top.specs.Calls.Texts.{Sets}
use Rattle.ttp_top.proofs.Calls.Forms.{IsOfForm, none_kept, forms}

module _ (form : Option Form) (before now : Outside) (answer : BenchAnswer)
    (call : Promise ttpbench (plan_of form) before now answer) where
  -- the ending that it came to
  ended_of : (few : answer.status ≤ 4) → IsOfForm form (call.ended few).0
  ended_of few =
      let final = call.ended few in
      all_come (IsOfForm form) SaysLine before.files.held (plan_of form) call.loads final.0 (forms form) final.1.comes

  empty_of : IsUnfinished ttpbench (plan_of form) before now call.loads → is_run form ≡ false
      → Wrote before.output now.output []
  empty_of (inl none) other = none
  empty_of (inr some) other =
      let is = all_come (IsOfForm form) SaysLine before.files.held (plan_of form) call.loads some.0 (forms form)
      some.1.comes in
      wrote_nothing ttpbench before.output now.output
      (subst (λ (texts : Texts Sets). WroteAmong ttpbench texts before.output now.output) (is.lets other) some.2)

  kept_of : (4 < answer.status) ⊎ (answer.status ≤ 4)
      → is_some answer.kept ≡ (runs_cluster form && (answer.status == 0))
  kept_of (inl many) = none_kept form answer.status answer.kept
      (call.dropped (omega (arith, many))) (omega (arith, many))
  kept_of (inr few) =
      let showed = (call.ended few).2 in
      (ended_of few).keeps showed.text.lines answer.kept showed.kept
      ∙ ap (λ (n : ℕ). runs_cluster form && (n == 0)) (sym showed.status)

pub promise : (form : Option Form) (before now : Outside) (answer : BenchAnswer)
    → Follows ttpbench (plan_of form) before now answer → (form ≡ None → answer.status ≢ 7)
    → BenchPromise form before now answer
promise form before now answer follows never =
    let call = call_promise ttpbench (plan_of form) before now answer
    (every_weaker (IsOfForm form) (IsFinal ttpbench) SaysLine
    (λ ending is. is.final) (plan_of form) (forms form)) follows in
    record {
      call = call;
      empty = λ seven other. empty_of form before now answer call (call.refused seven).1 other;
      differs = λ one.
          let few : answer.status ≤ 4 = omega (arith, one) in
          (ended_of form before now answer call few).differs (sym (call.ended few).2.status ∙ one);
      usage = λ two.
          let few : answer.status ≤ 4 = omega (arith, two) in
          (ended_of form before now answer call few).usage (sym (call.ended few).2.status ∙ two);
      no_form = never;
      kept = kept_of form before now answer call (cases_lt 4 answer.status);
    }
