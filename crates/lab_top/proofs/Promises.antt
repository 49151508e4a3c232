-- The promise of a call, from the plan that it followed.
use Rattle.std.proofs.Common.{◌≡◌, ◌≢◌, ◌≤◌, [], false, Option, None, sym, subst, ◌∙◌, inl, inr, arith}
use Rattle.ttp_base.specs.Outside.{Wrote}
use Rattle.commands.specs.Outcome.{Follows}
use Rattle.commands.specs.Plan.{Outside}
use Rattle.commands.specs.Promise.{IsUnfinished, Promise}
use Rattle.commands.specs.Texts.{Texts, WroteAmong}
use Rattle.lab_top.proofs.FromBelow.{IsFinal, SaysLine, all_come, every_weaker, wrote_nothing, promise}
use Rattle.lab_top.specs.Forms.{lab_plan_of}
use Rattle.lab_top.specs.Promise.{LabPromise}
use Rattle.lab_top.specs.Texts.{LabSets, LabAnswer, ttplab}
use Rattle.lab_top.specs.Words.{LabForm, may_be_begun}
use Rattle.lab_top.proofs.Forms.{IsOfForm, lab_forms}

module _ (form : Option LabForm) (before now : Outside) (answer : LabAnswer)
    (call : Promise ttplab (lab_plan_of form) before now answer) where
  -- the ending that it came to
  ended_of : (few : answer.status ≤ 4) → IsOfForm form (call.ended few).0
  ended_of few =
      let final = call.ended few in
      all_come (IsOfForm form) SaysLine before.files.held (lab_plan_of form) call.loads final.0 (lab_forms form)
      final.1.comes

  empty_of : may_be_begun form ≡ false → IsUnfinished ttplab (lab_plan_of form) before now call.loads
      → Wrote before.output now.output []
  empty_of other (inl none) = none
  empty_of other (inr some) =
      let is = all_come (IsOfForm form) SaysLine before.files.held (lab_plan_of form) call.loads some.0 (lab_forms form)
      some.1.comes in
      wrote_nothing ttplab before.output now.output
      (subst (λ (texts : Texts LabSets). WroteAmong ttplab texts before.output now.output) (is.lets other) some.2)

pub lab_promise : (form : Option LabForm) (before now : Outside) (answer : LabAnswer)
    → Follows ttplab (lab_plan_of form) before now answer → (form ≡ None → answer.status ≢ 7)
    → LabPromise form before now answer
lab_promise form before now answer follows never =
    let call = promise ttplab (lab_plan_of form) before now answer
    (every_weaker (IsOfForm form) (IsFinal ttplab) SaysLine (λ ending is. is.final) (lab_plan_of form) (lab_forms form))
    follows in
    record {
      call = call;
      empty = λ seven other. empty_of form before now answer call other (call.refused seven).1;
      usage = λ two.
          let few : answer.status ≤ 4 = omega (arith, two) in
          (ended_of form before now answer call few).usage (sym (call.ended few).2.status ∙ two);
      no_form = never;
      differs = λ one.
          let few : answer.status ≤ 4 = omega (arith, one) in
          (ended_of form before now answer call few).differs (sym (call.ended few).2.status ∙ one);
      lists = λ three.
          let few : answer.status ≤ 4 = omega (arith, three) in
          (ended_of form before now answer call few).lists (sym (call.ended few).2.status ∙ three);
    }
