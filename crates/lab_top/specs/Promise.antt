-- The promise of a call of `ttplab`, for every form.
use Rattle.std.specs.Prelude.{◌≡◌, ◌≢◌, false, true, [], Option, None}
use Rattle.ttp_base.specs.Outside.{Wrote}
use Rattle.commands.specs.Plan.{Outside}
use Rattle.commands.specs.Promise.{Promise}
use Rattle.lab_top.specs.Forms.{lab_plan_of}
use Rattle.lab_top.specs.Texts.{LabAnswer, ttplab}
use Rattle.lab_top.specs.Words.{LabForm, may_be_begun, tells_differences, reads_list}

-- a call by words of this form promises
pub record LabPromise (form : Option LabForm) (before now : Outside) (answer : LabAnswer) : Type 0 where
  -- What every call promises that follows a plan: what it asked for, how it ended and what it wrote.
  pub call : Promise ttplab (lab_plan_of form) before now answer
  pub open call use *
  -- With status 7 what is written may be some first lines of what was due for the forms that write lines of a list and
  -- a script as they go, and for every other form it is nothing.
  pub empty : answer.status ≡ 7 → may_be_begun form ≡ false → Wrote before.output now.output []
  -- Words of no form take no memory, and only they are answered by the usage line.
  pub usage : answer.status ≡ 2 → form ≡ None
  pub no_form : form ≡ None → answer.status ≢ 7
  -- Status 1 is an answer of `frames`, `check` and `why` alone, and status 3, of a list that is refused, one of the
  -- forms that read a list.
  pub differs : answer.status ≡ 1 → tells_differences form ≡ true
  pub lists : answer.status ≡ 3 → reads_list form ≡ true
