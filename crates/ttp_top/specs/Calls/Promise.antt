-- The promise of a call, for every form.
use Rattle.std.specs.Prelude.{◌≡◌, ◌≢◌, ◌==◌, ◌&&◌, false, true, [], Option, None, is_some}
use Rattle.ttp_base.specs.Outside.{Wrote}
use Rattle.commands.specs.Plan.{Outside}
use Rattle.commands.specs.Promise.{Promise}
use Rattle.ttp_top.specs.Calls.Answer.{BenchAnswer, ttpbench}
use Rattle.ttp_top.specs.Calls.Forms.{plan_of}
use Rattle.ttp_top.specs.Calls.Words.{Form, is_run, takes_trace, runs_cluster}

-- what a call of this program promises, by its form, and by what the outside was before it and is now
pub record BenchPromise (form : Option Form) (before now : Outside) (answer : BenchAnswer) : Type 0 where
  -- What every call promises that follows a plan: what it asked for, how it ended and what it wrote.
  pub call : Promise ttpbench (plan_of form) before now answer
  pub open call use *
  -- With status 7 what is written may be some first lines of what was due for `run`, and for every other form it is
  -- nothing.
  pub empty : answer.status ≡ 7 → is_run form ≡ false → Wrote before.output now.output []
  -- Status 1 is an answer of `verify` and `modes` alone.
  pub differs : answer.status ≡ 1 → takes_trace form ≡ true
  -- Words of no form take no memory, and only they are answered by the usage line.
  pub usage : answer.status ≡ 2 → form ≡ None
  pub no_form : form ≡ None → answer.status ≢ 7
  -- A cluster is kept exactly after status 0 of `run` and of `sample`.
  pub kept : is_some answer.kept ≡ (runs_cluster form && (answer.status == 0))
