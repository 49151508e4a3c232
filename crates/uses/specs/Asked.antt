-- What `bench` promises a caller that lets go of the cluster, for the forms that are asked for here.
use Rattle.std.specs.Prelude.{◌≡◌, ℕ, List, Option, Some}
use Rattle.cluster_run.specs.Standing.{ClusterView}
use Rattle.commands.specs.Plan.{Outside}
use Rattle.commands.specs.Texts.{answer}
use Rattle.ttp_top.specs.Calls.Promise.{BenchPromise}
use Rattle.ttp_top.specs.Calls.Words.{run, keeps, verify, form_of}
use Rattle.ttp_top.specs.Scripts.Promise.{RunPromise}
use Rattle.ttp_top.specs.Tests.Promise.{KeepsPromise}
use Rattle.ttp_top.specs.Traces.Promise.{VerifyPromise}

-- the promise of every form and those of three, whatever cluster was kept
pub record IsAnswered (words : List (List ℕ)) (before now : Outside) (status : ℕ) : Type 0 where
  pub kept : Option ClusterView
  pub promise : BenchPromise (form_of words) before now (answer status kept)
  pub of_run : (list script : List ℕ) → form_of words ≡ Some (run list script)
      → RunPromise list script before now (answer status kept)
  pub of_keeps : (list script : List ℕ) → form_of words ≡ Some (keeps list script)
      → KeepsPromise list script before now (answer status kept)
  pub of_verify : (list script trace : List ℕ) → form_of words ≡ Some (verify list script trace)
      → VerifyPromise list script trace before now (answer status kept)
