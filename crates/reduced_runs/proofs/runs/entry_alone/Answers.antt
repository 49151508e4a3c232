use Rattle.std.proofs.Common.{◌≡◌, ℕ, List, IfOk, subst, ap, ◌∙◌}
use Rattle.ttp_world.specs.declared.script.Script.{Script}
use Rattle.causes.specs.Reduced.{entry_in_run, with_faults_at}
use Rattle.reduced_runs.proofs.runs.entry_alone.Goals as goal

pub returns : goal.returns
returns c =
    subst
    (λ (s : Script). IfOk c.entry_in_run.result
    (λ entry. entry ≡ entry_in_run c.args.list.now s c.args.slot c.args.node))
    (c.in_ok-fewer.ensures
    ∙ ap (λ (places : List ℕ). with_faults_at places c.args.script.now) (c.as_slice-2.ensures ∙ c.in_ok-places.ensures))
    c.entry_in_run.ensures
