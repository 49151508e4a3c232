use Rattle.std.proofs.Common.{◌∙◌, List, ap, sym, subst}
use Rattle.std.specs.Prelude.{All}
use Rattle.std.proofs.lemmas.List.Elements.{All-push}
use Rattle.ttp_world.specs.declared.script.Event.{Event}
use Rattle.campaign.specs.Lines.{summary_with}
use Rattle.fault_pairs.specs.Classes.{harm_of}
use Rattle.pair_runs.specs.declared.singles.Single.{Single}
use Rattle.pair_runs.specs.Tries.{IsSingle}
use Rattle.pair_runs.proofs.singles.add_singles.Goals as goal

pub loop-fault-preserved : goal.loop-fault-preserved
loop-fault-preserved c =
    let list = c.args.list.now in
    let script = c.args.script.now in
    let single : Single = record { fault = c.copy_of.result; harm = c.in_ok-harm.harm } in
    let is : IsSingle list script single =
    c.in_ok-harm.ensures.harm
    ∙ ap (λ (e : Event). harm_of (summary_with list script e).cost) (sym c.copy_of.ensures) in (
      subst (λ (all : List Single). All (IsSingle list script) all) (sym c.in_ok-push.ensures.items)
          (All-push (IsSingle list script) _ single c.loop-fault.invariant.0 is),
      c.in_ok-harm.ensures.run,
    )
