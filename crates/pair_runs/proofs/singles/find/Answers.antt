use Rattle.std.proofs.Common.{◌∙◌, ap, sym, subst}
use Rattle.ttp_world.specs.declared.script.Event.{Event}
use Rattle.campaign.specs.Lines.{summary_with}
use Rattle.fault_pairs.specs.Classes.{harm_of}
use Rattle.pair_runs.specs.Tries.{IsSingle}
use Rattle.pair_runs.proofs.singles.find.Goals as goal

pub returns-then-is_same_fault : goal.returns-then-is_same_fault
returns-then-is_same_fault c = λ list script all.
    let single = c.single-item.result in
    let is : IsSingle list script single =
    subst (IsSingle list script) (sym c.single-item.is)
    (all c.loop-single.single-index single c.loop-single-test.true) in
    is ∙ ap (λ (e : Event). harm_of (summary_with list script e).cost) (c.is_same_fault.ensures c.if-is_same_fault.true)
