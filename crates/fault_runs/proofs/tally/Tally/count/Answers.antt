use Rattle.fault_runs.proofs.Words.{◌≡◌, ◌∷◌, [], List, ap, sym, subst, ◌∙◌, map-append, map, Summary, summary}
use Rattle.fault_runs.proofs.Words.{summary_with, is_same_cost, Tried}
use Rattle.fault_runs.specs.Runs.{AreCountsOf}
use Rattle.fault_runs.proofs.tally.Tally.count.Goals as goal

pub returns-clause-told : goal.returns-clause-told
returns-clause-told c = λ list script faults fault tried are.
    let own = (summary list script).cost in
    let told = summary_with list script in
    let yes : (told fault).yes ≡ c.args.tried.now.yes = sym (ap (λ (t : Tried). t.yes) tried) in
    let cost : (told fault).cost ≡ c.args.tried.now.cost = sym (ap (λ (t : Tried). t.cost) tried) in
    let same : c.args.tried.now.is_same ≡ is_same_cost list own c.args.tried.now.cost =
    ap (λ (t : Tried). t.is_same) tried ∙ ap (is_same_cost list own) cost in
    subst (λ (runs : List Summary). AreCountsOf list own runs c.add.new.self)
    (sym (map-append told faults (fault ∷ [])))
    (c.add.ensures.counts list own (map told faults) (told fault) yes cost same
    (record { kept = are.kept; broken = are.broken }))
