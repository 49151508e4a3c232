use Rattle.fault_runs.proofs.Words.{◌+◌, List, ℕ, length, ap, ◌∙◌, nat_le, if◌then◌else◌, list_any, Counts}
use Rattle.std.proofs.Common.{not}
use Rattle.fault_runs.proofs.Counts.{counts-next}
use Rattle.fault_runs.proofs.tally.with_run.Goals as goal

pub returns-clause-counts : goal.returns-clause-counts
returns-clause-counts c = λ list own costs are same.
    let dead = not c.has_pair.result in
    let pairs = λ (sets : List (List ℕ)). not (list_any (λ (members : List ℕ). nat_le 2 (length members)) sets) in
    let counted =
    counts-next list own costs c.args.cost.now c.args.is_same c.has_hurt.result c.is_some.result c.is_torn.result dead
    same c.has_hurt.ensures c.is_some.ensures c.is_torn.ensures
    (ap not c.has_pair.ensures ∙ ap pairs c.as_slice.ensures) in
    (λ i. record {
      runs = (are i).runs + 1;
      same = (c.more.ensures ∙ ap (λ (k : Counts). k.same + (if c.args.is_same then 1 else 0)) are) i;
      hurt = (c.more-2.ensures ∙ ap (λ (k : Counts). k.hurt + (if c.has_hurt.result then 1 else 0)) are) i;
      split = (c.more-3.ensures ∙ ap (λ (k : Counts). k.split + (if c.is_some.result then 1 else 0)) are) i;
      torn = (c.more-4.ensures ∙ ap (λ (k : Counts). k.torn + (if c.is_torn.result then 1 else 0)) are) i;
      dead = (c.more-5.ensures ∙ ap (λ (k : Counts). k.dead + (if dead then 1 else 0)) are) i;
    })
    ∙ counted
