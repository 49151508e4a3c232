use Rattle.fault_runs.proofs.Orders.{cost-ordered}
use Rattle.fault_runs.proofs.put.words_of.Goals as goal

pub form_words-requires-clause-hurt : goal.form_words-requires-clause-hurt
form_words-requires-clause-hurt c =
    let by = c.requires.cost in
    cost-ordered c.args.list.now by.0 c.args.cost.now c.requires.valid by.1
