use Rattle.std.proofs.Common.{length, ap, sym, ◌∙◌}
use Rattle.entry_causes.proofs.FromBelow.{length-past_slots_in}
use Rattle.entry_causes.proofs.listening.listening_from.Goals as goal

pub returns-clause-value : goal.returns-clause-value
returns-clause-value c =
    let run = c.args.run.now in
    sym (ap length c.back_to.ensures.is ∙ length-past_slots_in run.list run.script c.back_to.result)
