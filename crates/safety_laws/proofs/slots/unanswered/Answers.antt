use Rattle.safety_laws.proofs.Unanswered.{stays-unanswered, not_held-judging}
use Rattle.safety_laws.proofs.slots.unanswered.Goals as goal

pub returns-clause-stays : goal.returns-clause-stays
returns-clause-stays c = stays-unanswered

pub returns-clause-not_held : goal.returns-clause-not_held
returns-clause-not_held c = not_held-judging
