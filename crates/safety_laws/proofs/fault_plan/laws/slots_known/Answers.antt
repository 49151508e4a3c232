use Rattle.safety_laws.proofs.SlotKinds.{kind-told, good-kind, first-kind, others-good, quiet-while}
use Rattle.safety_laws.proofs.fault_plan.laws.slots_known.Goals as goal

pub returns-clause-kind : goal.returns-clause-kind
returns-clause-kind c = kind-told

pub returns-clause-good : goal.returns-clause-good
returns-clause-good c = good-kind

pub returns-clause-first : goal.returns-clause-first
returns-clause-first c = first-kind

pub returns-clause-others : goal.returns-clause-others
returns-clause-others c = others-good

pub returns-clause-quiet : goal.returns-clause-quiet
returns-clause-quiet c = quiet-while
