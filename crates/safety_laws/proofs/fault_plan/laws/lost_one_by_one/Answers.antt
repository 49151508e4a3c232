use Rattle.safety_laws.proofs.FateTells.{fate-told, one-stays, none-stays, over}
use Rattle.safety_laws.proofs.Persists.{absent-always, sound-before}
use Rattle.safety_laws.proofs.fault_plan.laws.lost_one_by_one.Goals as goal

pub returns-clause-told : goal.returns-clause-told
returns-clause-told c = fate-told

pub returns-clause-one : goal.returns-clause-one
returns-clause-one c = one-stays

pub returns-clause-none : goal.returns-clause-none
returns-clause-none c = none-stays

pub returns-clause-over : goal.returns-clause-over
returns-clause-over c = over

pub returns-clause-absent : goal.returns-clause-absent
returns-clause-absent c = absent-always

pub returns-clause-sound_before : goal.returns-clause-sound_before
returns-clause-sound_before c = sound-before
