use Rattle.safety_laws.proofs.Bounds.{near-clocks, near-deviations, sound-inside, tight-clocks, tight-deviations}
use Rattle.safety_laws.proofs.clocks.clocks_near.Goals as goal

pub returns-clause-clocks : goal.returns-clause-clocks
returns-clause-clocks c = λ list script start plan slot history is. near-clocks is

pub returns-clause-deviations : goal.returns-clause-deviations
returns-clause-deviations c = λ list script start plan slot history is. near-deviations is

pub returns-clause-window : goal.returns-clause-window
returns-clause-window c = λ list script start plan slot history is. sound-inside is

pub returns-clause-tight_clocks : goal.returns-clause-tight_clocks
returns-clause-tight_clocks c = λ list script start plan slot history is. tight-clocks is

pub returns-clause-tight_deviations : goal.returns-clause-tight_deviations
returns-clause-tight_deviations c = λ list script start plan slot history is. tight-deviations is
