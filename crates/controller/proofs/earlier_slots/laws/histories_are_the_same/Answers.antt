use Rattle.controller.proofs.SameWorlds.{surroundings_of-same, node_past-same, step-same, world-same}
use Rattle.controller.proofs.earlier_slots.laws.histories_are_the_same.Goals as goal

pub returns-clause-surroundings : goal.returns-clause-surroundings
returns-clause-surroundings c one other slot history k agree few = surroundings_of-same agree history k few

pub returns-clause-pasts : goal.returns-clause-pasts
returns-clause-pasts c list one other slot history k agree few = node_past-same agree list history k few

pub returns-clause-steps : goal.returns-clause-steps
returns-clause-steps c list one other slot history chosen agree less = step-same agree list history less chosen

pub returns-clause-worlds : goal.returns-clause-worlds
returns-clause-worlds c list one other slot numbers agree few = world-same agree list numbers few
