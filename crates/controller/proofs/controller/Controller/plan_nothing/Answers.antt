use Rattle.controller.proofs.Words.{[], w64, rules, sym, ◌∙◌, None, to_z-of_z, message_carried, turn_intent}
use Rattle.controller.proofs.Standing.{Plans-turn, nothing-sent, planned-within}
use Rattle.controller.proofs.controller.Controller.plan_nothing.Goals as goal

pub invariant_of-self : goal.invariant_of-self
invariant_of-self c =
    let quiet = c.self.invariant.intent ∙ (rw (← c.self.view_is) at c.requires.quiet) in
    planned-within 0 c.self.invariant c.in-Begun.is (to_z-of_z w64 c.in-Begun.jump (search rules))
    (λ i. message_carried (sym quiet i) 0) quiet

pub returns-in-Begun-clause-plans : goal.returns-in-Begun-clause-plans
returns-in-Begun-clause-plans c number =
    let n = c.self.inside in
    let quiet = rw (← c.self.view_is) at c.requires.quiet in
    rw (← c.self.view_is)
    (Plans-turn n.slots _ number [] None None c.self.invariant c.in-Begun.is
    (to_z-of_z w64 c.in-Begun.jump (search rules))
    (λ i. message_carried (sym (c.self.invariant.intent ∙ quiet) i) number)
    (nothing-sent n.given.value n.number n.node c.in-Begun.act
    ((λ i. turn_intent n.given.value n.node (sym c.in-Begun.is i)) ∙ quiet)))
