use Rattle.controller.proofs.Words.{w64, rules, refl, subst, to_z-of_z}
use Rattle.controller.proofs.Standing.{IsFrameOf, Plans-turn, planned-within}
use Rattle.controller.proofs.controller.Controller.plan.Goals as goal

pub invariant_of-self : goal.invariant_of-self
invariant_of-self c =
    planned-within c.args.message c.self.invariant c.in-Begun.is (to_z-of_z w64 c.in-Begun.jump (search rules))
    c.message_of-message.ensures refl

pub returns-in-Begun-clause-plans : goal.returns-in-Begun-clause-plans
returns-in-Begun-clause-plans c =
    let n = c.self.inside in
    rw (← c.self.view_is)
    (Plans-turn n.slots _ c.args.message c.args.payload.now c.message_of-message.result c.frame_of.result
    c.self.invariant c.in-Begun.is (to_z-of_z w64 c.in-Begun.jump (search rules)) c.message_of-message.ensures
    (subst (λ l. IsFrameOf l n.number n.node c.in-Begun.act c.args.payload.now c.frame_of.result)
    (rw (← c.self.view_is) at c.requires.list) c.frame_of.ensures))
