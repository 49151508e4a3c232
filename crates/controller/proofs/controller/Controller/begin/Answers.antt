use Rattle.controller.proofs.Words.{w64, rules, ap, ◌∙◌, to_z-of_z, jump_taken, intent_by}
use Rattle.controller.proofs.Standing.{Begins-turn}
use Rattle.controller.proofs.controller.Controller.begin.Goals as goal

pub act-act-requires : goal.act-act-requires
act-act-requires c =
    let within = c.self.invariant in
    rw (rw (← c.self.view_is) at c.requires.list)
    (record { valid = within.valid; node = within.node; within = within.within })

pub returns-clause-begins : goal.returns-clause-begins
returns-clause-begins c =
    rw (← c.self.view_is)
    (Begins-turn c.self.inside.slots c.args.on c.args.armed c.args.jump c.act-act.result _ c.self.invariant
    (rw (rw (← c.self.view_is) at c.requires.list) at c.act-act.ensures)
    (to_z-of_z w64 c.jump_taken.result (search rules) ∙ c.jump_taken.ensures
    ∙ ap (jump_taken c.act-act.result) (to_z-of_z w64 c.args.jump (search rules))))

pub returns-clause-sends : goal.returns-clause-sends
returns-clause-sends c =
    rw (← c.self.view_is)
    (ap (intent_by c.self.inside.given.value c.self.inside.node)
    (rw (rw (← c.self.view_is) at c.requires.list) at c.act-act.ensures))
