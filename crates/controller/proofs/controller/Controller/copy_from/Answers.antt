use Rattle.controller.proofs.controller.Controller.copy_from.Goals as goal

pub invariant_of-self : goal.invariant_of-self
invariant_of-self c =
    let same = rw (← c.self.view_is, ← c.other.view_is) at c.requires in
    rw (c.copy-self-inside.ensures, ← same) c.other.invariant

pub returns : goal.returns
returns c =
    let same = rw (← c.self.view_is, ← c.other.view_is) at c.requires in
    rw (c.copy-self-inside.ensures, ← same) c.other.view_is
