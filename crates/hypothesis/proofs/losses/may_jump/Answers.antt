use Rattle.hypothesis.proofs.Words.{sym, ap, ◌∙◌, list_any, is_jump_within}
use Rattle.hypothesis.proofs.Kept.{no_far_jump, no_jump-within}
use Rattle.hypothesis.proofs.losses.may_jump.Goals as goal

pub returns-in-Far : goal.returns-in-Far
returns-in-Far c = λ list t k valid inside none from before kinds.
    no_far_jump list c.args.script.now k t valid (inside c.in-Far.is) (kinds.jump none)

pub returns-in-Any : goal.returns-in-Any
returns-in-Any c = λ list t k valid inside none from before kinds.
    let script = c.args.script.now in
    no_jump-within c.args.slot c.args.incidents.now.until k t script.events
    (ap (list_any (is_jump_within c.args.slot c.args.incidents.now.until)) (sym c.as_slice.ensures)
    ∙ sym c.has_jump_within.ensures ∙ none) from before
