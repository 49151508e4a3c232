use Rattle.hypothesis.proofs.Words.{◌≡◌, true, false, cond, Some, None, ap, sym, ◌∙◌, rules, is_allowed_jump}
use Rattle.hypothesis.proofs.Words.{disturbed_slot}
use Rattle.hypothesis.proofs.outside.disturbed_slot.Goals as goal

pub returns-then-is_allowed_jump : goal.returns-then-is_allowed_jump
returns-then-is_allowed_jump c =
    let allowed : is_allowed_jump c.args.list.now c.args.script.now c.in-Jump.node c.in-Jump.slot ≡ true =
    search rules in
    sym (ap (disturbed_slot c.args.list.now c.args.script.now) c.in-Jump.is
    ∙ ap (λ b. cond b None (Some c.in-Jump.slot)) allowed)

pub returns-else-is_allowed_jump : goal.returns-else-is_allowed_jump
returns-else-is_allowed_jump c =
    let allowed : is_allowed_jump c.args.list.now c.args.script.now c.in-Jump.node c.in-Jump.slot ≡ false =
    search rules in
    sym (ap (disturbed_slot c.args.list.now c.args.script.now) c.in-Jump.is
    ∙ ap (λ b. cond b None (Some c.in-Jump.slot)) allowed)
