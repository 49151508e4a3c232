use Rattle.std.proofs.Common.{◌≡◌, Some, None, ap, sym, ◌∙◌, rules, option_map}
use Rattle.broken_rules.specs.Jumps.{disturbed_at, disturbed_by, jump_disturbs}
use Rattle.broken_rules.proofs.jumps.disturbed_at.Goals as goal

pub returns-in-Some : goal.returns-in-Some
returns-in-Some c =
    let is : jump_disturbs c.args.list.now c.args.script.now c.in-Jump.node c.in-Jump.slot ≡ Some c.in-Some.by =
    search rules in
    sym (ap (disturbed_at c.args.list.now c.args.script.now c.args.place) c.in-Jump.is
    ∙ ap (option_map (disturbed_by c.in-Jump.slot c.args.place)) is)

pub returns-in-None : goal.returns-in-None
returns-in-None c =
    let is : jump_disturbs c.args.list.now c.args.script.now c.in-Jump.node c.in-Jump.slot ≡ None = search rules in
    sym (ap (disturbed_at c.args.list.now c.args.script.now c.args.place) c.in-Jump.is
    ∙ ap (option_map (disturbed_by c.in-Jump.slot c.args.place)) is)
