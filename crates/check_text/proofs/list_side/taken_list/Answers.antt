use Rattle.std.proofs.Common.{arith}
use Rattle.std.proofs.lemmas.Grind.{common_steps}
use Rattle.check_text.proofs.Sides.{found_value, large_value}
use Rattle.check_text.proofs.list_side.taken_list.Goals as goal

pub returns-then-text-gt-LIST_LIMIT-clause-list : goal.returns-then-text-gt-LIST_LIMIT-clause-list
returns-then-text-gt-LIST_LIMIT-clause-list c = large_value c.args.text.now (grind (arith, common_steps))

pub returns-else-text-gt-LIST_LIMIT-clause-list : goal.returns-else-text-gt-LIST_LIMIT-clause-list
returns-else-text-gt-LIST_LIMIT-clause-list c =
    found_value c.args.text.now c.args.wrongs.now c.args.found c.if-text-gt-LIST_LIMIT.false
    (c.requires.agrees c.if-text-gt-LIST_LIMIT.false) c.requires.list c.requires.none
