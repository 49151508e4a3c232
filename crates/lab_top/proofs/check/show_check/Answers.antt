use Rattle.std.specs.Prelude.{option_map}
use Rattle.check_text.specs.Check.{named_by}
use Rattle.lab_top.proofs.CheckPromises.{check_shown}
use Rattle.lab_top.proofs.check.show_check.Goals as goal

pub returns-in-Ok : goal.returns-in-Ok
returns-in-Ok g c =
    check_shown (named_by c.args.list) (option_map named_by c.args.script) _ _ c.in-Ok.status c.in-Ok.ensures.status
    c.in-Ok.ensures.wrote
