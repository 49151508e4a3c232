use Rattle.std.proofs.Common.{refl}
use Rattle.script_text.specs.declared.keyword.Keyword.TheVariants as keyword
use Rattle.script_text.proofs.read.take_error.Goals as goal

pub returns-clause-err : goal.returns-clause-err
returns-clause-err c =
    c.take_event.ensures.err c.args.list.now c.args.words.now keyword.Error refl
    (rw c.unwrap_or-slots.ensures at c.error_in.ensures)
