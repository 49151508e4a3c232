use Rattle.std.proofs.Common.{sym, ◌∙◌, rules}
use Rattle.check_text.specs.Check.{files_with, named_by}
use Rattle.check_text.proofs.Told.{nothing_told}
use Rattle.check_text.proofs.rules.broken_lines.Goals as goal

pub returns-then-says_yes : goal.returns-then-says_yes
returns-then-says_yes c =
    c.new.ensures
    ∙ nothing_told (files_with (named_by c.args.file) (named_by c.args.beside) c.args.list.now c.args.script.now)
    c.args.broken.now c.requires.named (sym c.says_yes.ensures ∙ search rules)
