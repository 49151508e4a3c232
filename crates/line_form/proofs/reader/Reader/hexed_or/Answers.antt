use Rattle.line_form.proofs.Options.{small_pair_or_none}
use Rattle.line_form.proofs.reader.Reader.hexed_or.Goals as goal

pub returns-clause-small : goal.returns-clause-small
returns-clause-small c =
    small_pair_or_none c.args.many c.hex_or_in-read.result c.unwrap_or.result c.hex_or_in-read.ensures.small
    c.unwrap_or.ensures
