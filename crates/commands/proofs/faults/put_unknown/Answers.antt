use Rattle.std.proofs.Common.{append_assoc}
use Rattle.commands.proofs.faults.put_unknown.Goals as goal

pub returns-in-Some-clause-text : goal.returns-in-Some-clause-text
returns-in-Some-clause-text c =
    rw (c.in-Some.is, c.put_number.ensures, c.put_text-in-Some.ensures, c.from.ensures, append_assoc)
