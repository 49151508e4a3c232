use Rattle.std.proofs.Common.{arith}
use Rattle.list_errors.proofs.Tables.{all_tables}
use Rattle.list_errors.proofs.file.looked_at.Goals as goal

pub returns-then-slots-le-MOST_SLOTS-clause-value : goal.returns-then-slots-le-MOST_SLOTS-clause-value
returns-then-slots-le-MOST_SLOTS-clause-value c =
    all_tables 24 c.args.slots.now (omega (arith, c.if-slots-le-MOST_SLOTS.true))
