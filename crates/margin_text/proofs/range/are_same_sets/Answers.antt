use Rattle.std.proofs.Common.{length, sym}
use Rattle.margin_text.proofs.Sets.{differ, other-length}
use Rattle.margin_text.proofs.range.are_same_sets.Goals as goal

pub returns-then-not-have_same_count : goal.returns-then-not-have_same_count
returns-then-not-have_same_count c =
    let one = c.args.one.now in
    let other = c.args.other.now in
    sym (other-length one other (differ c.have_same_count.result (length one) (length other) c.have_same_count.ensures
    c.if-not-have_same_count.true))
