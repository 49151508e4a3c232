use Rattle.std.proofs.Common.{◌++◌, length, ap, sym, ◌∙◌, length-append, arith}
use Rattle.std.specs.Prelude.{option_map}
use Rattle.clock_margins.specs.Ranges.{ranges_of}
use Rattle.margin_laws.specs.Behind.{closed_ranges, open_range}
use Rattle.margin_text.proofs.FromBelow.{ranges-behind, closed-end, open-end}
use Rattle.margin_text.specs.Taken.{value_told, range_of, ranges_closed}
use Rattle.margin_text.proofs.swept.Swept.take.Goals as goal

pub returns-clause-closed : goal.returns-clause-closed
returns-clause-closed c = λ tolds swept.
    let ranges = ranges_of tolds in
    let same = ap (option_map range_of) c.take.ensures.value ∙ swept.last in
    let whole = ranges-behind tolds (value_told c.args.told) ∙ c.step-closed.ensures ranges same in
    ap closed_ranges whole
    ∙ closed-end (closed_ranges ranges ++ ranges_closed c.step-closed.result.closed)
    (range_of c.step-closed.result.last)

pub returns-clause-swept : goal.returns-clause-swept
returns-clause-swept c = λ tolds swept.
    let ranges = ranges_of tolds in
    let same = ap (option_map range_of) c.take.ensures.value ∙ swept.last in
    let whole = ranges-behind tolds (value_told c.args.told) ∙ c.step-closed.ensures ranges same in
    let done = closed_ranges ranges ++ ranges_closed c.step-closed.result.closed in
    let long = ap length (ap closed_ranges whole ∙ closed-end done (range_of c.step-closed.result.last))
    ∙ length-append (closed_ranges ranges) (ranges_closed c.step-closed.result.closed) in
    record {
      fold = c.with-self.ensures.fold tolds swept.fold;
      last = sym (ap open_range whole ∙ open-end done (range_of c.step-closed.result.last));
      closed = omega (arith, c.count_with-self.ensures, swept.closed, long);
    }
