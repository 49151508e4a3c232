use Rattle.std.proofs.Common.{◌∙◌, length-set}
use Rattle.std.specs.Prelude.{All}
use Rattle.std.proofs.lemmas.List.Elements.{All-set}
use Rattle.pair_runs.specs.declared.singles.Singles.{Singles}
use Rattle.pair_runs.specs.Tries.{IsSingle}
use Rattle.pair_runs.proofs.Begins.{at-stands}
use Rattle.pair_runs.proofs.ahead.OwnAhead.look_at.Goals as goal

pub of-requires-clause-faults : goal.of-requires-clause-faults
of-requires-clause-faults c =
    let list = c.args.common.now.list.now in
    let script = c.args.common.now.script.now in
    rw (c.as_slice.ensures, c.in_ok-faults.ensures)
    (at-stands list script c.args.slot c.requires.may.valid c.requires.slot)

pub returns-clause-ahead : goal.returns-clause-ahead
returns-clause-ahead c =
    let list = c.args.common.now.list.now in
    let script = c.args.common.now.script.now in
    record {
      own = c.step.ensures.own;
      rows = record {
        count = length-set c.args.self.now.rows.items c.place_of.result c.in_ok-singles.singles
            ∙ c.requires.ahead.rows.count;
        each = All-set (λ (row : Singles). All (IsSingle list script) row.all.items)
            c.args.self.now.rows.items c.place_of.result
            c.in_ok-singles.singles c.in_ok-singles.ensures.all c.requires.ahead.rows.each;
      };
    }
