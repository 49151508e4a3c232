use Rattle.toml_parser.specs.Reading.{key_view}
use Rattle.toml_walk.proofs.Steps.{pair_opens, put_at_within}
use Rattle.toml_walk.proofs.walk.define.Goals as goal

pub returns-in-Pair : goal.returns-in-Pair
returns-in-Pair c sections is =
    let key = key_view c.args.statement.now.key in
    rw c.in-Pair.is
    (pair_opens c.put.result _ sections key c.args.s.now is.table
    (put_at_within sections.table key sections.noted c.args.s.now is.within)
    (rw is.table at (c.put.ensures sections.noted is.noted (rw is.table is.within))))

pub returns-in-Header : goal.returns-in-Header
returns-in-Header c sections is = rw c.in-Header.is (c.open.ensures sections is)

pub returns-in-Element : goal.returns-in-Element
returns-in-Element c sections is = rw c.in-Element.is (c.open-in-Element.ensures sections is)
