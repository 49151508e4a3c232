use Rattle.script_text.proofs.Reading.{IsReading-none, IsReading-more, script_of-refused, stands-end, faults-end}
use Rattle.script_text.proofs.Reading.{count-end, values-end}
use Rattle.script_text.proofs.read.take_lines.Goals as goal

pub returns-in-Err-clause-err : goal.returns-in-Err-clause-err
returns-in-Err-clause-err c = rw c.at_line.ensures (
    script_of-refused c.args.list.now c.args.text.now c.loop-cut.so_far c.loop-cut.number c.loop-cut.rest.now
    c.in-Some.cut.piece.now c.in-Some.cut.rest.now
    c.in-Err.refusal c.loop-cut.invariant c.in-Some.ensures.some c.in-Err.ensures.err)

pub returns-clause-values : goal.returns-clause-values
returns-clause-values c = values-end _ _ _ _ _ c.loop-cut.invariant

pub loop-cut-init : goal.loop-cut-init
loop-cut-init c = IsReading-none _ _ _ c.requires.valid c.requires.stands c.requires.nodes

pub loop-cut-preserved : goal.loop-cut-preserved
loop-cut-preserved c =
    IsReading-more _ _ _ _ _ _ _ _ c.loop-cut.invariant c.in-Some.ensures.some c.in-Some.ensures.shorter
    c.in_default-take_line.ensures.ok c.take_line.ensures.nodes

pub returns-clause-stands : goal.returns-clause-stands
returns-clause-stands c = stands-end _ _ _ _ _ c.loop-cut.invariant c.in_default.ensures.none

pub returns-clause-faults : goal.returns-clause-faults
returns-clause-faults c = faults-end _ _ _ _ _ c.loop-cut.invariant c.in_default.ensures.none

pub returns-clause-count : goal.returns-clause-count
returns-clause-count c = count-end _ _ _ _ _ c.requires.size c.loop-cut.invariant
