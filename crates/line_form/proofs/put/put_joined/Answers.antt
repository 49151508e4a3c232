use Rattle.std.proofs.Common.{rules}
use Rattle.ttp_base.proofs.Room.{room}
use Rattle.line_form.specs.Kinds.{number}
use Rattle.line_form.proofs.Lists.{one_more}
use Rattle.line_form.proofs.put.put_joined.Goals as goal

pub loop-place-preserved : goal.loop-place-preserved
loop-place-preserved g c = record {
  text = one_more (number 0) c.args.numbers.now c.loop-place.place 0 c.args.line.now c.loop-place.line
      c.put_comma.new.line c.put_number.new.self c.loop-place-test.true
      c.loop-place.invariant.text c.put_comma.ensures.text
      c.put_number.ensures;
  short = search (rules, room);
}
