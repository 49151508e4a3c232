use Rattle.chart_text.proofs.Words.{◌∙◌, ◌+◌, ◌*◌, refl, arith, drop, told_of}
use Rattle.chart_text.proofs.Order.{passed-few}
use Rattle.chart_text.proofs.Written.{list_first}
use Rattle.chart_text.proofs.listed.put_list.Goals as goal

pub put_listed-requires-clause-y : goal.put_listed-requires-clause-y
put_listed-requires-clause-y g c =
    omega (arith, c.requires.top, c.loop-number-test.true, c.len-number-end.ensures.few)

pub put_listed-requires-clause-room : goal.put_listed-requires-clause-room
put_listed-requires-clause-room g c =
    let old = drop c.loop-number.number c.args.worst.now in
    let rest = drop (c.loop-number.number + 1) c.args.worst.now in
    let few = passed-few old rest rest (told_of c.in-Some.fault) c.in-Some.ensures.some refl in
    omega (arith, few.2, c.loop-number.invariant.short, c.loop-number.invariant.room, c.requires.room)

pub loop-number-preserved : goal.loop-number-preserved
loop-number-preserved g c =
    let n = c.loop-number.number in
    let old = drop n c.args.worst.now in
    let rest = drop (n + 1) c.args.worst.now in
    let x = told_of c.in-Some.fault in
    let few = passed-few old rest rest x c.in-Some.ensures.some refl in
    record {
      puts = λ fails now p.
          c.loop-number.invariant.puts fails now
          (list_first c.args.size (c.args.top + 20 * n) (c.args.top + 20 * (n + 1)) old rest x _ _ _ _ _ _
          c.in-Some.ensures.some (omega arith) c.put_listed.ensures.puts p);
      short = omega (arith, few.1, c.loop-number.invariant.short);
      room = c.put_listed.ensures.room ∙ c.loop-number.invariant.room;
    }
