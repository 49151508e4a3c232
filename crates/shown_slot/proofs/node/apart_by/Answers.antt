use Rattle.std.proofs.Common.{SFits, w64, rules, arith}
use Rattle.std.proofs.lemmas.Bool.{lt-ltb, le-ltb}
use Rattle.std.proofs.lemmas.Int.{to_z-of_z}
use Rattle.shown_slot.proofs.node.apart_by.Goals as goal

pub returns-then-high-low : goal.returns-then-high-low
returns-then-high-low c =
    let fits : SFits w64 c.args.range.high = search rules in
    rw (lt-ltb c.args.high c.args.low c.if-high-low.true) (simp to_z-of_z at c.first_with.ensures)

pub returns-then-low-high : goal.returns-then-low-high
returns-then-low-high c =
    let fits : SFits w64 c.args.range.low = search rules in
    rw (
      le-ltb c.args.high c.args.low (omega (arith, c.if-high-low.false)),
      lt-ltb c.args.low c.args.high c.if-low-high.true,
    )
    (simp to_z-of_z at c.first_with-then-low-high.ensures)
