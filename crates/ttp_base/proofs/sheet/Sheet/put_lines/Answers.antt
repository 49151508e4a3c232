use Rattle.std.proofs.Common.{Bor, ℕ, List}
use Rattle.ttp_base.proofs.Puts.{puts_item}
use Rattle.ttp_base.proofs.sheet.Sheet.put_lines.Goals as goal

pub loop-line-preserved : goal.loop-line-preserved
loop-line-preserved g c =
    puts_item (λ (l : Bor (List ℕ)). l.now) c.args.lines.now c.loop-line.line-index _ _ _ _ _ _ _ _
    c.loop-line.invariant c.loop-line-test.true c.put.ensures c.as_bytes.ensures.value
