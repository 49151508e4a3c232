use Rattle.wave_text.proofs.Words.{subst, arith}
use Rattle.wave_text.proofs.Noting.{AreTaken, taken-more}
use Rattle.wave_text.proofs.ports.note_sizes.Goals as goal

pub loop-line-preserved : goal.loop-line-preserved
loop-line-preserved c =
    let known = c.loop-line.invariant in
    taken-more c.args.sizes.now c.loop-line.sizes c.note_size.new.sizes c.args.lines c.next_line.new.self c.in-Some.line
    (subst (AreTaken c.args.sizes.now c.loop-line.sizes c.args.lines) c.in-Some.ensures.some known)
    (omega (arith, known.size)) c.note_size.ensures
