use Rattle.wave_text.proofs.Words.{subst, arith}
use Rattle.wave_text.proofs.Noting.{AreNoted, noted-more}
use Rattle.wave_text.proofs.newest.note_slot.Goals as goal

pub loop-line-preserved : goal.loop-line-preserved
loop-line-preserved c =
    let known = c.loop-line.invariant in
    noted-more c.args.ports.now c.loop-line.messages c.note_message.new.messages
    c.args.slot.now.hosts c.next_line.new.self
    c.in-Some.line
    (subst (AreNoted c.args.ports.now c.loop-line.messages c.args.slot.now.hosts) c.in-Some.ensures.some known)
    c.requires.ports (omega (arith, known.size)) c.note_message.ensures
