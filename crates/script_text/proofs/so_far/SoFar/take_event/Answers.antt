use Rattle.script_text.proofs.Terms.{refl}
use Rattle.script_text.proofs.Kept.{takes_event, refuses_own}
use Rattle.script_text.proofs.so_far.SoFar.take_event.Goals as goal

pub returns-in_ok-push-in-Ok-clause-ok : goal.returns-in_ok-push-in-Ok-clause-ok
returns-in_ok-push-in-Ok-clause-ok c = λ list words form of_event reads.
    takes_event list words c.args.self.now _ form c.in-Ok.event of_event (rw c.in-Ok.is at reads)
    (rw c.in_ok-push-in-Ok.ensures.ok refl)

pub returns-in-Err-clause-err : goal.returns-in-Err-clause-err
returns-in-Err-clause-err c = λ list words form of_event reads.
    refuses_own list words c.args.self.now form c.in-Err.fault (rw c.in-Err.is at reads)
