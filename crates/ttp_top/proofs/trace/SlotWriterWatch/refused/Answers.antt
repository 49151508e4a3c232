use Rattle.ttp_top.proofs.Scripts.Slots.{slot_refused}
use Rattle.ttp_top.proofs.trace.SlotWriterWatch.refused.Goals as goal

pub returns : goal.returns
returns g c = λ first v run w.
    slot_refused v first (g.K.Sink.output c.args._out.now) run.valid run.valid_script run.few w
