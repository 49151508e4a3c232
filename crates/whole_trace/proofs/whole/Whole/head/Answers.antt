use Rattle.ttp_base.specs.Text.{lines_of}
use Rattle.whole_trace.proofs.SlotCounts.{slot_count}
use Rattle.whole_trace.proofs.whole.Whole.head.Goals as goal

pub returns-clause-slots : goal.returns-clause-slots
returns-clause-slots c =
    rw (← c.self.view_is) (slot_count (lines_of c.self.inside.text.now) c.self.inside.outline c.self.invariant.0)
