use Rattle.wave_text.proofs.Words.{◌≡◌, ◌+◌, ◌≤◌, length, Bool, Output, Puts, later_lines}
use Rattle.wave_text.specs.Moment.{ShowsMessages}
use Rattle.wave_text.specs.declared.place.TheConstants.{PLACES}
use Rattle.wave_text.proofs.wave.put_later_slots.Given as goal

-- with the lines from this slot on all are put
abbrev pub invariant-loop-slot : goal.invariant-loop-slot
invariant-loop-slot g l = record {
  goes_on : (fails : Bool) (end : Output)
      → Puts l.page.sheet.failed (g.K.Sink.output l.out) fails end
      (later_lines l.width l.nodes l.ports l.time l.before.slot l.slots)
      → Puts l.fn.page.sheet.failed (g.K.Sink.output l.fn.out) fails end
      (later_lines l.width l.nodes l.ports 1 l.fn.first.slot l.fn.slots);
  few : l.time + length l.slots ≤ 20000;
  shows : ShowsMessages l.ports l.before;
  size : length l.before.messages.items ≡ PLACES;
  free : length l.spare.items ≡ PLACES;
}

abbrev pub decreases-loop-slot : goal.decreases-loop-slot
decreases-loop-slot g l = length l.slots
