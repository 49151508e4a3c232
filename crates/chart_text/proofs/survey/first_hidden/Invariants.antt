use Rattle.chart_text.proofs.Words.{◌≡◌, ◌&&◌, length, first_told_slot, is_hidden, does_harm, marked_slots}
use Rattle.chart_text.proofs.survey.first_hidden.Given as goal

-- none of the faults so far is hidden
abbrev pub invariant-loop-fault : goal.invariant-loop-fault
invariant-loop-fault l =
    first_told_slot (λ fault. does_harm l.size fault && is_hidden (marked_slots l.marks) fault) l.left
    ≡ first_told_slot (λ fault. does_harm l.size fault && is_hidden (marked_slots l.marks) fault) l.fn.faults

abbrev pub decreases-loop-fault : goal.decreases-loop-fault
decreases-loop-fault l = length l.left
