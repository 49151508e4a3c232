use Rattle.chart_text.proofs.Words.{◌≡◌, length, IsSurvey, AreTallies, ten_with, ten_worst}
use Rattle.std.specs.Prelude.{fold}
use Rattle.chart_text.proofs.survey.survey_of.Given as goal

-- the faults so far were noted
abbrev pub invariant-loop-fault : goal.invariant-loop-fault
invariant-loop-fault l =
    record {
      survey : IsSurvey l.size l.survey l.left l.fn.faults;
      tallies : AreTallies l.size l.tallies l.left l.fn.faults;
      worst : fold (ten_with l.size) l.worst l.left ≡ ten_worst l.size l.fn.faults;
    }

abbrev pub decreases-loop-fault : goal.decreases-loop-fault
decreases-loop-fault l = length l.left
