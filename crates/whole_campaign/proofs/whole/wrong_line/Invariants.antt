use Rattle.std.proofs.Common.{◌≡◌, ◌+◌, ◌≤◌, length}
use Rattle.ttp_base.specs.Text.{lines_of}
use Rattle.whole_campaign.specs.Own.{common_of}
use Rattle.whole_campaign.specs.Steps.{HasRoomBehind}
use Rattle.whole_campaign.specs.Whole.{wrong_line}
use Rattle.whole_campaign.proofs.LineSteps.{lines_further}
use Rattle.whole_campaign.proofs.whole.wrong_line.Given as goal

-- the wrong line of the text is that of its rest, so many lines later
abbrev pub invariant-loop-at : goal.invariant-loop-at
invariant-loop-at l = record {
  wrong :
      wrong_line (common_of l.frame) l.from.due (lines_of l.from.rest.now)
      ≡ lines_further l.passed (wrong_line (common_of l.frame) l.at.due (lines_of l.at.rest.now));
  room : HasRoomBehind (length l.at.rest.now) l.at.due;
  few : l.passed + length l.at.rest.now ≤ length l.from.rest.now;
}

abbrev pub decreases-loop-at : goal.decreases-loop-at
decreases-loop-at l = length l.at.rest.now
