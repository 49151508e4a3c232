use Rattle.std.proofs.Common.{◌≡◌, length}
use Rattle.ttp_base.specs.Text.{lines_of}
use Rattle.whole_campaign.specs.Own.{common_of}
use Rattle.whole_campaign.specs.Steps.{IsPlace}
use Rattle.whole_campaign.specs.Whole.{pieces_from}
use Rattle.whole_campaign.proofs.walks.piece_behind.Given as goal

abbrev pub invariant-loop-behind : goal.invariant-loop-behind
invariant-loop-behind l = record {
  pieces :
      pieces_from (common_of l.frame) l.from.due (lines_of l.from.rest.now)
      ≡ pieces_from (common_of l.frame) l.at.due (lines_of l.at.rest.now);
  place : IsPlace (common_of l.frame) l.at.due l.at.rest.now;
}

abbrev pub decreases-loop-behind : goal.decreases-loop-behind
decreases-loop-behind l = length l.at.rest.now
