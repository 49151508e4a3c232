use Rattle.std.proofs.Common.{◌≡◌, length}
use Rattle.ttp_base.specs.Text.{lines_of}
use Rattle.whole_campaign.specs.Own.{common_of}
use Rattle.whole_campaign.specs.Steps.{IsPlace}
use Rattle.whole_campaign.specs.Whole.{faults_told}
use Rattle.whole_campaign.proofs.walks.fault_behind.Given as goal

abbrev pub invariant-loop-fault : goal.invariant-loop-fault
invariant-loop-fault l = record {
  faults :
      faults_told (common_of l.frame) l.from.due (lines_of l.from.rest.now)
      ≡ faults_told (common_of l.frame) l.at.due (lines_of l.at.rest.now);
  place : IsPlace (common_of l.frame) l.at.due l.at.rest.now;
}

abbrev pub decreases-loop-fault : goal.decreases-loop-fault
decreases-loop-fault l = length l.at.rest.now
