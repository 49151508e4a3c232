use Rattle.std.proofs.Common.{◌≡◌, ◌++◌, take}
use Rattle.std.specs.Prelude.{map}
use Rattle.campaign.specs.CostText.{members_word}
use Rattle.fault_runs.proofs.Listing.{joined}
use Rattle.fault_runs.proofs.campaign_text.cost_words.put_memberships.Given as goal

-- the words so far
abbrev pub invariant-loop-place : goal.invariant-loop-place
invariant-loop-place l = l.text ≡ l.initial.text ++ joined (map (members_word l.list) (take l.place l.sets))
