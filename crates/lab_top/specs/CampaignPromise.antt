-- The promise of `campaign LIST SCRIPT FIRST LAST` in its own words.
use Rattle.std.specs.Prelude.{◌≡◌, ℕ, List, All}
use Rattle.ttp_base.specs.Outside.{WroteLines}
use Rattle.ttp_base.specs.Text.{Lines}
use Rattle.campaign.specs.Lines.{campaign_lines}
use Rattle.campaign_laws.specs.SafeLines.{IsSafeLine}
use Rattle.commands.specs.Plan.{Outside}
use Rattle.lab_top.specs.LinesPromise.{LinesPromise}

-- lines were written, and nothing else; each of them in which the test says yes tells that nobody was hurt and that
-- memberships were never split, and the one that counts such runs counts none in which that was otherwise
pub record WroteSafe (before now : Outside) : Type 0 where
  pub lines : Lines
  pub wrote : WroteLines before.output now.output lines
  pub safe : All IsSafeLine lines

-- a call that is asked for a campaign promises
pub record CampaignPromise (list script : List ℕ) (first last : ℕ) (before now : Outside) (status : ℕ) : Type 0 where
  -- What every call promises that writes lines of a list and a script, of those of the campaign.
  pub text : LinesPromise (λ medl right. campaign_lines medl right first last) list script before now status
  pub open text use *
  -- Of the text that is written with status 0 it says what a yes is worth.
  pub safe : status ≡ 0 → WroteSafe before now
