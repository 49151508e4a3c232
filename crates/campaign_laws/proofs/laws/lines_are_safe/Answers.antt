use Rattle.campaign_laws.proofs.SafeLines.{campaign_lines-safe}
use Rattle.campaign_laws.proofs.laws.lines_are_safe.Goals as goal

pub returns : goal.returns
returns c = λ first last.
    campaign_lines-safe c.args.list.now c.requires.valid c.args.script.now c.requires.script c.requires.room first last
