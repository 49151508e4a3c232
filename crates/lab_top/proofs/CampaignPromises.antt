-- The promise of a campaign in its own words.
use Rattle.std.proofs.Common.{ℕ, List, refl}
use Rattle.ttp_world.specs.declared.medl.Medl.{Medl}
use Rattle.ttp_world.specs.declared.script.Script.{Script}
use Rattle.ttp_base.specs.Text.{Lines}
use Rattle.campaign.specs.Lines.{campaign_lines}
use Rattle.commands.specs.Plan.{Outside}
use Rattle.commands.specs.Promise.{Promise}
use Rattle.lab_top.proofs.FromBelow.{campaign_lines-safe}
use Rattle.lab_top.specs.CampaignPromise.{WroteSafe, CampaignPromise}
use Rattle.lab_top.specs.Forms.{lines_plan}
use Rattle.lab_top.specs.LinesPromise.{WroteAll}
use Rattle.lab_top.specs.Texts.{LabAnswer, ttplab}
use Rattle.lab_top.proofs.LinesPromises.{lines_promise}
use Rattle.lab_top.proofs.Room.{script_of-room}

abbrev lines_of : ℕ → ℕ → Medl → Script → Lines
lines_of first last medl right = campaign_lines medl right first last

safe : (list script : List ℕ) (first last : ℕ) (before now : Outside)
    → WroteAll (lines_of first last) list script before now → WroteSafe before now
safe list script first last before now campaign =
    let files = campaign.files in
    record {
      lines = campaign_lines campaign.medl campaign.right first last;
      wrote = campaign.wrote;
      safe =
          campaign_lines-safe campaign.medl files.valid campaign.right files.valid_script
          (script_of-room campaign.medl files.script_bytes campaign.right files.valid files.are.script_size
          files.are.script) first last;
    }

pub campaign_promise : (list script : List ℕ) (first last : ℕ) (before now : Outside) (answer : LabAnswer)
    → Promise ttplab (lines_plan (λ medl right. campaign_lines medl right first last) list script) before now answer
    → CampaignPromise list script first last before now answer.status
campaign_promise list script first last before now answer call =
    let text = lines_promise (lines_of first last) (λ medl right. record { next = _; rest = _; begins = refl }) list
    script before now answer call in
    record { text = text; safe = λ zero. safe list script first last before now (text.shown zero) }
