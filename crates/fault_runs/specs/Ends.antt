-- How a text that is written line by line ends where it is not written whole.
use Rattle.std.specs.Prelude.{◌≡◌, ℕ, List, ◌∷◌, ◌++◌}
use Rattle.ttp_base.specs.Outside.{Output, WroteLines, CutShort}
use Rattle.ttp_base.specs.Text.{Lines}
use Rattle.fault_runs.specs.declared.put.CampaignFault.{CampaignFault}
use Rattle.fault_runs.specs.declared.put.CampaignFault.TheVariants as fault

-- some of its first lines were written, or none, or all
pub record WroteFront (before now : Output) (lines : Lines) : Type 0 where
  pub whole : Lines
  pub rest : Lines
  pub text : lines ≡ whole ++ rest
  pub wrote : WroteLines before now whole

-- some of its first lines were written, or none, and never all
pub record WroteFewer (before now : Output) (lines : Lines) : Type 0 where
  pub whole : Lines
  pub next : List ℕ
  pub rest : Lines
  pub text : lines ≡ whole ++ next ∷ rest
  pub wrote : WroteLines before now whole

-- by what was wrong: a fault of the sink cut it short, and where memory was refused its first lines stand
abbrev pub LeftBy : CampaignFault → Output → Output → Lines → Type 0
LeftBy fault.Failed before now lines = CutShort before now lines
LeftBy fault.Memory before now lines = WroteFront before now lines

abbrev pub LeftFewerBy : CampaignFault → Output → Output → Lines → Type 0
LeftFewerBy fault.Failed before now lines = CutShort before now lines
LeftFewerBy fault.Memory before now lines = WroteFewer before now lines
