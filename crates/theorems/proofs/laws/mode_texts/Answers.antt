use Rattle.theorems.proofs.ModeTexts.{mode-text}
use Rattle.theorems.proofs.laws.mode_texts.Goals as goal

pub returns : goal.returns
returns c list script start numbers slot valid script_valid kept legal since within =
    mode-text list script start valid script_valid kept numbers legal slot since within
