use Rattle.frame_laws.proofs.Unflipped.{word-match}
use Rattle.frame_laws.proofs.laws.unflipped.Goals as goal

pub returns : goal.returns
returns c list script new numbers k on valid_script legal node =
    λ is. word-match list script new numbers valid_script legal k node is on
