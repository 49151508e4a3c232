use Rattle.std.proofs.Common.{[], ◌∷◌}
use Rattle.causes.specs.Causes.{cause_at}
use Rattle.causes.specs.RunSlots.{newest_spot}
use Rattle.causes.specs.Story.{added_root, leading, reached, spots_back, with_root}
use Rattle.std.proofs.Common.{drop}
use Rattle.why_story.proofs.Named.{kept-named}
use Rattle.why_story.proofs.laws.each_is_named.Goals as goal

pub returns : goal.returns
returns c = λ script run k.
    let asked = newest_spot k run in
    let origin = added_root script k (drop 1 run) (cause_at run asked).entries in
    let told = with_root origin (reached run (asked ∷ origin) (spots_back run)) in
    kept-named (leading told) (asked ∷ []) told
