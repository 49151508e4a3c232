-- What is told of some pairs.
use Rattle.std.proofs.Common.{◌≡◌, ℕ, List, ◌++◌, take, drop, ap, sym, ◌∙◌}
use Rattle.std.specs.Prelude.{map}
use Rattle.std.proofs.lemmas.List.{map-append, take-append-drop}
use Rattle.ttp_world.specs.declared.script.Event.{Event}
use Rattle.pair_runs.specs.declared.tried.FirstSetting.{FirstSetting}
use Rattle.pair_runs.specs.declared.tried.PairResult.{PairResult}
use Rattle.pair_runs.specs.Tries.{pair_tried}

-- that of two parts of them, one after the other, is that of all
pub halves_tried : (setting : FirstSetting) (apart : ℕ) (faults front back : List Event) (n : ℕ) (one other : List PairResult)
    → front ≡ take n faults → back ≡ drop n faults → one ≡ map (pair_tried setting apart) front
    → other ≡ map (pair_tried setting apart) back → one ++ other ≡ map (pair_tried setting apart) faults
halves_tried setting apart faults front back n one other is_front is_back first second =
    (λ i. first i ++ second i) ∙ sym (map-append (pair_tried setting apart) front back)
    ∙ ap (map (pair_tried setting apart)) ((λ i. is_front i ++ is_back i) ∙ take-append-drop n faults)
