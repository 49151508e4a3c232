-- The parts of the text, one after another.
use Rattle.std.proofs.Common.{◌≡◌, ℕ, List, [], ◌∷◌, ◌++◌, ap, subst, ◌∙◌, append_assoc}
use Rattle.std.specs.Prelude.{flat_map, codes}
use Rattle.ttp_base.specs.Outside.{Output, WroteLines}
use Rattle.ttp_base.specs.Text.{Lines}
use Rattle.ttp_world.specs.declared.medl.Medl.{Medl}
use Rattle.ttp_world.specs.declared.script.Script.{Script}
use Rattle.fault_runs.specs.declared.put.CampaignFault.{CampaignFault}
use Rattle.fault_runs.specs.Ends.{WroteFewer, LeftBy, LeftFewerBy}
use Rattle.pair_runs.proofs.FromBelow.{fewer-none, fewer-after, leaves-more, more-is_fewer}
use Rattle.campaign.specs.Lines.{summary}
use Rattle.fault_pairs.specs.Classes.{harm_of}
use Rattle.fault_pairs.specs.PairText.{pair_tolds, first_fault_lines, pair_counts_line, sum_lines, pairs_lines}
use Rattle.fault_pairs.specs.Sums.{PairTold, pair_counts, told_kept, told_broken}
use Rattle.pair_runs.specs.declared.tried.PairsSetting.{PairsSetting}
use Rattle.pair_runs.specs.Counted.{distances_of}
use Rattle.pair_runs.specs.Written.{all_firsts, tolds_of_firsts, text_of_firsts}
use Rattle.pair_runs.specs.Written.{opening_lines, ending_lines, distance_lines}
use Rattle.pair_runs.proofs.Groups.{lines-distances}

abbrev pub all_tolds : PairsSetting → List PairTold
all_tolds common = tolds_of_firsts common (all_firsts common)

abbrev pub behind_front : PairsSetting → Lines
behind_front common = text_of_firsts common (all_firsts common) ++ ending_lines (distances_of common) (all_tolds common)

ends : (common : PairsSetting) (tolds : List PairTold)
    → ending_lines (distances_of common) tolds ≡ sum_lines common.script.now common.within tolds
ends common tolds =
    ap (λ ls. ls ++ pair_counts_line (codes "kept ") (pair_counts (told_kept tolds))
    ∷ pair_counts_line (codes "broken ") (pair_counts (told_broken tolds)) ∷ []) (lines-distances common tolds)

-- where the harm of the script's own run is known
pub all-lines : (common : PairsSetting) → common.own ≡ harm_of (summary common.list.now common.script.now).cost
    → opening_lines common ++ behind_front common
    ≡ pairs_lines common.list.now common.script.now common.first common.last common.within
all-lines common own =
    let list = common.list.now in
    let script = common.script.now in
    let firsts = all_firsts common in
    ap (λ ls. opening_lines common ++ text_of_firsts common firsts ++ ls) (ends common (all_tolds common))
    ∙ (λ i. opening_lines common ++ flat_map (first_fault_lines list script common.within (own i)) firsts
    ++ sum_lines script common.within (flat_map (pair_tolds list script common.within (own i)) firsts))

-- where it ends in the lines of first faults
pub left-in_firsts : (common : PairsSetting) (why : CampaignFault) (a b d : Output)
    → common.own ≡ harm_of (summary common.list.now common.script.now).cost → WroteLines a b (opening_lines common)
    → LeftBy why b d (text_of_firsts common (all_firsts common))
    → LeftFewerBy why a d (pairs_lines common.list.now common.script.now common.first common.last common.within)
left-in_firsts common why a b d own wrote left =
    let tolds = all_tolds common in
    let kept = pair_counts_line (codes "kept ") (pair_counts (told_kept tolds)) in
    let broken = pair_counts_line (codes "broken ") (pair_counts (told_broken tolds)) in
    let lines = text_of_firsts common (all_firsts common) in
    let below = distance_lines tolds (distances_of common) in
    subst (λ (ls : Lines). LeftFewerBy why a d ls) (all-lines common own)
    (fewer-after why a b d (opening_lines common) (behind_front common) wrote
    (subst (λ (ls : Lines). LeftFewerBy why b d ls) (append_assoc lines below (kept ∷ broken ∷ []))
    (more-is_fewer why b d (lines ++ below) kept (broken ∷ []) (leaves-more why b d lines below left))))

-- where nothing is written yet
pub none-written : (list : Medl) (script : Script) (first last within : ℕ) (a : Output)
    → WroteFewer a a (pairs_lines list script first last within)
none-written list script first last within a = fewer-none a _ _
