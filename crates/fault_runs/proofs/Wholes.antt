-- The parts of a campaign, one after another: the lines before those of faults, those of faults, and those of counts.
use Rattle.fault_runs.proofs.Words.{ℕ, List, [], ◌∷◌, ◌++◌, subst, map, codes, Output, WroteLines, Lines, Wrote-join}
use Rattle.fault_runs.proofs.Words.{Medl, Event, Script, summary, summary_with, campaign_lines, head_line, own_line}
use Rattle.fault_runs.proofs.Words.{counts_line, kept_counts, broken_counts, CampaignFault, WroteFewer, LeftBy}
use Rattle.fault_runs.proofs.Words.{LeftFewerBy, front_lines, fault_lines, end_lines, tried_before}
use Rattle.campaign.specs.Lines.{lines_with}
use Rattle.fault_runs.proofs.Endings.{fewer-none, fewer-after, fewer-more, more-is_fewer}
use Rattle.fault_runs.proofs.Ranges.{tried-whole}

-- what holds of the parts holds of the whole
of-parts : (list : Medl) (script : Script) (first last : ℕ) (P : Lines → Type 0)
    → P (lines_with list script first last (summary list script) (tried_before list script first last script.slots))
    → P (campaign_lines list script first last)
of-parts list script first last P holds =
    subst (λ (faults : List Event). P (lines_with list script first last (summary list script) faults))
    (tried-whole list script first last) holds

-- where nothing is written yet
pub none-written : (list : Medl) (script : Script) (first last : ℕ) (a : Output)
    → WroteFewer a a (campaign_lines list script first last)
none-written list script first last a =
    let tried = tried_before list script first last script.slots in
    of-parts list script first last (λ (lines : Lines). WroteFewer a a lines)
    (fewer-none a (head_line list script first last)
    (own_line list (summary list script) ∷ fault_lines list script tried
    ++ end_lines list (summary list script).cost (map (summary_with list script) tried)))

-- where it ends in the lines before those of faults
pub front-left : (list : Medl) (script : Script) (first last : ℕ) (why : CampaignFault) (a b : Output)
    → LeftFewerBy why a b (front_lines list script first last)
    → LeftFewerBy why a b (campaign_lines list script first last)
front-left list script first last why a b left =
    let tried = tried_before list script first last script.slots in
    of-parts list script first last (λ (lines : Lines). LeftFewerBy why a b lines)
    (fewer-more why a b (front_lines list script first last)
    (fault_lines list script tried
    ++ end_lines list (summary list script).cost (map (summary_with list script) tried)) left)

-- where it ends in those of faults
pub faults-left : (list : Medl) (script : Script) (first last : ℕ) (why : CampaignFault) (a b d : Output)
    → WroteLines a b (front_lines list script first last)
    → LeftBy why b d (fault_lines list script (tried_before list script first last script.slots))
    → LeftFewerBy why a d (campaign_lines list script first last)
faults-left list script first last why a b d wrote left =
    let tried = tried_before list script first last script.slots in
    let runs = map (summary_with list script) tried in
    let own = (summary list script).cost in
    let kept = counts_line (codes "kept ") (kept_counts list own runs) in
    let broken = counts_line (codes "broken ") (broken_counts list own runs) in
    of-parts list script first last (λ (lines : Lines). LeftFewerBy why a d lines)
    (fewer-after why a b d (front_lines list script first last)
    (fault_lines list script tried ++ kept ∷ broken ∷ []) wrote
    (more-is_fewer why b d (fault_lines list script tried) kept (broken ∷ []) left))

-- where it ends in those of counts
pub counts-left : (list : Medl) (script : Script) (first last : ℕ) (why : CampaignFault) (a b c d : Output)
    → WroteLines a b (front_lines list script first last)
    → WroteLines b c (fault_lines list script (tried_before list script first last script.slots))
    → LeftFewerBy why c d (end_lines list (summary list script).cost
    (map (summary_with list script) (tried_before list script first last script.slots)))
    → LeftFewerBy why a d (campaign_lines list script first last)
counts-left list script first last why a b c d front faults left =
    let tried = tried_before list script first last script.slots in
    let lines = fault_lines list script tried in
    let counts = end_lines list (summary list script).cost (map (summary_with list script) tried) in
    of-parts list script first last (λ (lines : Lines). LeftFewerBy why a d lines)
    (fewer-after why a b d (front_lines list script first last) (lines ++ counts) front
    (fewer-after why b c d lines counts faults left))

-- where all of it is written
pub all-written : (list : Medl) (script : Script) (first last : ℕ) (a b c d : Output)
    → WroteLines a b (front_lines list script first last)
    → WroteLines b c (fault_lines list script (tried_before list script first last script.slots))
    → WroteLines c d (end_lines list (summary list script).cost
    (map (summary_with list script) (tried_before list script first last script.slots)))
    → WroteLines a d (campaign_lines list script first last)
all-written list script first last a b c d front faults end =
    let tried = tried_before list script first last script.slots in
    let lines = fault_lines list script tried in
    let counts = end_lines list (summary list script).cost (map (summary_with list script) tried) in
    of-parts list script first last (λ (lines : Lines). WroteLines a d lines)
    (Wrote-join a b d (front_lines list script first last) (lines ++ counts) front
    (Wrote-join b c d lines counts faults end))
