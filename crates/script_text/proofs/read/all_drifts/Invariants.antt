use Rattle.script_text.proofs.Terms.{◌≡◌, pos, map, take, unwrap_or}
use Rattle.script_text.proofs.read.all_drifts.Given as goal

-- those of the nodes so far
abbrev pub invariant-loop-value : goal.invariant-loop-value
invariant-loop-value l = l.drift ≡ map (λ d. unwrap_or d (pos 0)) (take l.value-index l.said)
