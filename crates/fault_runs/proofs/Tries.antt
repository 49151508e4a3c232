-- What is told of the runs of some faults.
use Rattle.fault_runs.proofs.Words.{◌≡◌, ℕ, List, ◌++◌, take, drop, ap, sym, ◌∙◌, map-append, take-append-drop, map}
use Rattle.fault_runs.proofs.Words.{Medl, Event, Script, Tried, fault_lines, tried_of, tried_lines}
use Rattle.std.proofs.lemmas.Simd.{map-map}

-- that of two parts of them, one after the other, is that of all
pub halves_tried : (list : Medl) (script : Script) (faults front back : List Event) (n : ℕ) (one other : List Tried)
    → front ≡ take n faults → back ≡ drop n faults → one ≡ map (tried_of list script) front
    → other ≡ map (tried_of list script) back → one ++ other ≡ map (tried_of list script) faults
halves_tried list script faults front back n one other is_front is_back first second =
    (λ i. first i ++ second i) ∙ sym (map-append (tried_of list script) front back)
    ∙ ap (map (tried_of list script)) ((λ i. is_front i ++ is_back i) ∙ take-append-drop n faults)

-- its lines are the lines of these faults
pub lines-of : (list : Medl) (script : Script) (faults : List Event) (all : List Tried)
    → all ≡ map (tried_of list script) faults → tried_lines all ≡ fault_lines list script faults
lines-of list script faults all are =
    ap tried_lines are ∙ map-map (λ (tried : Tried). tried.line) (tried_of list script) faults
