use Rattle.hypothesis.proofs.Words.{◌≡◌, true, nat_eq, w64, FitsSigned, to_z, of_z, ap, sym, ◌∙◌, rules, eqb-true}
use Rattle.hypothesis.proofs.Words.{to_z-of_z}
use Rattle.hypothesis.proofs.Kept.{not_false}
use Rattle.hypothesis.proofs.incidents.moves_clock.Goals as goal

pub returns : goal.returns
returns c = λ none.
    let jump = c.args.incidents.now.jump in
    let fits : FitsSigned w64 jump = search rules in
    let nothing : nat_eq (of_z w64 jump) 0 ≡ true = not_false (nat_eq (of_z w64 jump) 0) none in
    sym (to_z-of_z w64 jump fits) ∙ ap (to_z w64) (eqb-true (of_z w64 jump) 0 nothing)
