use Rattle.hypothesis.proofs.Words.{◌≡◌, refl, ℤ, pos, Bool, true, false, not, nat_eq, w64, FitsSigned, to_z, of_z, ap}
use Rattle.hypothesis.proofs.Words.{sym, ◌∙◌, rules, to_z-of_z, ne_eqb, has_jump, jump_of}
use Rattle.ttp_world.proofs.Jumps.{no_jump-sum}
use Rattle.hypothesis.proofs.FarJumps.{far_jump-sum}
use Rattle.hypothesis.proofs.losses.has_far_jump.Goals as goal

tells : (jump : ℤ) (has : Bool) → to_z w64 (of_z w64 jump) ≡ jump → (has ≡ false → jump ≡ pos 0)
    → (has ≡ true → jump ≡ pos 0 → ⊥) → not (nat_eq (of_z w64 jump) 0) ≡ has
tells jump true kept none some = ap not (ne_eqb (of_z w64 jump) 0 (λ zero. some refl (sym kept ∙ ap (to_z w64) zero)))
tells jump false kept none some = ap (λ z. not (nat_eq (of_z w64 z) 0)) (none refl)

pub returns : goal.returns
returns c = λ list script k slot valid inside told.
    let fits : FitsSigned w64 c.args.incidents.now.jump = search rules in
    let is : c.args.incidents.now.jump ≡ jump_of script k slot = ap (λ incidents. incidents.jump) told in
    tells c.args.incidents.now.jump (has_jump script k slot) (to_z-of_z w64 c.args.incidents.now.jump fits)
    (λ none. is ∙ no_jump-sum script k slot none)
    (λ some nothing. far_jump-sum list script k slot valid.window.0 inside some (sym is ∙ nothing))
