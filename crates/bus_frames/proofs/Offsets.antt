-- The clocks of nodes, one after another.
use Rattle.std.proofs.Common.{◌≡◌, ℕ, ◌+◌, ◌<◌, ◌≤◌, ◌^◌, List, [], length, get_or, set, ap, sym, subst, ◌∙◌}
use Rattle.std.proofs.Common.{inl, inr, to_z, of_z, w64, arith}
use Rattle.std.specs.Prelude.{ℤ, pos, unsigned_abs}
use Rattle.std.proofs.lemmas.Bool.{cases_eq}
use Rattle.std.proofs.lemmas.Int.{fits_signed_from_abs, to_z-of_z}
use Rattle.std.proofs.lemmas.List.{length-set, get_or-set_same, get_or-set_other}
use Rattle.ttp_world.specs.declared.medl.Medl.{Medl}
use Rattle.ttp_world.specs.declared.node.NodeState.{NodeState}
use Rattle.ttp_world.specs.declared.script.Script.{Script}
use Rattle.ttp_world.specs.Diary.{History}
use Rattle.ttp_world.specs.World.{node_past}
use Rattle.controller.specs.PlantStands.{PlantStandsFor, ShowsNode}
use Rattle.controller.specs.PlantView.{PlantView}

-- the clocks of the nodes below one are those that a plant shows
pub record HaveNoted (offsets : List ℤ) (plant : PlantView) (list : Medl) (i : ℕ) : Type 0 where
  pub count : length offsets ≡ length list.slots
  pub shown : (script : Script) (history : History) → PlantStandsFor plant script history → (k : ℕ) → k < i
      → get_or offsets k (pos 0) ≡ (node_past plant.list script history k).offset
  pub near : (k : ℕ) → k < i → unsigned_abs (get_or offsets k (pos 0)) ≤ 2 ^ 60

pub noted-next : (offsets : List ℤ) (plant : PlantView) (list : Medl) (i j : ℕ) (state : NodeState) (z : ℤ)
    → HaveNoted offsets plant list i → i < length list.slots → j ≡ i → ShowsNode plant i state → z ≡ state.offset
    → unsigned_abs z ≤ 2 ^ 60
    → HaveNoted (set offsets j z) plant list (i + 1)
noted-next offsets plant list i j state z noted inside same shows z_is near =
    let count = noted.count in
    let at : get_or (set offsets j z) i (pos 0) ≡ z =
    ap (λ n. get_or (set offsets n z) i (pos 0)) same
    ∙ get_or-set_same offsets i z (pos 0) (omega (arith, inside, count)) in
    record {
      count = length-set offsets j z ∙ noted.count;
      shown = λ script history stands k less. elim (cases_eq k i) [
        | inl here ↦
            subst (λ n. get_or (set offsets j z) n (pos 0) ≡ (node_past plant.list script history n).offset)
            (sym here) (at ∙ z_is ∙ ap (λ (s : NodeState). s.offset) (shows script history stands))
        | inr other ↦
            ap (λ n. get_or (set offsets n z) k (pos 0)) same
            ∙ get_or-set_other offsets i k z (pos 0) other
            ∙ noted.shown script history stands k (omega (arith, less, other))
      ];
      near = λ k less. elim (cases_eq k i) [
        | inl here ↦
            subst (λ n. unsigned_abs (get_or (set offsets j z) n (pos 0)) ≤ 2 ^ 60) (sym here)
            (subst (λ (z : ℤ). unsigned_abs z ≤ 2 ^ 60) (sym at) near)
        | inr other ↦
            subst (λ (z : ℤ). unsigned_abs z ≤ 2 ^ 60)
            (sym (ap (λ n. get_or (set offsets n z) k (pos 0)) same
            ∙ get_or-set_other offsets i k z (pos 0) other))
            (noted.near k (omega (arith, less, other)))
      ];
    }

-- a number of microticks in 64 bits is itself
pub signed-same : (z : ℤ) → unsigned_abs z ≤ 2 ^ 61 → to_z w64 (of_z w64 z) ≡ z
signed-same z near =
    let few : unsigned_abs z < 2 ^ 63 = omega (arith, near) in
    to_z-of_z w64 z (fits_signed_from_abs w64 z few)
