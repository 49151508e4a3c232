-- Zeros behind numbers.
use Rattle.script_text.proofs.Terms.{◌≡◌, ℕ, zero, suc, ◌+◌, ◌-◌, ◌≤◌, List, [], ◌∷◌, ◌++◌, length, drop, get_or, arith}
use Rattle.script_text.proofs.Terms.{refl, sym, ◌∙◌, common_steps, ext_get_or}
use Rattle.std.specs.Prelude.{replicate}
use Rattle.std.proofs.lemmas.List.{get_or-drop, length-drop, length-replicate}

pub get_or-zeros : (n i : ℕ) → get_or {A = ℕ} (replicate n 0) i 0 ≡ 0
get_or-zeros n i = grind (arith, common_steps)

pub zeros_behind : (bytes : List ℕ) (n size : ℕ) → length bytes ≡ n
    → ((k : ℕ) → size ≤ k → get_or bytes k 0 ≡ 0) → drop size bytes ≡ replicate (n - size) 0
zeros_behind bytes n size long zeros =
    ext_get_or 0 (drop size bytes) (replicate (n - size) 0)
    (omega (arith, length-drop size bytes, length-replicate {A = ℕ} (n - size) 0))
    (λ i within. get_or-drop size bytes i 0 ∙ zeros (size + i) (omega arith) ∙ sym (get_or-zeros (n - size) i))
