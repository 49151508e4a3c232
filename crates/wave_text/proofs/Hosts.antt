-- The scope of a host: there is none where it has no ports.
use Rattle.wave_text.proofs.Words.{◌≡◌, Bool, true, false, cond, List, [], ◌∷◌, ◌++◌, codes, refl, ◌==◌, ℕ, filter}
use Rattle.wave_text.proofs.Words.{list_any, flat_map, Port, scope_line, upscope_line, port_declarations, host_scope}
use Rattle.wave_text.proofs.Words.{ports_at}
use Rattle.std.specs.Prelude.{◌||◌}

none_pass : (p : Port → Bool) (ports : List Port) → list_any p ports ≡ false → filter p ports ≡ []
none_pass p [] none = refl
none_pass p (port ∷ ports) none = go (p port) none (none_pass p ports)
  where
    go : (passes : Bool) → (passes || list_any p ports) ≡ false → (list_any p ports ≡ false → filter p ports ≡ [])
        → cond passes (port ∷ filter p ports) (filter p ports) ≡ []
    go true is rest = cc
    go false is rest = rest is

some_pass : (p : Port → Bool) (ports : List Port) → list_any p ports ≡ true
    → host_scope (filter p ports)
    ≡ scope_line (codes "host") ∷ flat_map port_declarations (filter p ports) ++ upscope_line ∷ []
some_pass p [] some = cc
some_pass p (port ∷ ports) some = go (p port) some (some_pass p ports)
  where
    go : (passes : Bool) → (passes || list_any p ports) ≡ true
        → (list_any p ports ≡ true → host_scope (filter p ports)
        ≡ scope_line (codes "host") ∷ flat_map port_declarations (filter p ports) ++ upscope_line ∷ [])
        → host_scope (cond passes (port ∷ filter p ports) (filter p ports))
        ≡ scope_line (codes "host") ∷ flat_map port_declarations (cond passes (port ∷ filter p ports) (filter p ports))
        ++ upscope_line ∷ []
    go true is rest = refl
    go false is rest = rest is

pub no_scope : (ports : List Port) (k : ℕ) → list_any (λ (port : Port). port.host == k) ports ≡ false
    → ports_at ports k ≡ []
no_scope ports k none = none_pass (λ (port : Port). port.host == k) ports none

pub host_scope_of : (ports : List Port) (k : ℕ) → list_any (λ (port : Port). port.host == k) ports ≡ true
    → host_scope (ports_at ports k)
    ≡ scope_line (codes "host") ∷ flat_map port_declarations (ports_at ports k) ++ upscope_line ∷ []
host_scope_of ports k some = some_pass (λ (port : Port). port.host == k) ports some
