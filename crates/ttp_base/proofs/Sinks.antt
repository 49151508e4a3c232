-- What a sink in memory is sure to take.
use Rattle.std.proofs.Common.{◌≡◌, ◌⊎◌, inl, inr, ℕ, ◌+◌, ◌-◌, ◌<◌, ◌≤◌, if◌then◌else◌, true, List, [], ◌∷◌, arith, sym}
use Rattle.std.proofs.lemmas.Bool.{true≢false}
use Rattle.ttp_base.specs.Outside.{comes_up, never_fails}

-- a piece that is not taken is no shorter than that
pub not_taken : (fail : List ℕ) (call room full piece : ℕ)
    → (comes_up fail call ≡ true) ⊎ (room < full + piece) → full ≤ room
    → (if never_fails fail then room - full + 1 else 0) ≤ piece
not_taken [] call room full piece (inl comes) within = absurd (true≢false (sym comes))
not_taken [] call room full piece (inr past) within = omega (arith, past, within)
not_taken (f ∷ fail) call room full piece why within = omega arith
