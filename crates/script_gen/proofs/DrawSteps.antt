-- One draw more.
use Rattle.script_gen.proofs.Words.{◌≡◌, ℕ, ◌+◌, ◌*◌, ◌/◌, ◌%◌, ap, sym, ◌∙◌, add-one, drawn}
use Rattle.std.proofs.Common.{◌^◌}
use Rattle.std.proofs.Math.Nat.{mod-add-mod}
use Rattle.script_gen.specs.declared.draws.TheConstants.{MULTIPLIER, INCREMENT}
use Rattle.script_gen.specs.Draws.{next_state, state_after}

-- the product is brought below 2^64 before the sum is
pub state-next : (number count state next : ℕ) → state ≡ state_after number count
    → next ≡ ((state * MULTIPLIER) % 2 ^ 64 + INCREMENT) % 2 ^ 64
    → next ≡ state_after number (count + 1)
unfolding next_state
state-next number count state next before is =
    is ∙ mod-add-mod (state * MULTIPLIER) (2 ^ 64) INCREMENT
    ∙ ap (λ s. (s * MULTIPLIER + INCREMENT) % 2 ^ 64) before
    ∙ sym (ap (state_after number) (add-one count))

pub drawn-next : (number count next : ℕ) → next ≡ state_after number (count + 1) → next / 2 ^ 33 ≡ drawn number count
unfolding drawn
drawn-next number count next is = ap (λ s. s / 2 ^ 33) (is ∙ ap (state_after number) (add-one count))
