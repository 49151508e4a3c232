-- How far down the elements of a chart stand.
use Rattle.chart_text.proofs.Words.{ℕ, ◌*◌, ◌≤◌}
use Rattle.std.proofs.lemmas.Nat.{mul-le}

pub bands_are_low : (high band most : ℕ) → high ≤ 806 → band ≤ most → high * band ≤ 806 * most
bands_are_low high band most low few = mul-le high band 806 most low few
