-- How far down the cells of a picture stand.
use Rattle.picture_text.proofs.Words.{ℕ, ◌*◌, ◌<◌, ◌≤◌, ◌^◌, arith}
use Rattle.std.proofs.lemmas.Nat.{mul-le}

pub bands_are_low : (high band : ℕ) → high ≤ 584 → band < 2 ^ 32 → high * band ≤ 584 * 2 ^ 32
bands_are_low high band low few = mul-le high band 584 (2 ^ 32) low (omega (arith, few))
