-- What every campaign that was read keeps.
use Rattle.std.specs.Prelude.{◌≡◌, ℕ, ◌+◌, ◌^◌, ◌<◌, nat_le, nat_lt, Bool, true, ◌&&◌, List, [], ◌∷◌, length, map}
use Rattle.campaign.specs.declared.cost.Counts.{Counts}
use Rattle.whole_campaign.specs.Due.{no_runs}
use Rattle.whole_campaign.specs.Whole.{FaultTold, WholeCampaign}

-- Counts of pieces, added up.

abbrev pub counts_together : Counts → Counts → Counts
counts_together one other = record {
  runs = one.runs + other.runs;
  same = one.same + other.same;
  hurt = one.hurt + other.hurt;
  split = one.split + other.split;
  torn = one.torn + other.torn;
  dead = one.dead + other.dead;
}

abbrev pub counts_sum : List Counts → Counts
counts_sum [] = no_runs
counts_sum (one ∷ others) = counts_together one (counts_sum others)

-- each is a number of 64 bits
abbrev pub counts_fit : Counts → Bool
counts_fit counts =
    nat_lt counts.runs (2 ^ 64) && nat_lt counts.same (2 ^ 64) && nat_lt counts.hurt (2 ^ 64)
    && nat_lt counts.split (2 ^ 64) && nat_lt counts.torn (2 ^ 64) && nat_lt counts.dead (2 ^ 64)

-- no fault is of a slot before this one, or before that of the fault in front of it
abbrev pub in_order_from : ℕ → List FaultTold → Bool
in_order_from t [] = true
in_order_from t (fault ∷ faults) = nat_le t fault.shown.slot && in_order_from fault.shown.slot faults

-- its faults stand by their slots, and what is counted fits its words
pub record IsReadable (campaign : WholeCampaign) : Type 0 where
  pub order : in_order_from 0 campaign.faults ≡ true
  pub few : length campaign.faults < 2 ^ 63
  pub kept : counts_fit (counts_sum (map (λ piece. piece.kept) campaign.pieces)) ≡ true
  pub broken : counts_fit (counts_sum (map (λ piece. piece.broken) campaign.pieces)) ≡ true
