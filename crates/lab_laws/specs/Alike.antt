-- When two campaigns have one chart.
use Rattle.std.specs.Prelude.{ℕ, ◌≡◌, map}
use Rattle.whole_campaign.specs.Whole.{WholeCampaign}
use Rattle.whole_campaign.specs.Readable.{counts_sum}
use Rattle.chart_text.specs.Columns.{is_tried}

-- they have the same own run and the same faults, their pieces have the same slots, and their counts add up to the same
pub record AreAlike (one other : WholeCampaign) : Type 0 where
  pub nodes : one.nodes ≡ other.nodes
  pub slots : one.slots ≡ other.slots
  pub own : one.own ≡ other.own
  pub faults : one.faults ≡ other.faults
  pub tried : (t : ℕ) → is_tried one.pieces t ≡ is_tried other.pieces t
  pub kept : counts_sum (map (λ piece. piece.kept) one.pieces) ≡ counts_sum (map (λ piece. piece.kept) other.pieces)
  pub broken :
      counts_sum (map (λ piece. piece.broken) one.pieces) ≡ counts_sum (map (λ piece. piece.broken) other.pieces)
