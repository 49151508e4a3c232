-- The totals of a run stay small.
use Rattle.ttp_top.proofs.Terms.{◌≡◌, ℕ, ◌*◌, ◌≤◌, [], ◌∷◌, length, arith, length-map, length-range_with_len, below}
use Rattle.ttp_top.proofs.Terms.{Medl, Script, History, state_of, write_in, read_in, node_past, Totals, states_after}
use Rattle.ttp_top.proofs.Terms.{shows_sent, shows_left, totals_of, filter_map-few}
use Rattle.std.proofs.lemmas.List.Sums.{count_by-le-length}

-- of so many slots: a line for each of 24 nodes at most, and for each of 131,072 events at most
pub record AreSmall (totals : Totals) (slots : ℕ) : Type 0 where
  pub sent : totals.sent ≤ 24 * slots
  pub left : totals.left ≤ 24 * slots
  pub writes : totals.writes ≤ 131072 * slots
  pub reads : totals.reads ≤ 131072 * slots

pub length-states_after : (list : Medl) (script : Script) (history : History)
    → length (states_after list script history) ≡ length list.slots
length-states_after list script history = omega (
  arith,
  length-map (below (length list.slots)) (λ k. state_of (node_past list script history k)),
  length-range_with_len 0 (length list.slots),
)

pub totals-small : (list : Medl) (script : Script) (history : History) → length list.slots ≤ 24
    → length script.events ≤ 131072 → AreSmall (totals_of list script history) (length history)
totals-small list script [] nodes events =
    record { sent = omega arith; left = omega arith; writes = omega arith; reads = omega arith }
totals-small list script (row ∷ history) nodes events =
    let before = totals-small list script history nodes events in
    let states = states_after list script (row ∷ history) in
    let count = length-states_after list script (row ∷ history) in
    record {
      sent = omega (arith, before.sent, count_by-le-length shows_sent states, count, nodes);
      left = omega (arith, before.left, count_by-le-length shows_left states, count, nodes);
      writes = omega (arith, before.writes, filter_map-few (write_in (length history)) script.events, events);
      reads = omega (arith, before.reads, filter_map-few (read_in (length history)) script.events, events);
    }
