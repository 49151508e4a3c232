-- Valid lists: how many nodes they have, and their frames' members.
use Rattle.ttp_world.proofs.Words.{ℕ, suc, ◌+◌, ◌*◌, ◌%◌, ◌≢◌, ◌<◌, ◌≤◌, Bool, true, false, []}
use Rattle.ttp_world.proofs.Words.{length, arith, ◌==◌}
use Rattle.ttp_world.proofs.Words.{cond_both, most_nodes, Medl, Place, no_place, next_place}
use Rattle.ttp_world.proofs.Words.{IsValid}
use Rattle.std.proofs.Common.{mod-lt}
use Rattle.std.proofs.lemmas.Bool.{eqb-false}
use Rattle.ttp_world.specs.Medl.{is_wide, member_bytes, node_limit}

-- How many nodes.

pub limit_of_bytes : (wide : Bool) → 8 * member_bytes wide ≤ most_nodes
limit_of_bytes true = omega arith
limit_of_bytes false = omega arith

-- a membership has no more bits than a set has members
pub node_limit-most : (list : Medl) → node_limit list ≤ most_nodes
node_limit-most list = limit_of_bytes (is_wide list)

-- so a list has no more nodes
pub nodes-most : (list : Medl) → IsValid list → length list.slots ≤ 24
nodes-most list valid = omega (arith, valid.count, node_limit-most list)

pub ruleset nodes = nodes-most

-- Places of a list's cycle.

pub record IsPlaceOf (list : Medl) (place : Place) : Type 0 where
  pub round : place.round < list.rounds
  pub slot : place.slot < length list.slots

pub IsPlaceOf-none : (list : Medl) → IsValid list → IsPlaceOf list no_place
IsPlaceOf-none list valid = record { round = omega (arith, valid.rounds); slot = omega (arith, valid.count) }

-- a number up to another and not that number is below it
lt_of_ne : (m n : ℕ) → m ≤ n → m ≢ n → m < n
lt_of_ne m n few other = omega arith

-- the place one slot later is one
pub IsPlaceOf-next : (list : Medl) (place : Place) → IsValid list → place.round < list.rounds
    → place.slot < length list.slots
    → IsPlaceOf list (next_place list place)
IsPlaceOf-next list place valid round slot =
    let next : (place.round + 1) % list.rounds < list.rounds =
    mod-lt (place.round + 1) (omega (arith, valid.rounds)) in
    cond_both (suc place.slot == length list.slots) _ _ (IsPlaceOf list)
    (λ last. record { round = next; slot = omega (arith, valid.count) })
    (λ inside. record {
      round = round;
      slot = lt_of_ne (place.slot + 1) (length list.slots) (omega (arith, slot))
          (λ same. eqb-false (suc place.slot) (length list.slots) inside (omega arith));
    })
