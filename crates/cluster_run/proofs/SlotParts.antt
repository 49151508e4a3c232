-- The nodes at the end of a slot, in two parts, one after the other, and whole: they are ready for it once it is
-- planned.
use Rattle.cluster_run.proofs.Words.{◌≡◌, ℕ, ◌+◌, ◌-◌, ◌<◌, List, [], ◌++◌, length, map, get_or, None, sym}
use Rattle.cluster_run.proofs.Words.{ap, ◌∙◌, arith, cases_lt, map-append, length-map, Medl, Script}
use Rattle.cluster_run.proofs.Words.{slot_after, no_outcome, Seat, ControllerState, Desk, HasPartEnded, handed_on}
use Rattle.cluster_run.proofs.Words.{number_handed, outcome_of, rings_of, end_at, desk_ends, steps, ⊎_elim}
use Rattle.cluster_run.proofs.Words.{get_or-append-add, each-front, each-back, each-joined, IsPartReady, Outcome}
use Rattle.cluster_run.proofs.Words.{zero-add, ◌≤◌, History, Numbers, world, length-world, HaveBegun, StandAfter}
use Rattle.cluster_run.proofs.Words.{CurrentSlot, Nodes, HaveBegunFor, next_slot, pairs_read, IsSlotEnded, MayEndSlot}
use Rattle.cluster_run.proofs.Words.{NodesStandAt, MayEnd, ArePlannedNodes, AreReady, NodesView, length-append, subst}
use Rattle.medium.specs.Carried.{Carried}
use Rattle.controller.specs.PlantWithin.{IsFromWithin, most_ahead_in}
use Rattle.controller.specs.Parts.{EachFrom}
use Rattle.cluster_run.proofs.HandingOn.{delivered-deliverable, HoldsCame, may_hand_on}

-- the first ones of a list, so many, and the others
pub record AreParts {X : Type 0} (half : ℕ) (whole front back : List X) : Type 0 where
  pub is : whole ≡ front ++ back
  pub count : length front ≡ half

parts_length : {X : Type 0} {half : ℕ} {whole front back : List X} → AreParts half whole front back
    → length whole ≡ half + length back
parts_length {front = front} {back = back} parts =
    ap length parts.is ∙ length-append front back ∙ ap (λ n. n + length back) parts.count

-- what is at a place of a part
at_front : {X : Type 0} {half : ℕ} {whole front back : List X} (d : X) (j : ℕ) → AreParts half whole front back
    → j < half → get_or whole j d ≡ get_or front j d
at_front {front = front} {back = back} d j parts less = grind steps

at_back : {X : Type 0} {half : ℕ} {whole front back : List X} (d : X) (j : ℕ) → AreParts half whole front back
    → get_or whole (half + j) d ≡ get_or back j d
at_back {front = front} {back = back} d j parts =
    (λ i. get_or (parts.is i) (sym parts.count i + j) d) ∙ get_or-append-add front back j d

-- What a function makes of a list in two parts is in two parts.
mapped : {A B : Type 0} (f : A → B) {half : ℕ} {whole front back : List A} → AreParts half whole front back
    → AreParts half (map f whole) (map f front) (map f back)
mapped f {front = front} {back = back} parts =
    record { is = ap (map f) parts.is ∙ map-append f front back; count = length-map front f ∙ parts.count }

-- Two lists of desks with equal rings are equally long.
pub same_many : (xs ys : List Desk) → map rings_of (desk_ends xs) ≡ map rings_of (desk_ends ys) → length xs ≡ length ys
same_many xs ys same = grind steps

-- A part of the nodes is ready where the whole is: from this node on, its seats and desks are those of the whole.
part_of_whole : {l : Medl} {sc : Script} {carried : Carried} {ss part : List Seat} {ds own : List Desk} (first : ℕ)
    → ((P : ℕ → Seat → Type 0) → EachFrom 0 P ss → EachFrom first P part)
    → ((j : ℕ) → j < length (desk_ends own) → end_at (desk_ends ds) (first + j) ≡ end_at (desk_ends own) j)
    → first + length part ≤ length ss → length own ≡ length part → first
    + length (desk_ends own) ≤ length (desk_ends ds)
    → IsPartReady l sc carried 0 ss ds → IsPartReady l sc carried first part own
part_of_whole {l} {sc} {ds = ds} first each ends seats count desks ready =
    let may = ready.may in
    record {
      list = ready.list;
      nodes = omega (arith, ready.nodes, seats);
      drifts = ready.drifts;
      drift = ready.drift;
      slot = ready.slot;
      medium = ready.medium;
      incidents = each _ ready.incidents;
      seats_are = each _ ready.seats_are;
      count = count;
      may = record {
        history = may.history;
        chosen = may.chosen;
        planned = each _ may.planned;
        carries = may.carries;
        hands_on = λ j near.
            rw (← ends j near) (rw (zero-add (first + j)) at (may.hands_on (first + j) (omega (arith, near, desks))));
      };
    }

module _ {X : Type 0} (d : X) (f : ControllerState → Outcome → X) {half : ℕ} {ends ends1 ends2 : List ControllerState}
  where
    -- What is so of ends and outcomes at each place of both parts is so of the whole.
    joined_at : {os os1 os2 : List Outcome} {xs xs1 xs2 : List X} → AreParts half ends ends1 ends2
        → AreParts half os os1 os2 → AreParts half xs xs1 xs2
        → ((j : ℕ) → j < length ends1 → get_or xs1 j d ≡ f (end_at ends1 j) (outcome_of os1 j))
        → ((j : ℕ) → j < length ends2 → get_or xs2 j d ≡ f (end_at ends2 j) (outcome_of os2 j)) → (j : ℕ)
        → j < length ends → get_or xs j d ≡ f (end_at ends j) (outcome_of os j)
    joined_at {os = os} {xs = xs} e o x front back j near = ⊎_elim
        (λ less. rw (at_front d j x less, at_front [] j e less, at_front no_outcome j o less)
        (front j (omega (arith, less, e.count))))
        (λ more.
        let at : half + (j - half) ≡ j = omega (arith, more) in
        subst (λ k. get_or xs k d ≡ f (end_at ends k) (outcome_of os k)) at
        (at_back d (j - half) x ∙ back (j - half) (omega (arith, near, more, parts_length e))
        ∙ (λ i. f (sym (at_back [] (j - half) e) i) (sym (at_back no_outcome (j - half) o) i))))
        (cases_lt j half)

-- The parts of all that the end of a slot works on.
module _ {half : ℕ} {ss ss1 ss2 : List Seat} {ds ds1 ds2 : List Desk} (c : AreParts half ss ss1 ss2)
    (d : AreParts half ds ds1 ds2) where
  abbrev e : AreParts half (desk_ends ds) (desk_ends ds1) (desk_ends ds2)
  e = mapped (λ (desk : Desk). desk.end) d

  -- where the whole is ready, each part is
  pub front_ready : {l : Medl} {sc : Script} {carried : Carried} → IsPartReady l sc carried 0 ss ds
      → IsPartReady l sc carried 0 ss1 ds1
  front_ready = part_of_whole 0 (λ P. each-front ss2 c.is)
      (λ j near. ap (end_at (desk_ends ds)) (zero-add j) ∙ at_front [] j e (omega (arith, near, e.count)))
      (omega (arith, parts_length c, c.count)) (d.count ∙ sym c.count) (omega (arith, parts_length e, e.count))

  pub back_ready : {l : Medl} {sc : Script} {carried : Carried} → IsPartReady l sc carried 0 ss ds
      → IsPartReady l sc carried half ss2 ds2
  back_ready ready = part_of_whole half (λ P. each-back ss1 c.is (omega (arith, c.count))) (λ j near. at_back [] j e)
      (omega (arith, parts_length c)) (omega (arith, ready.count, parts_length d, parts_length c))
      (omega (arith, parts_length e)) ready

  -- where both parts have ended, the whole has
  pub both_ended : {l : Medl} {sc : Script} {carried : Carried} {ss' ss1' ss2' : List Seat} {ds' ds1' ds2' : List Desk}
      → ss' ≡ ss1' ++ ss2' → ds' ≡ ds1' ++ ds2' → HasPartEnded l sc carried 0 ss1 ss1' ds1 ds1'
      → HasPartEnded l sc carried half ss2 ss2' ds2 ds2' → HasPartEnded l sc carried 0 ss ss' ds ds'
  both_ended {ss' = ss'} {ss1' = ss1'} {ss2' = ss2'} {ds' = ds'} {ds1' = ds1'} {ds2' = ds2'} c' d' front back =
      let seats : AreParts half ss' ss1' ss2' = record { is = c'; count = front.count ∙ c.count } in
      let outcomes = mapped (λ (seat : Seat). seat.outcome) seats in
      let parts : AreParts half ds' ds1' ds2' = record { is = d'; count = same_many ds1' ds1 front.rings ∙ d.count } in
      let after = mapped (λ (desk : Desk). desk.end) parts in
      let told = mapped (λ (desk : Desk). desk.delivered) parts in
      let next : half ≡ 0 + length ss1' = omega (arith, seats.count) in
      let next_seat : half ≡ 0 + length ss1 = omega (arith, c.count) in
      record {
        count = omega (arith, parts_length seats, parts_length c, back.count);
        seats_are = rw c' (each-joined next front.seats_are back.seats_are);
        end = λ history chosen planned carries.
            let first = front.end history chosen (each-front ss2 c.is planned) carries in
            let second = back.end history chosen (each-back ss1 c.is next_seat planned) carries in
            record {
              stand = rw c' (each-joined next first.stand second.stand);
              left = rw c' (each-joined next first.left second.left);
            };
        rings = ap (map rings_of) after.is ∙ map-append rings_of (desk_ends ds1') (desk_ends ds2')
            ∙ (λ i. front.rings i ++ back.rings i) ∙ sym (map-append rings_of (desk_ends ds1) (desk_ends ds2))
            ∙ ap (map rings_of) (sym e.is);
        handed = record {
          ends = joined_at [] handed_on e outcomes after front.handed.ends back.handed.ends;
          numbers_are = joined_at None (λ end o. number_handed end o.delivered) e outcomes told front.handed.numbers_are
              back.handed.numbers_are;
        };
      }

-- Once the controllers have begun the slot.

module _ (at : CurrentSlot) {numbers : Numbers} {view : NodesView} {old begun : List Seat}
    (stands : NodesStandAt at.list.now at.script.now at.slot view numbers) (was : old ≡ view.seats)
    (begin : (history : History) → length history ≡ at.slot → StandAfter at.script.now history 0 old
    → HaveBegun (slot_after at.list.now at.script.now history) 0 begun) where
  pub has_begun : HaveBegun (next_slot at.list.now at.script.now numbers) 0 begun
  has_begun = grind (steps, length-world)

  pub has_begun_for : HaveBegunFor at numbers begun view.host_ends
  has_begun_for = record { count = stands.count; begun = has_begun; written = stands.stands.written }

-- Once it is planned.

may_end : (at : CurrentSlot) (nodes : Nodes) → MayEndSlot at nodes
    → MayEnd at.list.now at.script.now nodes.medium 0 nodes.seats.items (desk_ends nodes.desks.items)
may_end at nodes may =
    let list = at.list.now in
    let script = at.script.now in
    let history = world list script may.numbers in
    let chosen = nodes.chosen.items in
    let ends = desk_ends nodes.desks.items in
    record {
      history = history;
      chosen = chosen;
      planned = may.planned.planned;
      carries = may.planned.carries;
      hands_on = λ j near.
          let node : j < length list.slots =
          omega (arith, near, may.are.desks, length-map nodes.desks.items (λ (d : Desk). d.end)) in
          let came : HoldsCame list script history j (pairs_read list script may.numbers j) (end_at ends j) =
          record { each = may.read j node } in
          rw (zero-add j) (may_hand_on came _ at.valid
          (omega (arith, length-world list script may.numbers, may.count, at.within, at.valid_script.slots))
          (delivered-deliverable list script history chosen j node));
    }

pub part_ready : (at : CurrentSlot) (nodes : Nodes) → MayEndSlot at nodes → AreReady at nodes
part_ready at nodes may =
    let are = may.are in
    record {
      list = at.valid;
      nodes = omega (arith, are.seats_count);
      drifts = at.valid_script.drift_count;
      drift = at.valid_script.drift;
      slot = omega (arith, are.slot_is, at.within, at.valid_script.slots);
      medium = subst (λ n. IsFromWithin nodes.medium at.script.now (most_ahead_in n)) (sym are.slot_is) are.medium;
      incidents = rw are.slot_is are.incidents;
      seats_are = rw are.slot_is are.seats;
      count = are.desks ∙ sym are.seats_count;
      may = may_end at nodes may;
    }

-- The slot has ended for all nodes, once it has for the part that begins with node 0.
pub ends_slot : (at : CurrentSlot) (old new : Nodes) {ds ds' : List Desk} → ArePlannedNodes at old
    → new.host_ends ≡ old.host_ends → new.chosen ≡ old.chosen
    → HasPartEnded at.list.now at.script.now old.medium 0 old.seats.items new.seats.items ds ds'
    → length new.desks.items ≡ length at.list.now.slots → IsSlotEnded at old new
ends_slot at old new are host_ends chosen ended desks = record {
  are = record {
    seats_count = ended.count ∙ are.seats_count;
    seats = rw are.slot_is at ended.seats_are;
    desks = desks;
    host_ends = ap (λ v. length v.items) host_ends ∙ are.host_ends;
    chosen = ap (λ v. length v.items) chosen ∙ are.chosen;
  };
  host_ends = host_ends;
  ends = λ numbers planned.
      ended.end (world at.list.now at.script.now numbers) old.chosen.items planned.planned planned.carries;
}
