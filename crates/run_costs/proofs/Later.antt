-- A script with one event more, which comes later: what is read of the slots before it.
use Rattle.std.proofs.Common.{◌≡◌, ℕ, zero, suc, ◌%◌, ◌<◌, ◌≤◌, Bool, true, false, not, ◌||◌, List, [], ◌∷◌, length}
use Rattle.std.proofs.Common.{get_or, None}
use Rattle.std.proofs.Common.{refl, ap, sym, subst, ◌∙◌, arith}
use Rattle.std.specs.Prelude.{filter, nat_le}
use Rattle.std.proofs.lemmas.Bool.{false≢true, and_parts, leb-true}
use Rattle.ttp_world.specs.declared.medl.Medl.{Medl}
use Rattle.ttp_world.specs.declared.node.Entry.{Entry}
use Rattle.ttp_world.specs.declared.node.Entry.TheVariants as entry
use Rattle.ttp_world.specs.declared.script.Event.{Event}
use Rattle.ttp_world.specs.declared.script.Event.TheVariants as event
use Rattle.ttp_world.specs.declared.script.Script.{Script}
use Rattle.ttp_world.specs.Diary.{History, entry_of}
use Rattle.ttp_world.specs.Hypothesis.{nodes_of, FaultyNode, numbers_of}
use Rattle.ttp_world.specs.Returning.{FaultySlot, faulty_since, is_arm, disturbance_broken, is_sound}
use Rattle.ttp_world.specs.Safety.{newest_slot}
use Rattle.ttp_world.specs.World.{step}
use Rattle.controller.specs.Agreement.{begins_at}
use Rattle.run_costs.proofs.FromBelow.{agree-more, step-same}
use Rattle.hypothesis.specs.FaultySlots.{kept_slots}
use Rattle.hypothesis.specs.Standing.{told_start, HaveSameNodes}
use Rattle.campaign.specs.Cost.{is_hurt_in, is_hurt, hurt_nodes, has_two, memberships, is_split, split_span, span_after}
use Rattle.campaign.specs.Cost.{newest_leave}
use Rattle.campaign.specs.Tried.{with_fault}
use Rattle.ttp_world.specs.ZerosWorld.{all_zeros, zeros_world}
use Rattle.run_costs.specs.declared.seen_costs.faulty.Faulty.{Faulty}
use Rattle.run_costs.specs.declared.seen_costs.faulty.Faulty.TheVariants as faulty
use Rattle.run_costs.specs.declared.seen_costs.seen.SeenCost.{SeenCost}
use Rattle.run_costs.specs.FaultyAt.{KnowsFaulty, IsFaultyAt}
use Rattle.run_costs.specs.Later.{comes_later, is_loss}
use Rattle.run_costs.specs.Told.{IsSeenOf}
use Rattle.run_costs.proofs.LaterFaults.{kept-longer, slots-longer, at-longer, joined-longer, has_arm-longer}
use Rattle.run_costs.proofs.LaterFaults.{faulty_by_test-longer, disturbance-longer}
use Rattle.ttp_world.proofs.ZerosWorlds.{length-zeros_world}

module _ (list : Medl) (script : Script) (more : Event) where
  abbrev pub longer : Script
  longer = with_fault script more

  -- The run itself.
  pub zeros-longer : (n : ℕ) → n ≤ begins_at more → zeros_world list script n ≡ zeros_world list longer n
  zeros-longer zero few = refl
  zeros-longer (suc slot) few =
      let older = zeros-longer slot (omega (arith, few)) in
      let less : length (zeros_world list longer slot) < begins_at more =
      omega (arith, few, length-zeros_world list longer slot) in
      (λ i. step list script (older i) (all_zeros list))
      ∙ step-same (agree-more script more (begins_at more) (omega arith)) list (zeros_world list longer slot) less
      (all_zeros list)

  -- Who was hurt, and when memberships were split.
  module _ (plain : is_arm more ≡ false) where
    hurt_in-longer : (slot k : ℕ) → slot < begins_at more → (e : Entry)
        → is_hurt_in list script slot k e ≡ is_hurt_in list longer slot k e
    hurt_in-longer slot k less (entry.Left reason peer) =
        ap (λ (nodes : List ℕ). is_sound script nodes slot k) (faulty_by_test-longer list script more plain slot less)
    hurt_in-longer slot k less _ = refl

    hurt-longer : (history : History) → length history ≤ begins_at more → (k : ℕ)
        → is_hurt list script history k ≡ is_hurt list longer history k
    hurt-longer [] few k = refl
    hurt-longer (row ∷ history) few k =
        let here = hurt_in-longer (length history) k (omega (arith, few)) (entry_of row k) in
        let rest = hurt-longer history (omega (arith, few)) k in
        λ i. here i || rest i

    split-longer : (history : History) → newest_slot history < begins_at more
        → is_split list script history ≡ is_split list longer history
    split-longer history less =
        ap (λ (nodes : List ℕ). has_two (memberships list history (is_sound script nodes (newest_slot history))))
        (faulty_by_test-longer list script more plain (newest_slot history) less)

    span-longer : (history : History) → length history ≤ begins_at more
        → split_span list script history ≡ split_span list longer history
    span-longer [] few = refl
    span-longer (row ∷ history) few =
        let here = split-longer (row ∷ history) (omega (arith, few)) in
        let rest = span-longer history (omega (arith, few)) in
        λ i. span_after (length history) (here i) (rest i)

    -- What was seen of the run, where the faulty nodes are those of the longer script.
    pub seen-longer : (slots : ℕ) → slots ≤ begins_at more → (seen now : SeenCost) → IsSeenOf list script slots seen
        → IsFaultyAt list longer slots now.faulty → now.left ≡ seen.left → now.hurt ≡ seen.hurt → now.split ≡ seen.split
        → IsSeenOf list longer slots now
    seen-longer slots few seen now was faulty left hurt split =
        let history = zeros_world list script slots in
        let short : length history ≤ begins_at more = omega (arith, few, length-zeros_world list script slots) in
        let same = zeros-longer slots few in
        record {
          faulty = faulty;
          left = λ k node.
              (λ i. get_or (left i) k None) ∙ was.left k node ∙ ap (λ (h : History). newest_leave h k) same;
          hurt =
              hurt ∙ was.hurt ∙ (λ i. filter (λ k. hurt-longer history short k i) (nodes_of list))
              ∙ ap (hurt_nodes list longer) same;
          split = split ∙ was.split ∙ span-longer history short ∙ ap (split_span list longer) same;
        }

    -- A walk that tells the faulty nodes, where the event changes nothing of which jumps there are.
    pub walk-longer : (slots : ℕ) → slots ≤ begins_at more
        → disturbance_broken list script ≡ disturbance_broken list longer → (walk : Faulty)
        → IsFaultyAt list script slots walk → KnowsFaulty list longer slots walk
    walk-longer slots few jumps faulty.Nobody none = none
    walk-longer slots few jumps (faulty.Kept walk) at = (
      sym (has_arm-longer list script more plain) ∙ at.0,
      record {
        start = at.1.known.start;
        jumps = λ far. sym jumps ∙ at.1.known.jumps far;
        faulty =
            subst (λ (nodes : List FaultyNode). HaveSameNodes walk.faulty (numbers_of nodes))
            (kept-longer list script more (told_start walk.start) slots few) at.1.known.faulty;
      },
    )
    walk-longer slots few jumps (faulty.Back walk) at =
        let start = told_start walk.start in (
          sym (has_arm-longer list script more plain) ∙ at.0,
          record {
            start = at.1.known.start;
            jumps = λ far. sym jumps ∙ at.1.known.jumps far;
            end = at.1.known.end;
            newest = record {
              room = at.1.known.newest.room;
              told = λ t nothing come kept.
                  let was = at.1.known.newest.told t nothing come kept in
                  let kept_slot = get_or walk.newest.slots (t % kept_slots) nothing in
                  let less : t < begins_at more = omega (arith, come, few, at.1.known.end) in
                  record {
                    stayed =
                        subst (λ (nodes : List FaultyNode). HaveSameNodes kept_slot.stayed (numbers_of nodes))
                        (at-longer list script more start t less) was.stayed;
                    joined = was.joined ∙ ap length (joined-longer list script more start t less);
                  };
            };
            faulty =
                subst (λ (ss : List FaultySlot). HaveSameNodes walk.faulty (numbers_of (faulty_since ss)))
                (slots-longer list script more start slots few) at.1.known.faulty;
          },
        )

-- So it is of an event that comes later, by the words of the contracts.

pub later-begins : (slot : ℕ) (e : Event) → comes_later slot e ≡ true → slot ≤ begins_at e
later-begins slot e later =
    leb-true slot (begins_at e) (and_parts (nat_le slot (begins_at e)) (not (is_arm e)) later).0

later-plain : (slot : ℕ) (e : Event) → comes_later slot e ≡ true → is_arm e ≡ false
later-plain slot e later = by (is_arm e) (and_parts (nat_le slot (begins_at e)) (not (is_arm e)) later).1
  where
    by : (b : Bool) → not b ≡ true → b ≡ false
    by true is = absurd (false≢true is)
    by false is = refl

pub seen-now : (list : Medl) (script now : Script) (more : Event) (slots : ℕ) (seen new : SeenCost)
    → now ≡ with_fault script more → comes_later slots more ≡ true → IsSeenOf list script slots seen
    → IsFaultyAt list now slots new.faulty → new.left ≡ seen.left → new.hurt ≡ seen.hurt → new.split ≡ seen.split
    → IsSeenOf list now slots new
seen-now list script now more slots seen new is later was faulty left hurt split =
    subst (λ (s : Script). IsSeenOf list s slots new) (sym is)
    (seen-longer list script more (later-plain slots more later) slots (later-begins slots more later) seen new was
    (subst (λ (s : Script). IsFaultyAt list s slots new.faulty) is faulty) left hurt split)

loss-still : (list : Medl) (script : Script) (more : Event) → is_loss more ≡ true
    → disturbance_broken list script ≡ disturbance_broken list (with_fault script more)
loss-still list script (event.Send node channels f from to) is =
    disturbance-longer list script (event.Send node channels f from to) (λ k slot. refl) (λ k slot. refl) refl
loss-still list script (event.Receive node channels f from to) is =
    disturbance-longer list script (event.Receive node channels f from to) (λ k slot. refl) (λ k slot. refl) refl
loss-still list script (event.Flip node channels bit slot) is = absurd (false≢true is)
loss-still list script more is = absurd (false≢true is)

pub walk-now : (list : Medl) (script now : Script) (more : Event) (slots : ℕ) (walk : Faulty)
    → now ≡ with_fault script more → comes_later slots more ≡ true → is_loss more ≡ true
    → IsFaultyAt list script slots walk → KnowsFaulty list now slots walk
walk-now list script now more slots walk is later loss at =
    subst (λ (s : Script). KnowsFaulty list s slots walk) (sym is)
    (walk-longer list script more (later-plain slots more later) slots (later-begins slots more later)
    (loss-still list script more loss) walk at)
