-- What a node's line shows is small, whichever list, script and numbers a run has.
use Rattle.std.proofs.Common.{◌≡◌, ℕ, zero, suc, ◌+◌, ◌*◌, ◌<◌, ◌≤◌, ℤ, pos, ◌+ℤ◌, ◌-ℤ◌, List, [], ◌∷◌, length, get_or}
use Rattle.std.proofs.Common.{unsigned_abs, subst, ap, sym, ◌∙◌, arith}
use Rattle.std.proofs.lemmas.Int.{ints}
use Rattle.std.proofs.lemmas.List.Elements.{All-nil, All-weaker, All-get_or}
use Rattle.std.proofs.lemmas.List.FromFn.{length-map-range_with_len}
use Rattle.ttp_world.specs.declared.medl.Medl.{Medl}
use Rattle.ttp_world.specs.declared.node.Act.{Act}
use Rattle.ttp_world.specs.declared.node.Act.TheVariants.{Off, Listen}
use Rattle.ttp_world.specs.declared.node.Chosen.{Chosen}
use Rattle.ttp_world.specs.declared.node.Entry.{Entry}
use Rattle.ttp_world.specs.declared.script.Script.{Script}
use Rattle.ttp_world.specs.declared.script.TheConstants.{DRIFT_LIMIT}
use Rattle.ttp_world.specs.Diary.{History, entry_of}
use Rattle.ttp_world.specs.Medium.{surroundings_in}
use Rattle.ttp_world.specs.Medl.{IsValid}
use Rattle.ttp_world.specs.Past.{state_of, no_past}
use Rattle.ttp_world.specs.Script.{AreBounded, IsBounded, IsValidEvent, IsValidScript, IsWithinSpan, incidents_of}
use Rattle.ttp_world.specs.Script.{jump_of, reading_error}
use Rattle.ttp_world.specs.World.{BegunNode, Numbers, jump_taken, node_past, node_after, slot_after, no_node, node_of}
use Rattle.ttp_world.specs.World.{chosen_of, frames_in, hearing_in, deviation_in, row_in, world, messages_chosen}
use Rattle.ttp_world.proofs.EventBounds.{incidents_in-bounded}
use Rattle.ttp_world.proofs.NextPasts.{node_past-next}
use Rattle.ttp_world.proofs.Places.{AreOfList, coming_place-of_list, entry_of-row_after-of_list}
use Rattle.ttp_world.proofs.Slots.{node_of-slot_after, entry_of-row_after}
use Rattle.ttp_world.proofs.Worlds.{length-world, world-of_list}
use Rattle.theorems.proofs.Small.{IsSmall}
use Rattle.theorems.proofs.SmallEntries.{IsEntryNear, new_entry-near}
use Rattle.theorems.proofs.SmallPasts.{slot_reach, most_jump, most_error, joined_reach, AreSmall, IsDoubtSmall}
use Rattle.theorems.proofs.SmallPasts.{IsSmallPast, past_after-small}
use Rattle.ttp_world.proofs.WorldFacts.{event-bounded as event_bounded}
use Rattle.ttp_world.proofs.SmallTests.{span-abs}

-- A script's numbers.

incidents-bounded : (list : Medl) (script : Script) (k slot : ℕ) → IsValidScript list script
    → AreBounded (incidents_of script k slot)
incidents-bounded list script k slot valid =
    incidents_in-bounded script.events k slot (record {
      count = valid.event_count;
      values = All-weaker (IsValidEvent list script) IsBounded (event_bounded list script) script.events valid.events;
    })

jump-small : (list : Medl) (script : Script) (k slot : ℕ) → IsValidScript list script
    → unsigned_abs (jump_of script k slot) ≤ most_jump
jump-small list script k slot valid =
    span-abs most_jump (jump_of script k slot) (incidents-bounded list script k slot valid).jump

error-small : (list : Medl) (script : Script) (k slot : ℕ) → IsValidScript list script
    → unsigned_abs (reading_error script k slot) ≤ most_error
error-small list script k slot valid =
    span-abs most_error (reading_error script k slot) (incidents-bounded list script k slot valid).error

surroundings-small : (list : Medl) (script : Script) (slot : ℕ) (row : List Entry) (k : ℕ) → IsValidScript list script
    → k < length list.slots
    → AreSmall (surroundings_in script slot row k)
surroundings-small list script slot row k valid node = record {
  jump = jump-small list script k slot valid;
  drift = span-abs DRIFT_LIMIT _
      (All-get_or (IsWithinSpan DRIFT_LIMIT) script.drift k (pos 0) (omega (arith, valid.drift_count)) valid.drift);
}

-- The clocks of a slot.

taken-small : (does : Act) (jump : ℤ) → unsigned_abs jump ≤ most_jump → unsigned_abs (jump_taken does jump) ≤ most_jump
taken-small Off jump small = omega arith
taken-small _ jump small = small

-- what is so of each item of a list is so of the one at a place, if it is so of the default
get_or-each : {X : Type 0} (P : X → Type 0) (xs : List X) (k : ℕ) (d : X) → P d
    → ((j : ℕ) → j < length xs → P (get_or xs j d))
    → P (get_or xs k d)
get_or-each P [] k d none each = none
get_or-each P (x ∷ xs) zero d none each = each 0 (omega arith)
get_or-each P (x ∷ xs) (suc k) d none each = get_or-each P xs k d none (λ j less. each (suc j) (omega arith))

-- a clock that takes over what it measures of another comes to that one, but for the error
taken_over : (own clock other error : ℤ) (reach : ℕ) → clock ≡ own → unsigned_abs other ≤ reach
    → unsigned_abs error ≤ most_error
    → unsigned_abs (own +ℤ ((other -ℤ clock) +ℤ error)) ≤ reach + most_error
taken_over own clock other error reach is small few = omega (arith, ints)

-- The slot after a history in which each node's past is small.
module _ (list : Medl) (script : Script) (history : History) (valid : IsValid list)
    (valid_script : IsValidScript list script) (of_list : AreOfList list history)
    (small : (k : ℕ) → k < length list.slots
    → IsSmallPast list (length history) (node_past list script history k)) where
  clock-small : (p : ℕ)
      → unsigned_abs (node_of (slot_after list script history) p).clock ≤ length history * slot_reach + most_jump
  clock-small p =
      let s = slot_after list script history in
      get_or-each (λ (n : BegunNode). unsigned_abs n.clock ≤ length history * slot_reach + most_jump) s.nodes p
      (no_node list) (omega arith)
      (λ j less.
      let node : j < length list.slots =
      omega (arith, length-map-range_with_len (node_after list script history) 0 (length list.slots)) in
      let jump = taken-small (node_after list script history j).act (jump_of script j (length history))
      (jump-small list script j (length history) valid_script) in
      let past = (small j node).offset in
      subst (λ (n : BegunNode). unsigned_abs n.clock ≤ length history * slot_reach + most_jump)
      (sym (node_of-slot_after list script history j node)) (omega (arith, ints, jump, past)))

  -- where a node that listens would join, by what it measures of any other
  joins-small : (k p : ℕ) → k < length list.slots → (node_after list script history k).act ≡ Listen
      → unsigned_abs ((node_past list script history k).offset +ℤ jump_of script k (length history)
      +ℤ deviation_in (slot_after list script history) k p) ≤ joined_reach (length history)
  joins-small k p node listens =
      let s = slot_after list script history in
      let past = node_past list script history k in
      let jump = jump_of script k (length history) in
      taken_over (past.offset +ℤ jump) (node_of s k).clock (node_of s p).clock
      (reading_error script k (length history)) (length history * slot_reach + most_jump)
      (ap (λ (n : BegunNode). n.clock) (node_of-slot_after list script history k node)
      ∙ ap (λ does. past.offset +ℤ jump_taken does jump) listens)
      (clock-small p) (error-small list script k (length history) valid_script)

  entry-near : (chosen : List Chosen) (k : ℕ) → k < length list.slots
      → IsEntryNear list ((node_past list script history k).offset +ℤ jump_of script k (length history))
      (joined_reach (length history)) (entry_of (row_in (slot_after list script history) chosen) k)
  entry-near chosen k node =
      let s = slot_after list script history in
      let n = node_after list script history k in
      let own = n.past.offset +ℤ jump_of script k (length history) in
      subst (IsEntryNear list own (joined_reach (length history)))
      (sym (entry_of-row_after list script history chosen k node))
      (new_entry-near list k n.past (chosen_of chosen k) (hearing_in s (frames_in s chosen) k) n.act own
      (joined_reach (length history)) node (coming_place-of_list list script history k valid node of_list).slot
      (λ listens p. joins-small k p node listens))

  next-small : (chosen : List Chosen) (k : ℕ) → k < length list.slots
      → IsSmallPast list (length history + 1)
      (node_past list script (row_in (slot_after list script history) chosen ∷ history) k)
  next-small chosen k node =
      let row = row_in (slot_after list script history) chosen in
      subst (IsSmallPast list (length history + 1)) (sym (node_past-next list script history chosen k node))
      (past_after-small list k (length history) (node_past list script history k) (entry_of row k)
      (surroundings_in script (length history) row k) valid (small k node)
      (entry_of-row_after-of_list list script history chosen k valid node of_list)
      (surroundings-small list script (length history) row k valid_script node) (entry-near chosen k node))

-- Each slot of a run.

first-small : (list : Medl) (k : ℕ) → IsSmallPast list 0 (no_past list k)
first-small list k = record {
  peer = λ j few. tt;
  accepted = omega arith;
  rejected = omega arith;
  doubt = tt;
  notes = All-nil _;
  offset = omega arith;
}

pasts-small : (list : Medl) (script : Script) (numbers : Numbers) (k : ℕ) → IsValid list → IsValidScript list script
    → k < length list.slots
    → IsSmallPast list (length numbers) (node_past list script (world list script numbers) k)
pasts-small list script [] k valid valid_script node = first-small list k
pasts-small list script (new ∷ numbers) k valid valid_script node =
    let history = world list script numbers in
    let slots = length-world list script numbers in
    let before : (j : ℕ) → j < length list.slots → IsSmallPast list (length history) (node_past list script history j)
    = λ j inside. subst (λ n. IsSmallPast list n (node_past list script history j)) (sym slots)
    (pasts-small list script numbers j valid valid_script inside) in
    let chosen = messages_chosen list script (length numbers) new.sent in
    let count : length history + 1 ≡ length (new ∷ numbers) = omega (arith, slots) in
    subst (λ n. IsSmallPast list n (node_past list script (world list script (new ∷ numbers)) k)) count
    (next-small list script history valid valid_script (world-of_list list script numbers valid) before chosen k node)

pub small_states : (list : Medl) (script : Script) (numbers : Numbers) (k : ℕ) → IsValid list
    → IsValidScript list script → length numbers ≤ script.slots → k < length list.slots
    → IsSmall (state_of (node_past list script (world list script numbers) k))
small_states list script numbers k valid valid_script few node =
    let past = node_past list script (world list script numbers) k in
    let small = pasts-small list script numbers k valid valid_script node in
    record {
      peer = small.peer;
      accepted = omega (arith, small.accepted, valid_script.slots.1);
      rejected = omega (arith, small.rejected, valid_script.slots.1);
      doubt = λ x is. subst IsDoubtSmall is small.doubt;
      offset = omega (arith, small.offset, valid_script.slots.1);
    }
