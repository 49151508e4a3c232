-- Histories of two scripts that agree below a slot are the same below it.
use Rattle.std.proofs.Common.{◌≡◌, ℕ, zero, suc, ◌<◌, ◌≤◌, ◌-ℤ◌, ◌+ℤ◌, List, [], ◌∷◌, ◌++◌, length, Option}
use Rattle.std.proofs.Common.{Some, None, get_or, refl, ap, ◌∙◌, arith}
use Rattle.std.specs.Prelude.{map}
use Rattle.ttp_base.specs.NodeSet.{below}
use Rattle.ttp_world.specs.declared.medl.Medl.{Medl}
use Rattle.ttp_world.specs.declared.node.Chosen.{Chosen}
use Rattle.ttp_world.specs.declared.script.Channel.TheVariants as channel
use Rattle.ttp_world.specs.declared.script.Script.{Script}
use Rattle.ttp_world.specs.Act.{act}
use Rattle.ttp_world.specs.Conduct.{new_entry}
use Rattle.ttp_world.specs.Diary.{History, diary_of}
use Rattle.ttp_world.specs.Medium.{heard, surroundings_of}
use Rattle.ttp_world.specs.Outgoing.{messages_before, message_chosen}
use Rattle.ttp_world.specs.Past.{past_of}
use Rattle.ttp_world.specs.World.{Numbers, chosen_of, frames_in, hearing_in, jump_taken, messages_chosen}
use Rattle.ttp_world.specs.World.{no_node, node_after, node_past, row_in, slot_after, step, world}
use Rattle.ttp_world.proofs.Worlds.{length-world}
use Rattle.controller.specs.Agreement.{AgreeBelow, SayAlike}
use Rattle.controller.proofs.SameSlots.{armed-same, error-same, heard-same, jump-same, surroundings_in-same}

module _ {one other : Script} {slot : ℕ} (agree : AgreeBelow one other slot) where
  alike : (s : ℕ) → s < slot → (k : ℕ) → SayAlike one other k s
  alike s less k = agree.said k s less

  -- Pasts.

  pub surroundings_of-same : (history : History) (k : ℕ) → length history ≤ slot
      → surroundings_of one history k ≡ surroundings_of other history k
  surroundings_of-same [] k few = refl
  surroundings_of-same (row ∷ history) k few =
      let less : length history < slot = omega (arith, few) in
      let older = surroundings_of-same history k (omega arith) in
      let new = surroundings_in-same (alike (length history) less) row k (agree.drift k) in
      λ i. new i ∷ older i

  pub node_past-same : (list : Medl) (history : History) (k : ℕ) → length history ≤ slot
      → node_past list one history k ≡ node_past list other history k
  node_past-same list history k few = ap (past_of list k (diary_of history k)) (surroundings_of-same history k few)

  -- The slot after a history.
  module _ (list : Medl) (history : History) (less : length history < slot) where
    now : (k : ℕ) → SayAlike one other k (length history)
    now = alike (length history) less

    node_after-same : (k : ℕ) → node_after list one history k ≡ node_after list other history k
    node_after-same k =
        let past = node_past-same list history k (omega (arith, less)) in
        let armed = armed-same now k in
        let jump = jump-same now k in
        λ i.
        let does = act list k ((now k).on i) (armed i) (past i) in
        record { past = past i; act = does; clock = (past i).offset +ℤ jump_taken does (jump i) }

    nodes-same : (slot_after list one history).nodes ≡ (slot_after list other history).nodes
    nodes-same = λ i. map (λ (k : ℕ). node_after-same k i) (below (length list.slots))

    module _ (chosen : List Chosen) where
      frames-same : frames_in (slot_after list one history) chosen ≡ frames_in (slot_after list other history) chosen
      frames-same = λ i.
          frames_in (record { list = list; script = one; number = length history; nodes = nodes-same i }) chosen

      hearing-same : (r : ℕ) → hearing_in (slot_after list one history)
          (frames_in (slot_after list one history) chosen) r
          ≡ hearing_in (slot_after list other history) (frames_in (slot_after list other history) chosen) r
      hearing-same r =
          let frames = frames-same in
          let on_a = ap (heard one (length history) r channel.A) frames
          ∙ heard-same now r channel.A (frames_in (slot_after list other history) chosen) in
          let on_b = ap (heard one (length history) r channel.B) frames
          ∙ heard-same now r channel.B (frames_in (slot_after list other history) chosen) in
          let error = error-same now r in
          λ i. record {
            a = on_a i;
            b = on_b i;
            deviation = λ (p : ℕ). ((get_or (nodes-same i) p (no_node list)).clock
                -ℤ (get_or (nodes-same i) r (no_node list)).clock) +ℤ error i;
          }

      row-same : row_in (slot_after list one history) chosen ≡ row_in (slot_after list other history) chosen
      row-same = λ i.
          map (λ (k : ℕ).
          let node = get_or (nodes-same i) k (no_node list) in
          new_entry list k node.past (chosen_of chosen k) (hearing-same k i) node.act) (below (length list.slots))

      pub step-same : step list one history chosen ≡ step list other history chosen
      step-same = ap (λ row. row ∷ history) row-same

  -- The messages that hosts have written.

  messages_before-same : (list : Medl) (k m : ℕ) → m ≤ slot
      → messages_before list one k m ≡ messages_before list other k m
  messages_before-same list k zero few = refl
  messages_before-same list k (suc m) few =
      let older = messages_before-same list k m (omega arith) in
      let new = (agree.said k m (omega (arith, few))).writes in
      λ i. older i ++ new i

  message_chosen-same : (list : Medl) (m k : ℕ) (message : Option ℕ) → m < slot
      → message_chosen list one m k message ≡ message_chosen list other m k message
  message_chosen-same list m k None less = refl
  message_chosen-same list m k (Some number) less =
      let out = messages_before-same list k (suc m) (omega (arith, less)) in
      λ i. record { number = number; payload = get_or (out i) number [] }

  messages_chosen-same : (list : Medl) (m : ℕ) (sent : List (Option ℕ)) → m < slot
      → messages_chosen list one m sent ≡ messages_chosen list other m sent
  messages_chosen-same list m sent less = λ i.
      map (λ (k : ℕ). message_chosen-same list m k (get_or sent k None) less i) (below (length list.slots))

  -- Runs.
  pub world-same : (list : Medl) (numbers : Numbers) → length numbers ≤ slot
      → world list one numbers ≡ world list other numbers
  world-same list [] few = refl
  world-same list (new ∷ numbers) few =
      let older = world-same list numbers (omega (arith, few)) in
      let messages = messages_chosen-same list (length numbers) new.sent (omega (arith, few)) in
      (λ i. step list one (older i) (messages i))
      ∙ step-same list (world list other numbers) (omega (arith, few, length-world list other numbers))
      (messages_chosen list other (length numbers) new.sent)
