-- The slot that a run has made: its row tells what each node was asked for and delivered.
use Rattle.std.proofs.Common.{◌≡◌, ℕ, ◌<◌, Bool, true, false, List, ◌∷◌, length}
use Rattle.std.proofs.Common.{Option, Some, None, IfSome, if◌then◌else◌}
use Rattle.std.proofs.Common.{refl, ap, sym, subst, ◌∙◌, arith}
use Rattle.std.specs.Option.{option_or}
use Rattle.std.proofs.lemmas.List.FromFn.{get_or-map-range_with_len}
use Rattle.ttp_world.specs.declared.medl.Medl.{Medl}
use Rattle.ttp_world.specs.declared.node.Chosen.{Chosen}
use Rattle.ttp_world.specs.declared.node.Delivered.{Delivered}
use Rattle.ttp_world.specs.declared.node.Entry.{Entry}
use Rattle.ttp_world.specs.declared.node.Entry.TheVariants as entry
use Rattle.ttp_world.specs.declared.script.Script.{Script}
use Rattle.ttp_world.specs.Diary.{History, entry_of}
use Rattle.ttp_world.specs.Medl.{IsValid}
use Rattle.ttp_world.specs.Messages.{message_of, delivered_of}
use Rattle.ttp_world.specs.Outgoing.{nothing_chosen, message_chosen}
use Rattle.ttp_world.specs.Past.{NodePast}
use Rattle.ttp_world.specs.World.{Numbers, chosen_of, is_loaded, row_in, slot_after, world}
use Rattle.ttp_world.proofs.Carried.{AreOfHosts, delivered_of-row_in, message_of-row_in}
use Rattle.ttp_world.proofs.NextPasts.{node_past-next}
use Rattle.ttp_world.proofs.Places.{IsOfList, delivered_of-sender, entry_of-row_after-of_list}
use Rattle.ttp_world.proofs.Worlds.{world-of_list}
use Rattle.controller.specs.PlantStands.{outcome_at}
use Rattle.controller.specs.PlantView.{PlantView}
use Rattle.trace_run.specs.declared.run.TraceRun.{TraceRun}
use Rattle.trace_run.specs.Run.{HasMade, IsMade, first_numbers}
use Rattle.mode_change.specs.declared.node.NodeModes.{NodeModes}
use Rattle.mode_change.specs.Knowing.{IsJoinOfList, mode_by, KnowAll, IsPastRow, HasStepped}
use Rattle.mode_change.specs.Modes.{mode_asked, mode_sent, mode_delivered}
use Rattle.mode_change.proofs.Requests.{asked-nothing, or-none, sends-nothing}

-- One entry.

join-of_list : (list : Medl) (e : Entry) → IsOfList list e → IsJoinOfList list e
join-of_list list (entry.Joined sender c deviation) of_list = (of_list.1.round, of_list.1.slot)
join-of_list list _ of_list = tt

some-loaded : (loaded : Bool) (i n : ℕ) → Some i ≡ (if loaded then Some n else None) → (loaded ≡ true) × (i ≡ n)
some-loaded true i n is = (refl, cc)
some-loaded false i n is = cc

-- The slot, by the messages that were chosen in it.

module _ (list : Medl) (script : Script) (valid : IsValid list) (numbers : Numbers) (plant : PlantView)
    (chosen : List Chosen)
    (made : HasMade plant chosen list script (row_in (slot_after list script (world list script numbers)) chosen)
    (world list script numbers)) where
  abbrev history : History
  history = world list script numbers

  abbrev row : List Entry
  row = row_in (slot_after list script (world list script numbers)) chosen

  of_hosts : AreOfHosts (slot_after list script (world list script numbers)) chosen
  of_hosts = record {
    message = λ k node loaded.
        made.told k node loaded
        ∙ get_or-map-range_with_len (λ j. message_chosen list script (length history) j (message_of (entry_of row j))) 0
        (length list.slots) k k nothing_chosen node (omega arith)
        ∙ ap (message_chosen list script (length history) k)
        (message_of-row_in (slot_after list script history) chosen k node
        ∙ ap (λ (l : Bool). if l then Some (chosen_of chosen k).number else None) loaded);
  }

  -- what a node was asked for, by its entry
  asked-by : (delivered : Option Delivered) (k : ℕ) → k < length list.slots
      → delivered ≡ delivered_of list script history row k → (e : Entry) → entry_of row k ≡ e
      → mode_by list k e (chosen_of chosen k).payload delivered
      ≡ option_or (mode_sent list script (length history) k e)
      (mode_delivered list (delivered_of list script history row k))
  asked-by delivered k node told (entry.Sent (Some i)) sent =
      let s = slot_after list script history in
      let loaded = some-loaded (is_loaded s k) i (chosen_of chosen k).number
      (sym (ap message_of sent) ∙ message_of-row_in s chosen k node) in
      let asked = mode_asked list k (message_chosen list script (length history) k (Some i)).payload in
      ap (λ (c : Chosen). mode_asked list k c.payload) (of_hosts.message k node loaded.0)
      ∙ ap (λ n. mode_asked list k (message_chosen list script (length history) k (Some n)).payload) (sym loaded.1)
      ∙ sym (or-none asked)
      ∙ ap (λ (d : Option Delivered). option_or asked (mode_delivered list d))
      (sym (sends-nothing list script row history k (Some i) sent))
  asked-by delivered k node told (entry.Sent None) sent =
      ap (mode_delivered list) told
      ∙ ap (λ a. option_or a (mode_delivered list (delivered_of list script history row k)))
      (sym (asked-nothing list k))
  asked-by delivered k node told _ sent = ap (mode_delivered list) told

  delivered-told : (k : ℕ) → k < length list.slots
      → (outcome_at plant k).delivered ≡ delivered_of list script history row k
  delivered-told k node =
      (made.outcomes k node).delivered ∙ sym (delivered_of-row_in list script history chosen k of_hosts)

  of-list : (k : ℕ) → k < length list.slots → IsOfList list (entry_of row k)
  of-list k node =
      entry_of-row_after-of_list list script history chosen k valid node (world-of_list list script numbers valid)

  past-row_in : IsPastRow plant chosen list script
      (row_in (slot_after list script (world list script numbers)) chosen) (world list script numbers)
  past-row_in = record {
    same = made.same;
    stands = made.stands;
    nodes = made.count;
    asked = λ k node.
        asked-by (outcome_at plant k).delivered k node (delivered-told k node) (entry_of row k) refl;
    delivered = delivered-told;
    from = λ k node.
        subst (λ (o : Option Delivered). IfSome o (λ d. d.sender < length list.slots)) (sym (delivered-told k node))
        (delivered_of-sender list script history row k (of-list k node));
    join = λ k node. join-of_list list (entry_of row k) (of-list k node);
    place = λ k node. ap (λ (p : NodePast). p.place) (node_past-next list script history chosen k node);
  }

is-past : (list : Medl) (script : Script) (numbers : Numbers) (plant : PlantView) (chosen : List Chosen)
    (entries : List Entry) → IsValid list → HasMade plant chosen list script entries (world list script numbers)
    → IsPastRow plant chosen list script entries (world list script numbers)
is-past list script numbers plant chosen entries valid made =
    let history = world list script numbers in
    subst (λ (r : List Entry). IsPastRow plant chosen list script r history) (sym made.follows)
    (past-row_in list script valid numbers plant chosen
    (subst (λ (r : List Entry). HasMade plant chosen list script r history) made.follows made))

-- What is known of the nodes.

module _ (run : TraceRun) (list : Medl) (script : Script) (numbers : Numbers) (slot : ℕ) (text : List ℕ)
    (made : IsMade run list script numbers slot text) (valid : IsValid list) (plant : PlantView) (chosen : List Chosen)
    (plant_is : plant ≡ run.plant) (chosen_is : chosen ≡ run.outgoing.chosen.items) (before : List NodeModes)
    (known : KnowAll before list script (world list script (first_numbers script numbers slot))) where
  past-made : IsPastRow plant chosen list script made.row (world list script (first_numbers script numbers slot))
  past-made =
      let older = first_numbers script numbers slot in
      rw (plant_is, chosen_is)
      (is-past list script older run.plant run.outgoing.chosen.items made.row valid made.made)

  pub has-stepped : HasStepped plant chosen before list
  has-stepped = record {
    script = script;
    row = made.row;
    history = world list script (first_numbers script numbers slot);
    past = past-made;
    known = known;
  }

  -- where the nodes were taken over the slot
  pub known-made : (nodes shown : List NodeModes) → shown ≡ nodes
      → ((said : Script) (entries : List Entry) (past : History) → IsPastRow plant chosen list said entries past
      → KnowAll before list said past → KnowAll nodes list said (entries ∷ past))
      → KnowAll shown list script (made.row ∷ world list script (first_numbers script numbers slot))
  known-made nodes shown is know =
      let older = world list script (first_numbers script numbers slot) in
      subst (λ (ns : List NodeModes). KnowAll ns list script (made.row ∷ older)) (sym is)
      (know script made.row older past-made known)
