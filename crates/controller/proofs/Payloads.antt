-- What is chosen for a node to send is as long as its frame wants it.
use Rattle.controller.proofs.Words.{◌≡◌, ℕ, ◌<◌, ◌≤◌, ℤ, Bool, true, false, cond, List, [], length, refl, ap, sym, ◌∙◌}
use Rattle.controller.proofs.Words.{◌+◌, arith, All, All-get_or, slice_get_within, Medl, Act, Send, Chosen, Script, act}
use Rattle.controller.proofs.Words.{coming_place, carries_payload, Diary, History, Surroundings, diary_of}
use Rattle.controller.proofs.Words.{surroundings_of, IsValid, plan_at, nothing_chosen, NodePast, past_of, is_on}
use Rattle.controller.proofs.Words.{is_armed, BegunNode, node_of, slot_after, chosen_of, Seat, intent_by, loaded_length}
use Rattle.controller.proofs.Words.{view_intent, turn_intent, kept, HasBegun, HaveBegun, IsPayloadBefore, IsPayloadFor}
use Rattle.controller.proofs.Words.{payload_handed, Begun, ControllerView, BegunSlot, sends_payload, is_loaded, Intent}
use Rattle.controller.proofs.Words.{AreChosen, ArePayloadsFor, intent_before}
use Rattle.ttp_world.proofs.Slots.{node_of-slot_after}
use Rattle.controller.specs.PlantStands.{PlantStandsFor, MayStep}
use Rattle.controller.specs.StandsFor.{IsSameNode, Stands, view_past, payload_planned}
use Rattle.controller.specs.PlantView.{PlantView}
use Rattle.controller.proofs.Standing.{act_kept-of, loaded_or_bare}
use Rattle.controller.specs.declared.controller.Intent.TheVariants as intent

-- the payload that is handed to a node is as long as it asks for, where that which is chosen for a frame that carries
-- payload is as long as the list says
pub length-payload_handed : (list : Medl) (k : ℕ) (wanted : Intent) (chosen : Chosen)
    → (wanted ≡ intent.Loaded → length chosen.payload ≡ loaded_length list k intent.Loaded)
    → length (payload_handed wanted chosen) ≡ loaded_length list k wanted
length-payload_handed list k intent.Loaded chosen whole = whole refl
length-payload_handed list k _ chosen whole = refl

-- what is kept of a past says the same of it
intent_by-kept : (list : Medl) (past : NodePast) (a : Act) → intent_by list (kept past) a ≡ intent_by list past a
intent_by-kept list past Send = refl
intent_by-kept list past _ = refl

-- the payload is the one that the node's frame carries
payload_by-intent : (list : Medl) (past : NodePast) (chosen : Chosen) (a : Act)
    → payload_planned list past chosen a ≡ payload_handed (intent_by list past a) chosen
payload_by-intent list past chosen Send =
    sym (loaded_or_bare (λ wanted. payload_handed wanted chosen) (carries_payload list (coming_place list past)))
payload_by-intent list past chosen _ = refl

pub payload_planned-handed : {view : ControllerView} {diary : Diary} {surroundings : Surroundings} {a : Act} {jump : ℤ}
    (chosen : Chosen) → Stands view diary surroundings (Begun a jump)
    → payload_planned view.list (view_past view diary surroundings) chosen a ≡ payload_handed (view_intent view) chosen
payload_planned-handed {view = view} {diary = diary} {surroundings = surroundings} {a = a} chosen stands =
    let past = view_past view diary surroundings in
    payload_by-intent view.list past chosen a
    ∙ ap (λ (wanted : Intent). payload_handed wanted chosen) (sym (intent_by-kept view.list past a))
    ∙ (λ i. payload_handed (turn_intent view.list (sym stands.past i) (sym stands.turn i)) chosen)

-- whether this is to send a frame with payload
abbrev pub is_loading : Intent → Bool
is_loading intent.Loaded = true
is_loading _ = false

loading_or : (carries : Bool) → is_loading (cond carries intent.Loaded intent.Bare) ≡ carries
loading_or true = refl
loading_or false = refl

loading_by : (list : Medl) (past : NodePast) (a : Act) → is_loading (intent_by list past a) ≡ sends_payload list past a
loading_by list past Send = loading_or (carries_payload list (coming_place list past))
loading_by list past _ = refl

-- so the message that is chosen for a node is as long as its frame wants it
pub payload-node : {s : BegunSlot} {k : ℕ} {view : ControllerView} {message : Chosen} (chosen : List Chosen)
    → message ≡ chosen_of chosen k → k < length s.list.slots → HasBegun s k view → AreChosen s chosen
    → IsPayloadFor view message
payload-node {s = s} {k = k} chosen is node begun are loading =
    let past = (node_of s k).past in
    let does = (node_of s k).act in
    let loaded = sym (loading_by s.list past does) ∙ ap is_loading (sym (intent_by-kept s.list past does))
    ∙ (λ i. is_loading (turn_intent (sym begun.list i) (sym begun.past i) (sym begun.turn i)))
    ∙ ap is_loading loading in
    ap (λ (m : Chosen). length m.payload) is ∙ are k node loaded
    ∙ (λ i. (plan_at (sym begun.list i) (sym begun.node i)).payload)

-- where no frame carries payload, none may be chosen for all
pub nothing-chosen : (s : BegunSlot) (chosen : List Chosen) → ((k : ℕ) → (plan_at s.list k).payload ≡ 0)
    → length s.list.slots ≤ length chosen → All (λ m. m.payload ≡ []) chosen → AreChosen s chosen
nothing-chosen s chosen bare few all = λ k node loaded.
    ap length (All-get_or (λ m. m.payload ≡ []) chosen k nothing_chosen (omega (arith, node, few)) all) ∙ sym (bare k)

-- whoever has begun a slot sends in it what it was to send
pub payload-begun : {old new : ControllerView} (script : Script) (slot k : ℕ) (chosen : Chosen) → IsSameNode old new
    → view_intent new ≡ intent_before script slot k old → IsPayloadBefore script slot chosen k old
    → IsPayloadFor new chosen
payload-begun script slot k chosen same sends before = λ loaded.
    before (sym sends ∙ loaded) ∙ (λ i. (plan_at (sym same.list i) (sym same.node i)).payload)

-- where all have begun a slot, what is chosen for it is as long as they want it
pub payloads-chosen : {s : BegunSlot} {seats : List Seat} (chosen : List Chosen) → length seats ≤ length s.list.slots
    → HaveBegun s 0 seats → AreChosen s chosen → ArePayloadsFor chosen 0 seats
payloads-chosen {seats = seats} chosen few begun are = record {
  each = λ j seat here.
      payload-node chosen refl (omega (arith, few, slice_get_within seats j seat here)) (begun.each j seat here) are;
}

-- Before a slot, what is read of a node's past says what it is to send.

loading-before : (list : Medl) (k : ℕ) (on armed : Bool) (past : NodePast) (diary : Diary) (surroundings : Surroundings)
    → IsValid list → k < length list.slots → past ≡ kept (past_of list k diary surroundings)
    → is_loading (intent_by list past (act list k on armed past))
    ≡ sends_payload list (past_of list k diary surroundings) (act list k on armed (past_of list k diary surroundings))
loading-before list k on armed past diary surroundings valid node is =
    let read = past_of list k diary surroundings in
    let does = act list k on armed read in
    (λ i. is_loading (intent_by list (is i) (act_kept-of list k on armed past diary surroundings valid node is i)))
    ∙ ap is_loading (intent_by-kept list read does)
    ∙ loading_by list read does

-- so a plant may be stepped by what is chosen for the slot after a history that it stands for
pub chosen-step : {plant : PlantView} {script : Script} {history : History} (chosen : List Chosen)
    → IsValid plant.list → PlantStandsFor plant script history → AreChosen (slot_after plant.list script history) chosen
    → MayStep plant script chosen
chosen-step {plant = plant} {script = script} {history = history} chosen valid stands are = record {
  each = λ j seat here loaded.
      let k = 0 + j in
      let list = plant.list in
      let node : k < length list.slots = omega (arith, stands.count, slice_get_within plant.seats j seat here) in
      let of = stands.are.each j seat here in
      let diary = diary_of history k in
      let surroundings = surroundings_of script history k in
      let past_is = (stands.seats.each j seat here).past
      ∙ (λ i. kept (past_of (of.list i) (of.node i) diary surroundings)) in
      let on = λ (t : ℕ). is_on script k t in
      let armed = λ (t : ℕ). is_armed script k t in
      let sends : is_loaded (slot_after list script history) k ≡ true =
      ap (λ (n : BegunNode). sends_payload list n.past n.act) (node_of-slot_after list script history k node)
      ∙ sym (loading-before list k (on (length history)) (armed (length history))
      seat.controller.past diary surroundings valid node
      past_is)
      ∙ (λ i. is_loading (intent_by (sym of.list i) seat.controller.past
      (act (sym of.list i) (sym of.node i) (on (sym stands.slot i)) (armed (sym stands.slot i)) seat.controller.past)))
      ∙ ap is_loading loaded in
      are k node sends ∙ (λ i. (plan_at (sym of.list i) (sym of.node i)).payload);
}
