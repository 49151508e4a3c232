use Rattle.std.proofs.Common.{◌≡◌, ◌∙◌, ◌<◌, ℕ, w64, to_z, of_z, rules, true, List, length, get_or, ap, sym, subst}
use Rattle.std.proofs.lemmas.Int.{to_z-of_z}
use Rattle.std.specs.Prelude.{ℤ, Some, None, if◌then◌else◌}
use Rattle.ttp_world.specs.declared.medl.Medl.{Medl}
use Rattle.ttp_world.specs.declared.node.Chosen.{Chosen}
use Rattle.ttp_world.specs.declared.node.Entry.{Entry}
use Rattle.ttp_world.specs.declared.script.Script.{Script}
use Rattle.ttp_world.specs.declared.node.NodeState.{NodeState}
use Rattle.ttp_world.specs.declared.node.StatusWords.{StatusWords}
use Rattle.ttp_world.specs.Fitting.{number_in}
use Rattle.ttp_world.specs.Frame.{cstate_bytes}
use Rattle.controller.specs.PlantStands.{ShowsNode, outcome_at}
use Rattle.controller.specs.PlantView.{PlantView}
use Rattle.ttp_world.specs.declared.node.CState.{CState}
use Rattle.ttp_world.specs.Diary.{History, entry_of}
use Rattle.ttp_world.specs.Medium.{is_sending}
use Rattle.ttp_world.specs.Medl.{IsValid, member_width}
use Rattle.ttp_world.specs.World.{slot_after}
use Rattle.bus_frames.specs.Sending.{sending_in}
use Rattle.bus_frames.specs.Standing.{HasByteRoom, IsPastSlot, SlotStands, sending_by}
use Rattle.bus_frames.proofs.Told.{IsOfPlace, entry-is, place-is, sending-is, state-told}
use Rattle.bus_frames.proofs.sending.sending_of.Goals as goal

-- what was read is the C-state of a node that has sent
module _ (plant : PlantView) (list : Medl) (k : ℕ) (p : IsPastSlot plant list)
    (valid : IsValid list) (node : k < length list.slots)
    (state : NodeState) (shows : ShowsNode plant k state) (is : is_sending state.entry ≡ true) where
  sent : is_sending (entry_of p.some.row k) ≡ true
  sent = ap is_sending (sym
      (entry-is plant p.chosen p.offsets list p.script p.slot p.some.row p.some.before p.some.stands
      valid k node state shows)) ∙ is

  read : (result : CState) (words : StatusWords) (d : ℕ) → words ≡ (outcome_at plant k).status
      → ((c : CState) → HasByteRoom list c → c.members ≡ state.members
      → get_or words.words 2 d ≡ number_in (cstate_bytes (member_width list) c) → result ≡ c)
      → IsOfPlace list result
  read result words d told reads =
      subst (IsOfPlace list) (sym (state-told plant p.chosen p.offsets list p.script p.slot p.some.row p.some.before
      p.some.stands valid k node state result (get_or words.words 2 d) d shows sent
      (ap (λ (s : StatusWords). get_or s.words 2 d) told) reads))
      (place-is plant p.chosen p.offsets list p.script p.slot p.some.row p.some.before p.some.stands valid k node sent)

  state-read : (chosen : List Chosen) (offsets : List ℤ) (script : Script)
      (slot : ℕ) (row : List Entry) (before : History)
      → SlotStands plant chosen offsets list script slot row before
      → (result : CState) (words : StatusWords) (d : ℕ) → words ≡ (outcome_at plant k).status
      → ((c : CState) → HasByteRoom list c → c.members ≡ state.members
      → get_or words.words 2 d ≡ number_in (cstate_bytes (member_width list) c) → result ≡ c)
      → result ≡ (sending_in (slot_after list script before) k).state
  state-read chosen offsets script slot row before stands result words d told reads =
      state-told plant chosen offsets list script slot row before stands valid k node state result
      (get_or words.words 2 d) d shows
      (ap is_sending (sym (entry-is plant chosen offsets list script slot row before stands
      valid k node state shows)) ∙ is)
      (ap (λ (s : StatusWords). get_or s.words 2 d) told) reads

pub sending_by-requires-clause-round : goal.sending_by-requires-clause-round
sending_by-requires-clause-round c =
    (read c.args.plant.now c.args.list.now c.args.node c.requires.past
    c.requires.valid c.requires.node c.node-shown.result
    c.node-shown.ensures.shows (sym c.is_sending.ensures ∙ c.if-not-is_sending.false) c.state_told-state.result
    c.status.result _ c.status.ensures c.state_told-state.ensures).round

pub sending_by-requires-clause-slot : goal.sending_by-requires-clause-slot
sending_by-requires-clause-slot c =
    (read c.args.plant.now c.args.list.now c.args.node c.requires.past
    c.requires.valid c.requires.node c.node-shown.result
    c.node-shown.ensures.shows (sym c.is_sending.ensures ∙ c.if-not-is_sending.false) c.state_told-state.result
    c.status.result _ c.status.ensures c.state_told-state.ensures).slot

pub sending_by-requires-clause-room : goal.sending_by-requires-clause-room
sending_by-requires-clause-room c =
    (read c.args.plant.now c.args.list.now c.args.node c.requires.past
    c.requires.valid c.requires.node c.node-shown.result
    c.node-shown.ensures.shows (sym c.is_sending.ensures ∙ c.if-not-is_sending.false) c.state_told-state.result
    c.status.result _ c.status.ensures c.state_told-state.ensures).has.members

pub returns-clause-told : goal.returns-clause-told
returns-clause-told c chosen offsets script slot row before stands clock =
    let plant = c.args.plant.now in
    let list = c.args.list.now in
    let k = c.args.node in
    let node = c.requires.node in
    let shows = c.node-shown.ensures.shows in
    let entry = entry-is plant chosen offsets list script slot row before stands c.requires.valid k node
    c.node-shown.result shows in
    let clock_same : to_z w64 (of_z w64 c.args.clock) ≡ c.args.clock = search (rules, to_z-of_z) in
    let is = ap is_sending (sym entry) ∙ sym c.is_sending.ensures ∙ c.if-not-is_sending.false in
    let state = state-read plant list k c.requires.past c.requires.valid node c.node-shown.result shows
    (sym c.is_sending.ensures ∙ c.if-not-is_sending.false) chosen offsets script slot row before stands
    c.state_told-state.result c.status.result _ c.status.ensures c.state_told-state.ensures in
    c.sending_by.ensures.told
    ∙ (λ i. sending_by list k (entry i) (state i) (clock_same i))
    ∙ sending-is plant chosen offsets list script slot row before stands c.requires.valid k node c.args.clock is clock
    ∙ sym (ap (λ b. if b then Some (sending_in (slot_after list script before) k) else None) is)
