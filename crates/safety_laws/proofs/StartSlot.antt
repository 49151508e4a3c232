-- The slot of the start: one node starts, and every other that is on joins on its frame.
use Rattle.safety_laws.proofs.Words.{◌≡◌, ◌≢◌, ℕ, ◌+◌, ◌-◌, ◌*◌, ◌<◌, ◌≤◌, Bool, true, false, cond, ◌&&◌, ◌||◌, List}
use Rattle.safety_laws.proofs.Words.{[], ◌∷◌, length, Option, Some, None, option_map, refl, ap, sym, ◌∙◌, subst, inl}
use Rattle.safety_laws.proofs.Words.{inr, ◌⊎◌, arith, nat_le, if◌then◌else◌, cases_eq, eq-eqb, false≢true, le-leb}
use Rattle.safety_laws.proofs.Words.{same_Some, with_node-nil, Medl, Act, Listen, Start, Chosen, Entry, Phase, Script}
use Rattle.safety_laws.proofs.Words.{act, phase_act, past_after, cold_start_frame, node_frames, new_entry, History}
use Rattle.safety_laws.proofs.Words.{SlotSurroundings, phase_after, start_place, ClusterStart, start_slot, loses}
use Rattle.safety_laws.proofs.Words.{may_start, IsValid, AreNodes, NodePast, on_slot, is_on, is_armed, flipped_bits}
use Rattle.safety_laws.proofs.Words.{node_past, slot_after, chosen_of, frames_in, deviation_in, step, nodes-most}
use Rattle.safety_laws.proofs.Words.{HearsFrame, node_slot, entry_made, StandsBy, joined_standing, IsStartHeard}
use Rattle.safety_laws.proofs.Words.{slots_since, slots_on, waiting_phase, Waits, starter_standing, joined_on_start}
use Rattle.safety_laws.proofs.Words.{HoldsGroup}
use Rattle.ttp_world.specs.declared.node.Ack.TheVariants as ack
use Rattle.ttp_world.specs.declared.node.Entry.TheVariants as entry
use Rattle.ttp_world.specs.declared.node.Phase.TheVariants as phase
use Rattle.ttp_world.specs.Starts.{StartsAlone}
use Rattle.ttp_world.proofs.MemberSets.{members_after-Started}
use Rattle.safety_laws.specs.Standing.{Standing}
use Rattle.safety_laws.specs.Start.{IsStartedBy}
use Rattle.safety_laws.proofs.Hearing.{HearsFrame-kept}
use Rattle.safety_laws.proofs.Joins.{AreNodes-only, joinable-cold_start}
use Rattle.safety_laws.proofs.Listening.{notes-begun, joined-place}
use Rattle.safety_laws.proofs.NodeSlots.{node_past-step, frames_of-made}
use Rattle.safety_laws.proofs.Senders.{frames_in-one}
use Rattle.safety_laws.proofs.Waiting.{act-waiting, is_start_due-early, waiting_act, node_frames-waiting, phase_of_some}
use Rattle.safety_laws.proofs.Waiting.{WaitAll}
use Rattle.safety_laws.proofs.Groups.{holds-by}

-- The starter.

-- when a node would start on a silent bus, where it may
record DueParts (may : Bool) (on : Option ℕ) (n k slot : ℕ) : Type 0 where
  pub may_is : may ≡ true
  pub at : ℕ
  pub on_is : on ≡ Some at
  pub slot_is : at + 2 * n + k ≡ slot

due_parts : (may : Bool) (on : Option ℕ) (n k slot : ℕ)
    → (if may then option_map (λ on. on + 2 * n + k) on else None) ≡ Some slot → DueParts may on n k slot
due_parts true (Some on) n k slot due = record { may_is = refl; at = on; on_is = refl; slot_is = same_Some _ _ due }
due_parts true None n k slot due = cc
due_parts false on n k slot due = cc

-- has waited for as many slots as its limit says
waited_long : (list : Medl) (script : Script) (k slot : ℕ) → start_slot list script k ≡ Some slot
    → slots_on script k slot ≡ 2 * length list.slots + k
waited_long list script k slot due =
    let parts = due_parts (may_start list k) (on_slot script k) (length list.slots) k slot due in
    ap (slots_since slot) parts.on_is ∙ omega (arith, parts.slot_is)

act-starts : (list : Medl) (script : Script) (slots k : ℕ) (past : NodePast) (on armed : Bool) → IsValid list
    → Waits list script slots k past → start_slot list script k ≡ Some slots → act list k on armed past ≡ Start
act-starts list script slots k past on armed valid waits due =
    let parts = due_parts (may_start list k) (on_slot script k) (length list.slots) k slots due in
    let long = waited_long list script k slots due in
    let some : slots_on script k slots ≡ 1 + (slots_on script k slots - 1) = omega (arith, long, valid.count) in
    let listens : past.phase ≡ phase.Listening =
    waits.phase ∙ ap waiting_phase some ∙ phase_of_some (slots_on script k slots - 1) in
    let reached : nat_le past.limit past.silent_slots ≡ true =
    le-leb past.limit past.silent_slots (omega (arith, waits.limit, waits.silent_slots, long)) in
    ap (λ (p : Phase). phase_act p list k on armed past) listens
    ∙ (λ i. cond (parts.may_is i && reached i) Start Listen)

-- no node would start before it
pub first_due : (list : Medl) (script : Script) (start : ClusterStart) → StartsAlone list script start
    → (k slot : ℕ) → k < length list.slots → start_slot list script k ≡ Some slot → start.slot ≤ slot
first_due list script start alone k slot node due = elim (cases_eq k start.node) [
  | inl same ↦
      let at = same_Some _ _ (sym alone.due ∙ ap (start_slot list script) (sym same) ∙ due) in
      omega (arith, at)
  | inr other ↦ let later = alone.others k slot node other due in omega (arith, later)
]

-- What a start leaves.

stands-started : (list : Medl) (k : ℕ) (past : NodePast) (s : SlotSurroundings) → IsValid list → k < length list.slots
    → StandsBy (past_after list k past entry.Started s) entry.Started (starter_standing list k)
stands-started list k past s valid node =
    let few = nodes-most list valid in
    record {
      phase = refl;
      entry = refl;
      place = refl;
      members = sym (members_after-Started list k past.members past.ack node few)
          ∙ with_node-nil k (omega (arith, few));
      accepted = refl;
      rejected = refl;
      ack = refl;
      cold_start = refl;
      notes = notes-begun list (start_place k) entry.Started past.notes;
    }

-- by what a node stands by it has begun
begun-by : (list : Medl) (p k : ℕ) (past : NodePast) (e : Entry) (now : Standing) → AreNodes list (p ∷ [])
    → now.place ≡ start_place p → now.members ≡ p ∷ [] → ((k ≡ p) × (now.ack ≡ ack.First)) ⊎ (now.ack ≡ ack.Closed)
    → StandsBy past e now → IsStartedBy list p k past
begun-by list p k past e now nodes place members how stands = record {
  phase = stands.phase;
  place = stands.place ∙ place;
  group = by how;
}
  where
    by : ((k ≡ p) × (now.ack ≡ ack.First)) ⊎ (now.ack ≡ ack.Closed) → HoldsGroup list k (p ∷ []) past
    by (inl own) =
        holds-by list k (p ∷ []) past ack.First (stands.ack ∙ own.1) nodes (stands.members ∙ members)
        (λ opened. ap (λ b. b || false) (eq-eqb p k (sym own.0))) tt
    by (inr closed) =
        holds-by list k (p ∷ []) past ack.Closed (stands.ack ∙ closed) nodes (stands.members ∙ members)
        (λ opened. absurd (false≢true opened)) tt

-- The slot after a history in which all wait.

module _ (list : Medl) (script : Script) (start : ClusterStart) (history : History) (chosen : List Chosen)
    (valid : IsValid list) (alone : StartsAlone list script start) (all : WaitAll list script history)
    (now : length history ≡ start.slot) where
  due_now : start_slot list script start.node ≡ Some (length history)
  due_now = alone.due ∙ ap Some (sym now)

  act-starter : act list start.node (is_on script start.node (length history))
      (is_armed script start.node (length history)) (node_past list script history start.node) ≡ Start
  act-starter =
      act-starts list script (length history) start.node (node_past list script history start.node) _ _ valid
      (all start.node alone.node) due_now

  act-other : (k : ℕ) → k < length list.slots → k ≢ start.node
      → act list k (is_on script k (length history)) (is_armed script k (length history))
      (node_past list script history k) ≡ waiting_act (is_on script k (length history))
  act-other k node other =
      let past = node_past list script history k in
      act-waiting list script (length history) k past (is_armed script k (length history)) (all k node)
      (is_start_due-early list script (length history) k past valid (all k node)
      (λ slot due. let later = alone.others k slot node other due in omega (arith, now, later)))

  frames-start : frames_in (slot_after list script history) chosen
      ≡ record { sender = start.node; bytes = cold_start_frame list start.node } ∷ []
  frames-start =
      frames_in-one (slot_after list script history) chosen start.node alone.node
      (λ k node other. frames_of-made list script history chosen k node
      ∙ ap (node_frames list k (node_past list script history k) (chosen_of chosen k)) (act-other k node other)
      ∙ node_frames-waiting list k (node_past list script history k) (chosen_of chosen k)
      (is_on script k (length history))) ∙ frames_of-made list script history chosen start.node alone.node
      ∙ ap (node_frames list start.node (node_past list script history start.node) (chosen_of chosen start.node))
      act-starter

  -- the starter
  pub starter-stands : StandsBy (node_past list script (step list script history chosen) start.node) entry.Started
      (starter_standing list start.node)
  starter-stands =
      let x = node_slot list script history chosen start.node in
      let made : entry_made x ≡ entry.Started =
      ap (λ (a : Act). new_entry list start.node x.past x.chosen x.hearing a) act-starter in
      subst (λ (after : NodePast). StandsBy after entry.Started (starter_standing list start.node))
      (ap (λ (e : Entry). past_after list start.node x.past e x.around) (sym made)
      ∙ sym (node_past-step list script history chosen start.node alone.node))
      (stands-started list start.node x.past x.around valid alone.node)

  -- a node that is on by then
  pub joiner-stands : IsStartHeard list script start → (k : ℕ) → k < length list.slots → k ≢ start.node
      → is_on script k start.slot ≡ true →
      let deviation = deviation_in (slot_after list script history) k start.node in
      StandsBy (node_past list script (step list script history chosen) k) (joined_on_start start.node deviation)
      (joined_standing list (start_place start.node) (start.node ∷ []) deviation)
  joiner-stands heard k node other on =
      let s = slot_after list script history in
      let x = node_slot list script history chosen k in
      let deviation = deviation_in s k start.node in
      let parts = due_parts (may_start list start.node) (on_slot script start.node) (length list.slots) start.node
      start.slot alone.due in
      let hears : HearsFrame (record { sender = start.node; bytes = cold_start_frame list start.node }) x.hearing =
      HearsFrame-kept s (frames_in s chosen) _ k frames-start
      (λ c. ap (flipped_bits script start.node c) now ∙ heard.unflipped c)
      (ap (λ n. loses script start.node n k) now ∙ heard.kept k node other on) in
      subst (λ (after : NodePast). StandsBy after (joined_on_start start.node deviation)
      (joined_standing list (start_place start.node) (start.node ∷ []) deviation))
      (sym (node_past-step list script history chosen k node)) (joined-place x start.node (start_place start.node)
      (start.node ∷ []) (act-other k node other ∙ ap waiting_act (ap (is_on script k) now ∙ on)) (record {
        bytes = cold_start_frame list start.node;
        comes = hears;
        can = joinable-cold_start list start.node valid alone.node parts.may_is;
        nodes = AreNodes-only list start.node valid alone.node;
      }))

  -- and one that is not
  pub off-stays : (k : ℕ) → k < length list.slots → k ≢ start.node → is_on script k start.slot ≡ false
      → (node_past list script (step list script history chosen) k).phase ≡ phase.Off
  off-stays k node other off =
      let x = node_slot list script history chosen k in
      ap (λ (after : NodePast). after.phase) (node_past-step list script history chosen k node)
      ∙ ap (λ (a : Act). phase_after (new_entry list k x.past x.chosen x.hearing a))
      (act-other k node other ∙ ap waiting_act (ap (is_on script k) now ∙ off))

  -- So all that are on have begun together.
  pub has-begun : IsStartHeard list script start → (k : ℕ) → k < length list.slots → is_on script k start.slot ≡ true
      → IsStartedBy list start.node k (node_past list script (step list script history chosen) k)
  has-begun heard k node on = elim (cases_eq k start.node) [
    | inl same ↦
        subst (λ j. IsStartedBy list start.node j (node_past list script (step list script history chosen) j))
        (sym same)
        (begun-by list start.node start.node _ entry.Started (starter_standing list start.node)
        (AreNodes-only list start.node valid alone.node) refl refl (inl (refl, refl)) starter-stands)
    | inr other ↦
        begun-by list start.node k _ _ (joined_standing list (start_place start.node) (start.node ∷ [])
        (deviation_in (slot_after list script history) k start.node)) (AreNodes-only list start.node valid alone.node)
        refl refl (inr refl) (joiner-stands heard k node other on)
  ]
