-- Until some node's limit is reached, each node is off or listens in silence.
use Rattle.safety_laws.proofs.Words.{◌≡◌, ◌≢◌, ℕ, suc, ◌+◌, ◌*◌, ◌<◌, ◌≤◌, Bool, true, false, cond, ◌&&◌, List, [], ◌∷◌}
use Rattle.safety_laws.proofs.Words.{length, Option, Some, None, option_map, refl, ap, sym, ◌∙◌, subst, arith, ◌==◌}
use Rattle.safety_laws.proofs.Words.{nat_le, if◌then◌else◌, ne_eqb, lt-leb, le-leb, leb-true, Medl, Act, Off, Listen}
use Rattle.safety_laws.proofs.Words.{Start, Chosen, Entry, Phase, Script, act, phase_act, past_after, node_frames}
use Rattle.safety_laws.proofs.Words.{new_entry, History, start_slot, may_start, IsValid, NodePast, on_slot, is_on}
use Rattle.safety_laws.proofs.Words.{is_armed, Numbers, node_past, slot_after, chosen_of, frames_in, step, world}
use Rattle.safety_laws.proofs.Words.{messages_chosen, length-world, is_frameless, HearsSilence, NodeSlot, node_slot}
use Rattle.safety_laws.proofs.Words.{act_made, entry_made, next_past, HasWaited, slots_since, slots_on, waiting_phase}
use Rattle.safety_laws.proofs.Words.{Waits}
use Rattle.std.proofs.lemmas.Bool.{eqb-false, leb-false}
use Rattle.ttp_world.specs.declared.node.Entry.TheVariants as entry
use Rattle.ttp_world.specs.declared.node.Phase.TheVariants as phase
use Rattle.ttp_world.specs.Act.{is_start_due}
use Rattle.ttp_world.specs.Script.{has_come}
use Rattle.safety_laws.proofs.Hearing.{HearsSilence-none}
use Rattle.safety_laws.proofs.Listening.{around-silent, silence-silent, waited-none}
use Rattle.safety_laws.proofs.NodeSlots.{node_past-step, frames_of-made}
use Rattle.safety_laws.proofs.Senders.{frames_in-none}

-- What a waiting node does.

-- no limit is reached where the slot of a start on a silent bus comes later
not_due : (may : Bool) (on : Option ℕ) (n k slots limit silent : ℕ) → 0 < n → limit ≡ 2 * n + k
    → silent ≡ slots_since slots on
    → ((slot : ℕ) → (if may then option_map (λ on. on + 2 * n + k) on else None) ≡ Some slot → slots < slot)
    → (may && nat_le limit silent) ≡ false
not_due false on n k slots limit silent some limited silence later = refl
not_due true None n k slots limit silent some limited silence later =
    lt-leb limit silent (omega (arith, limited, silence))
not_due true (Some on) n k slots limit silent some limited silence later =
    let before : slots < on + 2 * n + k = later _ refl in
    lt-leb limit silent (omega (arith, limited, silence))

-- a node that has waited in some slots is on
on_since : (slots : ℕ) (on : Option ℕ) → slots_since slots on ≢ 0 → has_come slots on ≡ true
on_since slots None some = absurd (some refl)
on_since slots (Some on) some = le-leb on slots (omega (arith, some))

-- by whether it is on
abbrev pub waiting_act : Bool → Act
waiting_act on = cond on Listen Off

phase_act-waiting : (list : Medl) (k : ℕ) (past : NodePast) (slots : ℕ) (on : Option ℕ) (armed none : Bool)
    → (slots_since slots on == 0) ≡ none → is_start_due list k past ≡ false
    → phase_act (cond none phase.Off phase.Listening) list k (has_come slots on) armed past
    ≡ waiting_act (has_come slots on)
phase_act-waiting list k past slots on armed true none early = refl
phase_act-waiting list k past slots on armed false some early =
    ap (λ due. cond due Start Listen) early
    ∙ sym (ap waiting_act (on_since slots on (λ zero_is. eqb-false (slots_since slots on) 0 some zero_is)))

pub act-waiting : (list : Medl) (script : Script) (slots k : ℕ) (past : NodePast) (armed : Bool)
    → Waits list script slots k past → is_start_due list k past ≡ false
    → act list k (is_on script k slots) armed past ≡ waiting_act (is_on script k slots)
act-waiting list script slots k past armed waits early =
    ap (λ (p : Phase). phase_act p list k (is_on script k slots) armed past) waits.phase
    ∙ phase_act-waiting list k past slots (on_slot script k) armed (slots_on script k slots == 0) refl early

pub is_start_due-early : (list : Medl) (script : Script) (slots k : ℕ) (past : NodePast) → IsValid list
    → Waits list script slots k past
    → ((slot : ℕ) → start_slot list script k ≡ Some slot → slots < slot) → is_start_due list k past ≡ false
is_start_due-early list script slots k past valid waits later =
    not_due (may_start list k) (on_slot script k) (length list.slots) k slots past.limit past.silent_slots
    (omega (arith, valid.count)) waits.limit waits.silent_slots later

-- it sends nothing
pub node_frames-waiting : (list : Medl) (k : ℕ) (past : NodePast) (chosen : Chosen) (on : Bool)
    → node_frames list k past chosen (waiting_act on) ≡ []
node_frames-waiting list k past chosen true = refl
node_frames-waiting list k past chosen false = refl

-- One slot more.

-- where a node is on in a slot, it is on in one slot more
slots_since-on : (slots : ℕ) (on : Option ℕ) → has_come slots on ≡ true
    → slots_since (suc slots) on ≡ 1 + slots_since slots on
slots_since-on slots None come = cc
slots_since-on slots (Some on) come = let before = leb-true on slots come in omega (arith, before)

slots_since-off : (slots : ℕ) (on : Option ℕ) → has_come slots on ≡ false → slots_since (suc slots) on ≡ 0
slots_since-off slots None come = refl
slots_since-off slots (Some on) come = let after = leb-false on slots come in omega (arith, after)

pub phase_of_some : (slots : ℕ) → waiting_phase (1 + slots) ≡ phase.Listening
phase_of_some slots =
    let some : (1 + slots == 0) ≡ false = ne_eqb (1 + slots) 0 (λ same. omega (arith, same)) in
    ap (λ b. cond b phase.Off phase.Listening) some

-- by whether the node is on
waits_on : (x : NodeSlot) (script : Script) (slots : ℕ) → Waits x.list script slots x.node x.past
    → is_on script x.node slots ≡ true → x.around.is_silent ≡ true → HasWaited x
    → Waits x.list script (suc slots) x.node (next_past x)
waits_on x script slots waits on silent waited =
    let more : slots_on script x.node (suc slots) ≡ 1 + slots_on script x.node slots =
    slots_since-on slots (on_slot script x.node) on in
    record {
      phase = waited.phase ∙ sym (ap waiting_phase more ∙ phase_of_some (slots_on script x.node slots));
      silent_slots = waited.silent_slots ∙ ap (λ b. cond b (1 + x.past.silent_slots) 0) silent
          ∙ ap (λ n. 1 + n) waits.silent_slots ∙ sym more;
      limit = waited.limit ∙ waits.limit;
    }

waits_off : (x : NodeSlot) (script : Script) (slots : ℕ) → Waits x.list script slots x.node x.past
    → is_on script x.node slots ≡ false
    → Waits x.list script (suc slots) x.node (past_after x.list x.node x.past entry.Off x.around)
waits_off x script slots waits off =
    let none : slots_on script x.node (suc slots) ≡ 0 = slots_since-off slots (on_slot script x.node) off in
    record { phase = sym (ap waiting_phase none); silent_slots = sym none; limit = waits.limit }

waits_after : (x : NodeSlot) (script : Script) (slots : ℕ) (on : Bool) → Waits x.list script slots x.node x.past
    → is_on script x.node slots ≡ on → act_made x ≡ waiting_act on → HearsSilence x.hearing
    → x.around.is_silent ≡ true → Waits x.list script (suc slots) x.node (next_past x)
waits_after x script slots true waits on does silent around =
    waits_on x script slots waits on around
    (waited-none x does (record { a = ap is_frameless silent.a; b = ap is_frameless silent.b }))
waits_after x script slots false waits off does silent around =
    let made : entry.Off ≡ entry_made x =
    sym (ap (λ (a : Act). new_entry x.list x.node x.past x.chosen x.hearing a) does) in
    subst (λ (e : Entry). Waits x.list script (suc slots) x.node (past_after x.list x.node x.past e x.around)) made
    (waits_off x script slots waits off)

-- The whole cluster.

-- after a history each node waits
abbrev pub WaitAll : Medl → Script → History → Type 0
WaitAll list script history =
    (k : ℕ) → k < length list.slots → Waits list script (length history) k (node_past list script history k)

-- no node's limit is reached in the slot after it
abbrev pub IsEarly : Medl → Script → ℕ → Type 0
IsEarly list script slots = (k slot : ℕ) → k < length list.slots → start_slot list script k ≡ Some slot → slots < slot

module _ (list : Medl) (script : Script) (history : History) (valid : IsValid list)
    (all : WaitAll list script history) (early : IsEarly list script (length history)) where
  act-waits : (k : ℕ) → k < length list.slots
      → act list k (is_on script k (length history)) (is_armed script k (length history))
      (node_past list script history k) ≡ waiting_act (is_on script k (length history))
  act-waits k node =
      let past = node_past list script history k in
      act-waiting list script (length history) k past (is_armed script k (length history)) (all k node)
      (is_start_due-early list script (length history) k past valid (all k node) (λ slot. early k slot node))

  frames-waits : (chosen : List Chosen) → frames_in (slot_after list script history) chosen ≡ []
  frames-waits chosen =
      frames_in-none (slot_after list script history) chosen (λ k node. frames_of-made list script history chosen k node
      ∙ ap (node_frames list k (node_past list script history k) (chosen_of chosen k)) (act-waits k node)
      ∙ node_frames-waiting list k (node_past list script history k) (chosen_of chosen k)
      (is_on script k (length history)))

  silent-waits : (chosen : List Chosen) (k : ℕ) → (node_slot list script history chosen k).around.is_silent ≡ true
  silent-waits chosen k =
      let s = slot_after list script history in
      around-silent list script history chosen k
      ∙ silence-silent _ (HearsSilence-none s (frames_in s chosen) k (frames-waits chosen))

  pub WaitAll-step : (chosen : List Chosen) → WaitAll list script (step list script history chosen)
  WaitAll-step chosen k node =
      let s = slot_after list script history in
      subst (Waits list script (suc (length history)) k) (sym (node_past-step list script history chosen k node))
      (waits_after (node_slot list script history chosen k) script (length history) (is_on script k (length history))
      (all k node) refl (act-waits k node) (HearsSilence-none s (frames_in s chosen) k (frames-waits chosen))
      (silent-waits chosen k))

-- From the first slot on.

slots_since-zero : (on : Option ℕ) → slots_since 0 on ≡ 0
slots_since-zero None = refl
slots_since-zero (Some on) = omega arith

Waits-first : (list : Medl) (script : Script) (k : ℕ) → Waits list script 0 k (node_past list script [] k)
Waits-first list script k =
    let none = slots_since-zero (on_slot script k) in
    record { phase = sym (ap waiting_phase none); silent_slots = sym none; limit = refl }

pub WaitAll-world : (list : Medl) (script : Script) (slots : ℕ) (numbers : Numbers) → IsValid list
    → ((k slot : ℕ) → k < length list.slots → start_slot list script k ≡ Some slot → slots ≤ slot)
    → length numbers ≤ slots → WaitAll list script (world list script numbers)
WaitAll-world list script slots [] valid first few = λ k node. Waits-first list script k
WaitAll-world list script slots (new ∷ numbers) valid first few =
    let history = world list script numbers in
    let long = length-world list script numbers in
    let fewer : length numbers < slots = omega arith in
    WaitAll-step list script history valid (WaitAll-world list script slots numbers valid first (omega arith))
    (λ k slot node due. let from = first k slot node due in omega (arith, long, fewer, from))
    (messages_chosen list script (length numbers) new.sent)
