-- A listening node in a slot: it waits, or joins, and sends nothing.
use Rattle.safety_laws.proofs.Words.{◌≡◌, ℕ, ◌+◌, ◌*◌, ◌<◌, true, false, cond, ◌&&◌, ◌||◌, List, [], ◌∷◌, ◌++◌, length}
use Rattle.safety_laws.proofs.Words.{refl, ap, sym, ◌∙◌, subst, ℤ, ◌==◌, or-true, and_right, lt-leb, append-nil, Medl}
use Rattle.safety_laws.proofs.Words.{Act, Gone, Listen, Start, Chosen, Entry, Phase, Script, phase_act, past_after}
use Rattle.safety_laws.proofs.Words.{notes_in, node_frames, new_entry, listening_entry, Diary, History}
use Rattle.safety_laws.proofs.Words.{SlotSurroundings, Place, diary_of, cstate_at, SentFrame, Signal, surroundings_of}
use Rattle.safety_laws.proofs.Words.{may_start, AreNodes, NodePast, Hearing, node_past, slot_after, HearsFrame, OnBoth}
use Rattle.safety_laws.proofs.Words.{OnA, OnB, HearsNoFrame, HearsSilence, ListensInSlot, HearsPlace, HearsNoPlace}
use Rattle.safety_laws.proofs.Words.{NodeSlot, node_slot, frames_made, entry_made, next_past, StandsBy, joined_on}
use Rattle.safety_laws.proofs.Words.{joined_standing, HasWaited}
use Rattle.ttp_world.specs.declared.node.Entry.TheVariants as entry
use Rattle.ttp_world.specs.declared.node.Phase.TheVariants as phase
use Rattle.ttp_world.specs.Diary.{Surroundings, phase_of}
use Rattle.ttp_world.specs.Medium.{is_silence}
use Rattle.ttp_world.specs.Past.{limit_of, silent_slots_of}
use Rattle.ttp_world.proofs.Silences.{is_silent_to-row_in}
use Rattle.safety_laws.proofs.Joins.{listening_entry-joins, listening_entry-waits, listening_entry-passes}

-- Who listens: a node that has left and is armed, and a listening node that has not waited for as long as it is to.

pub listens-armed : (x : NodeSlot) → x.past.phase ≡ phase.Left → x.armed ≡ true → ListensInSlot x
listens-armed x left armed =
    ap (λ (p : Phase). phase_act p x.list x.node x.on x.armed x.past) left ∙ ap (λ b. cond b Listen Gone) armed

pub listens-early : (x : NodeSlot) → x.past.phase ≡ phase.Listening → x.past.silent_slots < x.past.limit
    → ListensInSlot x
listens-early x listens early =
    ap (λ (p : Phase). phase_act p x.list x.node x.on x.armed x.past) listens
    ∙ ap (λ b. cond (may_start x.list x.node && b) Start Listen) (lt-leb x.past.limit x.past.silent_slots early)
    ∙ ap (λ b. cond b Start Listen) (and_right (may_start x.list x.node) false refl)

-- A node that has left has waited in no slot, and withdrew no cold start since it left.

left-waited : (list : Medl) (k : ℕ) (diary : Diary) (surroundings : Surroundings) → phase_of diary ≡ phase.Left
    → (silent_slots_of diary surroundings ≡ 0) × (limit_of list k diary ≡ 2 * length list.slots + k)
left-waited list k (entry.Left why peer ∷ diary) surroundings left = (refl, refl)
left-waited list k (entry.Gone ∷ diary) surroundings left = (refl, refl)
left-waited list k _ surroundings left = cc

pub left-world : (list : Medl) (script : Script) (history : History) (k : ℕ)
    → (node_past list script history k).phase ≡ phase.Left → ((node_past list script history k).silent_slots ≡ 0)
    × ((node_past list script history k).limit ≡ 2 * length list.slots + k)
left-world list script history k left = left-waited list k (diary_of history k) (surroundings_of script history k) left

-- What comes is silence on both channels or not.

pub around-silent : (list : Medl) (script : Script) (history : History) (chosen : List Chosen) (k : ℕ) →
    let x = node_slot list script history chosen k in
    x.around.is_silent ≡ (is_silence x.hearing.a && is_silence x.hearing.b)
around-silent list script history chosen k = is_silent_to-row_in (slot_after list script history) chosen k

pub silence-silent : (h : Hearing) → HearsSilence h → (is_silence h.a && is_silence h.b) ≡ true
silence-silent h silent = λ i. is_silence (silent.a i) && is_silence (silent.b i)

pub frame-silent : (h : Hearing) (sent : SentFrame) → HearsFrame sent h → (is_silence h.a && is_silence h.b) ≡ false
frame-silent h sent (OnBoth a b) = ap (λ (s : Signal). is_silence s && is_silence h.b) a
frame-silent h sent (OnA a less) = ap (λ (s : Signal). is_silence s && is_silence h.b) a
frame-silent h sent (OnB less b) =
    ap (λ (s : Signal). is_silence h.a && is_silence s) b ∙ and_right (is_silence h.a) false refl

-- What a listening node makes of the slot.

pub frames_made-listening : (x : NodeSlot) → ListensInSlot x → frames_made x ≡ []
frames_made-listening x listens = ap (node_frames x.list x.node x.past x.chosen) listens

entry_made-listening : (x : NodeSlot) → ListensInSlot x → listening_entry x.list x.hearing ≡ entry_made x
entry_made-listening x listens = ap (λ (a : Act). new_entry x.list x.node x.past x.chosen x.hearing a) (sym listens)

pub waited-by_entry : (x : NodeSlot) → ListensInSlot x → listening_entry x.list x.hearing ≡ entry.Waited → HasWaited x
waited-by_entry x listens waits =
    let made : entry_made x ≡ entry.Waited = sym (entry_made-listening x listens) ∙ waits in
    let after : next_past x ≡ past_after x.list x.node x.past entry.Waited x.around =
    ap (λ (e : Entry). past_after x.list x.node x.past e x.around) made in
    record {
      phase = ap (λ (p : NodePast). p.phase) after;
      silent_slots = ap (λ (p : NodePast). p.silent_slots) after;
      limit = ap (λ (p : NodePast). p.limit) after;
    }

pub waited-none : (x : NodeSlot) → ListensInSlot x → HearsNoFrame x.hearing → HasWaited x
waited-none x listens none = waited-by_entry x listens (listening_entry-waits x.list x.hearing none)

pub waited-passing : (x : NodeSlot) (sender : ℕ) → ListensInSlot x → HearsNoPlace x sender → HasWaited x
waited-passing x sender listens hears =
    waited-by_entry x listens (listening_entry-passes x.list x.hearing _ hears.comes hears.can_not)

-- what a stint that has just begun has noted
pub notes-begun : (list : Medl) (place : Place) (e : Entry) (notes : List ℤ)
    → notes_in list place e ++ cond ((place.slot == 0) || true) [] notes ≡ notes_in list place e
notes-begun list place e notes =
    ap (λ b. notes_in list place e ++ cond b [] notes) (or-true (place.slot == 0)) ∙ append-nil (notes_in list place e)

stands-joined : (list : Medl) (k : ℕ) (place : Place) (members : List ℕ) (deviation : ℤ) (past : NodePast)
    (s : SlotSurroundings) → AreNodes list members →
    let e = joined_on place members deviation in
    StandsBy (past_after list k past e s) e (joined_standing list place members deviation)
stands-joined list k place members deviation past s nodes = record {
  phase = refl;
  entry = refl;
  place = refl;
  members = sym nodes;
  accepted = refl;
  rejected = refl;
  ack = refl;
  cold_start = refl;
  notes = notes-begun list place (joined_on place members deviation) past.notes;
}

pub joined-place : (x : NodeSlot) (sender : ℕ) (place : Place) (members : List ℕ) → ListensInSlot x
    → HearsPlace x sender place members →
    let deviation = x.hearing.deviation sender in
    StandsBy (next_past x) (joined_on place members deviation) (joined_standing x.list place members deviation)
joined-place x sender place members listens hears =
    let deviation = x.hearing.deviation sender in
    let e = joined_on place members deviation in
    subst (λ (made : Entry). StandsBy (past_after x.list x.node x.past made x.around) e
    (joined_standing x.list place members deviation))
    (sym (listening_entry-joins x.list x.hearing _ (cstate_at place members) hears.comes hears.can)
    ∙ entry_made-listening x listens) (stands-joined x.list x.node place members deviation x.past x.around hears.nodes)
