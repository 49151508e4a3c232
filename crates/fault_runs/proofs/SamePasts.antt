-- A history under two scripts that differ in what is lost alone, in slots in which nobody waits: what is read of a
-- node's past is the same.
use Rattle.std.proofs.Common.{◌≡◌, ℕ, ◌+◌, ◌+ℤ◌, ◌-ℤ◌, ℤ, true, false, List, [], ◌∷◌, length, get_or, refl, ap, ◌∙◌}
use Rattle.std.specs.Prelude.{map}
use Rattle.ttp_base.specs.NodeSet.{below}
use Rattle.ttp_world.specs.declared.medl.Medl.{Medl}
use Rattle.ttp_world.specs.declared.node.Chosen.{Chosen}
use Rattle.ttp_world.specs.declared.node.Entry.{Entry}
use Rattle.ttp_world.specs.declared.node.Entry.TheVariants as entry
use Rattle.ttp_world.specs.declared.script.Channel.TheVariants as channel
use Rattle.ttp_world.specs.declared.script.Script.{Script}
use Rattle.ttp_world.specs.Act.{act}
use Rattle.ttp_world.specs.Clock.{correction_of, join_deviation, offset_of, slot_change}
use Rattle.ttp_world.specs.Conduct.{new_entry}
use Rattle.ttp_world.specs.Diary.{Diary, History, SlotSurroundings, Surroundings, diary_of, entry_of}
use Rattle.ttp_world.specs.Medium.{heard, surroundings_in, surroundings_of}
use Rattle.ttp_world.specs.Past.{silent_slots_of}
use Rattle.ttp_world.specs.World.{chosen_of, frames_in, hearing_in, jump_taken, no_node, node_after, node_past, row_in}
use Rattle.ttp_world.specs.World.{slot_after, step}
use Rattle.controller.specs.Agreement.{SayAlike}
use Rattle.fault_runs.proofs.FromBelow.{armed-same, error-same, heard-same, jump-same}
use Rattle.fault_runs.specs.Merging.{is_waiting}

-- What came from outside is the same for a node that made this entry, but for a silence that it did not count.
pub record IsNear (e : Entry) (one other : SlotSurroundings) : Type 0 where
  pub jump : one.jump ≡ other.jump
  pub drift : one.drift ≡ other.drift
  pub silent : is_waiting e ≡ true → one.is_silent ≡ other.is_silent

-- In each slot of a history, what comes to node k from outside is near under both scripts.
abbrev pub AreNear : Script → Script → ℕ → History → Type 0
AreNear one other k [] = Unit {0}
AreNear one other k (row ∷ history) =
    IsNear (entry_of row k) (surroundings_in one (length history) row k) (surroundings_in other (length history) row k)
    × AreNear one other k history

change-near : (e : Entry) (s t : SlotSurroundings) (corrected : ℤ) → s.jump ≡ t.jump → s.drift ≡ t.drift
    → slot_change e s corrected ≡ slot_change e t corrected
change-near entry.Off s t corrected jump drift = refl
change-near e s t corrected jump drift = λ i. jump i +ℤ (drift i +ℤ (join_deviation e +ℤ corrected))

silent-near : (e : Entry) (diary : Diary) (s t : SlotSurroundings) (ss ts : Surroundings) → IsNear e s t
    → silent_slots_of diary ss ≡ silent_slots_of diary ts
    → silent_slots_of (e ∷ diary) (s ∷ ss) ≡ silent_slots_of (e ∷ diary) (t ∷ ts)
silent-near entry.Waited diary s t ss ts near rest =
    λ i. elim (near.silent refl i) [ true ↦ 1 + rest i | false ↦ 0 ]
silent-near _ diary s t ss ts near rest = refl

module _ (list : Medl) (one other : Script) where
  offsets-near : (history : History) (k : ℕ) → AreNear one other k history
      → offset_of list k (diary_of history k) (surroundings_of one history k)
      ≡ offset_of list k (diary_of history k) (surroundings_of other history k)
  offsets-near [] k near = refl
  offsets-near (row ∷ history) k near =
      let e = entry_of row k in
      let rest = offsets-near history k near.1 in
      let change =
      change-near e (surroundings_in one (length history) row k) (surroundings_in other (length history) row k)
      (correction_of list k (e ∷ diary_of history k)) near.0.jump near.0.drift in
      λ i. rest i +ℤ change i

  silences-near : (history : History) (k : ℕ) → AreNear one other k history
      → silent_slots_of (diary_of history k) (surroundings_of one history k)
      ≡ silent_slots_of (diary_of history k) (surroundings_of other history k)
  silences-near [] k near = refl
  silences-near (row ∷ history) k near =
      silent-near (entry_of row k) (diary_of history k) (surroundings_in one (length history) row k)
      (surroundings_in other (length history) row k) (surroundings_of one history k) (surroundings_of other history k)
      near.0 (silences-near history k near.1)

  pub past-near : (history : History) (k : ℕ) → AreNear one other k history
      → node_past list one history k ≡ node_past list other history k
  past-near history k near =
      let offset = offsets-near history k near in
      let silent = silences-near history k near in
      λ i. record (node_past list one history k) { silent_slots = silent i; offset = offset i }

  -- One slot more, of which both scripts say alike: what a node is after it does not differ.
  module _ (history : History) (chosen : List Chosen)
      (pasts : (k : ℕ) → node_past list one history k ≡ node_past list other history k)
      (now : (k : ℕ) → SayAlike one other k (length history)) where
    node_after-near : (k : ℕ) → node_after list one history k ≡ node_after list other history k
    node_after-near k =
        let past = pasts k in
        let armed = armed-same now k in
        let jump = jump-same now k in
        λ i.
        let does = act list k ((now k).on i) (armed i) (past i) in
        record { past = past i; act = does; clock = (past i).offset +ℤ jump_taken does (jump i) }

    nodes-near : (slot_after list one history).nodes ≡ (slot_after list other history).nodes
    nodes-near = λ i. map (λ (k : ℕ). node_after-near k i) (below (length list.slots))

    frames-near : frames_in (slot_after list one history) chosen ≡ frames_in (slot_after list other history) chosen
    frames-near = λ i. frames_in
        (record { list = list; script = one; number = length history; nodes = nodes-near i }) chosen

    hearing-near : (r : ℕ) → hearing_in (slot_after list one history) (frames_in (slot_after list one history) chosen) r
        ≡ hearing_in (slot_after list other history) (frames_in (slot_after list other history) chosen) r
    hearing-near r =
        let frames = frames_in (slot_after list other history) chosen in
        let on_a =
        ap (heard one (length history) r channel.A) frames-near ∙ heard-same now r channel.A frames in
        let on_b =
        ap (heard one (length history) r channel.B) frames-near ∙ heard-same now r channel.B frames in
        let error = error-same now r in
        λ i. record {
          a = on_a i;
          b = on_b i;
          deviation = λ (p : ℕ). ((get_or (nodes-near i) p (no_node list)).clock
              -ℤ (get_or (nodes-near i) r (no_node list)).clock) +ℤ error i;
        }

    row-near : row_in (slot_after list one history) chosen ≡ row_in (slot_after list other history) chosen
    row-near = λ i.
        map (λ (k : ℕ).
        let node = get_or (nodes-near i) k (no_node list) in
        new_entry list k node.past (chosen_of chosen k) (hearing-near k i) node.act) (below (length list.slots))

    pub step-near : step list one history chosen ≡ step list other history chosen
    step-near = ap (λ row. row ∷ history) row-near
