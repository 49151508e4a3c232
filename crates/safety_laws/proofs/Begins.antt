-- Whether a node has left since it was armed last, after one slot more.
use Rattle.safety_laws.proofs.Words.{◌≡◌, ◌≢◌, ℕ, ◌+◌, ◌<◌, ◌≤◌, Bool, true, false, not, ◌&&◌, ◌||◌, [], ◌∷◌, length}
use Rattle.safety_laws.proofs.Words.{refl, ap, sym, subst, ◌∙◌, ◌⊎◌, inl, inr, arith, cond, zero, suc, ◌-◌, List, ◌++◌}
use Rattle.safety_laws.proofs.Words.{Option, Some, None, ◌==◌, cases_eq, eq-eqb, false≢true, both_ways, and_parts}
use Rattle.safety_laws.proofs.Words.{has_node, below, Medl, Ack, Entry, Phase, Script, is_open, has_sent_since_begin}
use Rattle.safety_laws.proofs.Words.{has_sent_in_stint, has_left_since_arm, is_left_after, Diary, phase_after, entry_of}
use Rattle.safety_laws.proofs.Words.{diary_of, is_active, begins_stint, start_place, History, ClusterStart, is_sending}
use Rattle.safety_laws.proofs.Words.{is_left_phase, NodePast, has_ever_sent, is_on, is_armed, SlotNumbers, Numbers}
use Rattle.safety_laws.proofs.Words.{node_past, slot_after, messages_chosen, row_in, world, deviation_in, length-world}
use Rattle.safety_laws.proofs.Words.{FaultPlan, sender, Fate, Absent, Sound, Listening, fate_of, is_sound_after}
use Rattle.safety_laws.proofs.Words.{is_absent, opened, ledger_of, absent-always, HoldsGroup, IsStartHeard}
use Rattle.safety_laws.proofs.Words.{starter_standing, joined_on_start, StandsBy, joined_standing, doubts, is_there}
use Rattle.safety_laws.proofs.Words.{IsCounted, IsSoundAt, IsByFate, IsBegunAlone, HoldsAfter, sound-fate, list_any}
use Rattle.safety_laws.proofs.Words.{range_with_len, same_Some}
use Rattle.std.proofs.Common.{take}
use Rattle.std.specs.Prelude.{reverse, find}
use Rattle.ttp_world.specs.declared.node.Ack.TheVariants as ack
use Rattle.ttp_world.specs.declared.node.Entry.TheVariants as entry
use Rattle.ttp_world.specs.declared.node.Phase.TheVariants as phase
use Rattle.ttp_world.specs.BackSafety.{newest_arm}
use Rattle.ttp_world.specs.BackSafety.{since_slot}
use Rattle.safety_laws.proofs.Members.{first-sender}
use Rattle.safety_laws.proofs.Persists.{sound-first}
use Rattle.safety_laws.proofs.StartSlot.{first_due, starter-stands, joiner-stands, off-stays, has-begun}
use Rattle.safety_laws.proofs.Waiting.{WaitAll, WaitAll-world}
use Rattle.std.proofs.lemmas.List.{length-map, reverse-append}

-- The newest arm line.

range-more : (a n : ℕ) → range_with_len a (suc n) ≡ range_with_len a n ++ (a + n) ∷ []
range-more a zero = ap (λ j. j ∷ []) (omega arith)
range-more a (suc n) =
    ap (λ rest. a ∷ rest) (range-more (a + 1) n ∙ ap (λ j. range_with_len (a + 1) n ++ j ∷ []) (omega arith))

newest_arm-next : (script : Script) (k slots : ℕ)
    → newest_arm script k (suc slots) ≡ cond (is_armed script k slots) (Some slots) (newest_arm script k slots)
newest_arm-next script k slots =
    ap (λ js. find (is_armed script k) (reverse js))
    (range-more 0 slots ∙ ap (λ j. below slots ++ j ∷ []) (omega arith))
    ∙ ap (find (is_armed script k)) (reverse-append (below slots) (slots ∷ []))

newest_arm-less : (script : Script) (k slots slot : ℕ) → newest_arm script k slots ≡ Some slot → slot < slots
newest_arm-less script k zero slot is = cc
newest_arm-less script k (suc slots) slot is = by (is_armed script k slots) refl (newest_arm-less script k slots slot)
  where
    by : (armed : Bool) → is_armed script k slots ≡ armed → (newest_arm script k slots ≡ Some slot → slot < slots)
        → slot < suc slots
    by true armed before =
        let same : slots ≡ slot =
        same_Some _ _ (sym (newest_arm-next script k slots
        ∙ ap (λ b. cond b (Some slots) (newest_arm script k slots)) armed) ∙ is) in
        omega (arith, same)
    by false unarmed before =
        let less = before (sym (newest_arm-next script k slots
        ∙ ap (λ b. cond b (Some slots) (newest_arm script k slots)) unarmed) ∙ is) in
        omega (arith, less)

-- The entries from a slot on.

since-newest : (e : Entry) (diary : Diary) (slot : ℕ) → length diary ≡ slot
    → since_slot (Some slot) (e ∷ diary) ≡ e ∷ []
since-newest e diary slot is =
    let one : suc (length diary) - slot ≡ 1 = omega (arith, is) in
    ap (λ n. take n (e ∷ diary)) one

since-older : (e : Entry) (diary : Diary) (slot : ℕ) → slot < length diary
    → since_slot (Some slot) (e ∷ diary) ≡ e ∷ since_slot (Some slot) diary
since-older e diary slot before =
    let more : suc (length diary) - slot ≡ suc (length diary - slot) = omega (arith, before) in
    ap (λ n. take n (e ∷ diary)) more

-- A node that does not leave in a slot has not left since, if it is armed in the slot or had not before it.
pub left_since-next : (script : Script) (history : History) (row : List Entry) (k : ℕ)
    → is_left_after (entry_of row k) ≡ false
    → (is_armed script k (length history) ≡ false → has_left_since_arm script history k ≡ false)
    → has_left_since_arm script (row ∷ history) k ≡ false
left_since-next script history row k stays before = by (is_armed script k (length history)) refl
  where
    e : Entry
    e = entry_of row k

    diary : Diary
    diary = diary_of history k

    long : length diary ≡ length history
    long = length-map history (λ r. entry_of r k)

    arm-is : (armed : Bool) → is_armed script k (length history) ≡ armed → newest_arm script k (suc (length history))
        ≡ cond armed (Some (length history)) (newest_arm script k (length history))
    arm-is armed is =
        newest_arm-next script k (length history)
        ∙ ap (λ b. cond b (Some (length history)) (newest_arm script k (length history))) is

    older : (slot : Option ℕ) → newest_arm script k (length history) ≡ slot
        → list_any is_left_after (since_slot slot diary) ≡ false
        → list_any is_left_after (since_slot slot (e ∷ diary)) ≡ false
    older None is none = ap (λ b. b || list_any is_left_after diary) stays ∙ none
    older (Some slot) is none =
        let less = newest_arm-less script k (length history) slot is in
        ap (list_any is_left_after) (since-older e diary slot (omega (arith, less, long)))
        ∙ ap (λ b. b || list_any is_left_after (since_slot (Some slot) diary)) stays ∙ none

    by : (armed : Bool) → is_armed script k (length history) ≡ armed
        → has_left_since_arm script (row ∷ history) k ≡ false
    by true armed =
        ap (λ slot. list_any is_left_after (since_slot slot (e ∷ diary))) (arm-is true armed)
        ∙ ap (list_any is_left_after) (since-newest e diary (length history) long) ∙ ap (λ b. b || false) stays
    by false unarmed =
        ap (λ slot. list_any is_left_after (since_slot slot (e ∷ diary))) (arm-is false unarmed)
        ∙ older (newest_arm script k (length history)) refl (before unarmed)

-- After the slot of the start each node is what its fate says.

-- Nobody has sent while all wait.

waiting-off : (none : Bool) → cond none phase.Off phase.Listening ≢ phase.Active
waiting-off true is = cc
waiting-off false is = cc

pub waiting-unleft : (none : Bool) → is_left_phase (cond none phase.Off phase.Listening) ≡ false
waiting-unleft true = refl
waiting-unleft false = refl

inactive-unsent : (e : Entry) → phase_after e ≢ phase.Active → is_sending e ≡ false
inactive-unsent entry.Started inactive = absurd (inactive refl)
inactive-unsent (entry.Sent message) inactive = absurd (inactive refl)
inactive-unsent _ inactive = refl

-- what was sent in a stint was sent
since-ever : (diary : Diary) → has_sent_since_begin diary ≡ true → has_ever_sent diary ≡ true
since-ever [] sent = sent
since-ever (e ∷ diary) sent = by (is_sending e) refl (since-ever diary)
  where
    by : (sends : Bool) → is_sending e ≡ sends → (has_sent_since_begin diary ≡ true → has_ever_sent diary ≡ true)
        → (is_sending e || has_ever_sent diary) ≡ true
    by true sends before = ap (λ b. b || has_ever_sent diary) sends
    by false sends before =
        ap (λ b. b || has_ever_sent diary) sends ∙ before (and_parts (not (begins_stint e)) (has_sent_since_begin diary)
        (sym (ap (λ b. b || (not (begins_stint e) && has_sent_since_begin diary)) sends) ∙ sent)).1

stint-ever : (diary : Diary) → has_sent_in_stint diary ≡ true → has_ever_sent diary ≡ true
stint-ever diary sent = since-ever diary (and_parts (is_active diary) (has_sent_since_begin diary) sent).1

-- Whoever counts one accepted frame and none rejected, by a ledger that has seen none.

settled-ack : (a : Ack) → (a ≡ ack.First) ⊎ (a ≡ ack.Closed) → doubts a ≡ 0
settled-ack a (inl first) = ap doubts first
settled-ack a (inr closed) = ap doubts closed

counted-first : (own : Bool) (past : NodePast) → past.accepted ≡ 1 → past.rejected ≡ 0
    → (is_open past.ack ≡ true → own ≡ true) → (past.cold_start ≡ true → own ≡ true)
    → (past.ack ≡ ack.First) ⊎ (past.ack ≡ ack.Closed) → IsCounted (opened own 0) past
counted-first own past accepted rejected opens cold settles =
    let none = settled-ack past.ack settles in
    record {
      accepted = accepted;
      rejected = omega (arith, rejected, none);
      opened = λ opened. (opens opened, refl);
      cold_start = λ is_cold. (cold is_cold, refl);
    }

no-doubt : (a : Ack) (y : ℕ) → (a ≡ ack.First) ⊎ (a ≡ ack.Closed) → a ≡ ack.Doubt y → ⊥
no-doubt a y (inl first) doubt = cc
no-doubt a y (inr closed) doubt = cc

module _ {list : Medl} {script : Script} {start : ClusterStart} {plan : FaultPlan}
    (is : IsBegunAlone list script start plan)
  where
    start-heard : IsStartHeard list script start
    start-heard = record {
      unflipped = λ c. is.planned.follows.flips start.node start.slot c;
      kept = is.heard;
    }

    wait : (numbers : Numbers) → length numbers ≤ start.slot → WaitAll list script (world list script numbers)
    wait numbers early =
        WaitAll-world list script start.slot numbers is.planned.valid (first_due list script start is.alone) early

    unsent-waiting : (numbers : Numbers) (k : ℕ) → length numbers ≤ start.slot → k < length list.slots
        → has_ever_sent (diary_of (world list script numbers) k) ≡ false
    unsent-waiting [] k early node = refl
    unsent-waiting (new ∷ numbers) k early node =
        let row = row_in (slot_after list script (world list script numbers))
        (messages_chosen list script (length numbers) new.sent) in
        let phase_is = (wait (new ∷ numbers) early k node).phase in
        let unsent : is_sending (entry_of row k) ≡ false =
        inactive-unsent (entry_of row k) (λ active. waiting-off _ (sym phase_is ∙ active)) in
        ap (λ b. b || has_ever_sent (diary_of (world list script numbers) k)) unsent
        ∙ unsent-waiting numbers k (omega (arith, early)) node

    -- and nobody has left
    unleft-waiting : (numbers : Numbers) (k : ℕ) → length numbers ≤ start.slot → k < length list.slots
        → has_left_since_arm script (world list script numbers) k ≡ false
    unleft-waiting [] k early node = refl
    unleft-waiting (new ∷ numbers) k early node =
        let phase_is = (wait (new ∷ numbers) early k node).phase in
        left_since-next script (world list script numbers) _ k
        (ap (λ (p : Phase). is_left_phase p) phase_is ∙ waiting-unleft _)
        (λ unarmed. unleft-waiting numbers k (omega (arith, early)) node)

    -- The slot of the start.
    module _ (new : SlotNumbers) (numbers : Numbers) (now : length numbers ≡ start.slot) where
      -- what a node is after it
      abbrev past : ℕ → NodePast
      past k = node_past list script (world list script (new ∷ numbers)) k

      waited : WaitAll list script (world list script numbers)
      waited = wait numbers (omega (arith, now))

      number : length (world list script numbers) ≡ start.slot
      number = length-world list script numbers ∙ now

      starter-same : plan.starter ≡ start.node
      starter-same = is.planned.follows.starter

      on-first : (k : ℕ) → k < length list.slots → has_node plan.begin k ≡ is_on script k start.slot
      on-first k node =
          let first : start.slot + 0 ≡ start.slot = omega arith in
          is.planned.follows.on 0 k node ∙ ap (is_on script k) first

      sender-first : sender plan 0 ≡ start.node
      sender-first = first-sender plan is.planned.follows.good ∙ starter-same

      pub starter-begun : StandsBy (past start.node) entry.Started (starter_standing list start.node)
      starter-begun =
          starter-stands list script start (world list script numbers)
          (messages_chosen list script (length numbers) new.sent) is.planned.valid is.alone waited number

      pub joiner-begun : (k : ℕ) → k < length list.slots → k ≢ start.node → is_on script k start.slot ≡ true →
          let deviation = deviation_in (slot_after list script (world list script numbers)) k start.node in
          StandsBy (past k) (joined_on_start start.node deviation)
          (joined_standing list (start_place start.node) (start.node ∷ []) deviation)
      joiner-begun k node other on =
          joiner-stands list script start (world list script numbers)
          (messages_chosen list script (length numbers) new.sent) is.planned.valid is.alone waited number start-heard k
          node other on

      -- all that are sound are on
      pub on-begun : (k : ℕ) → k < length list.slots → is_sound_after plan 0 k ≡ true → is_on script k start.slot ≡ true
      on-begun k node sound = sym (on-first k node) ∙ sym (sound-first plan k is.planned.follows.good) ∙ sound

      -- a starter counts its own frame, and a node that joins the starter's
      counts : (k : ℕ) → k < length list.slots → is_on script k start.slot ≡ true
          → IsCounted (ledger_of plan 0 k) (past k) × (((past k).ack ≡ ack.First) ⊎ ((past k).ack ≡ ack.Closed))
      counts k node on = elim (cases_eq k start.node) [
        | inl same ↦
            let stands = starter-begun in
            let own : (sender plan 0 == start.node) ≡ true = eq-eqb (sender plan 0) start.node sender-first in
            subst (λ j. IsCounted (ledger_of plan 0 j) (past j) × (((past j).ack ≡ ack.First)
            ⊎ ((past j).ack ≡ ack.Closed))) (sym same) (
              counted-first (sender plan 0 == start.node) _ stands.accepted stands.rejected (λ opened. own)
                  (λ cold. own) (inl stands.ack),
              inl stands.ack,
            )
        | inr other ↦
            let stands = joiner-begun k node other on in (
              counted-first (sender plan 0 == k) _ stands.accepted stands.rejected
                  (λ opened. absurd (false≢true (ap is_open (sym stands.ack) ∙ opened)))
                  (λ cold. absurd (false≢true (sym stands.cold_start ∙ cold))) (inr stands.ack),
              inr stands.ack,
            )
      ]

      sound-begun : (k : ℕ) → k < length list.slots → is_on script k start.slot ≡ true
          → IsSoundAt list plan 0 k (past k)
      sound-begun k node on =
          let begun = has-begun list script start (world list script numbers)
          (messages_chosen list script (length numbers) new.sent) is.planned.valid is.alone waited number start-heard k
          node on in
          let counted = counts k node on in
          record {
            phase = begun.phase;
            place = begun.place ∙ ap start_place (sym starter-same);
            group = subst (λ p. HoldsGroup list k (p ∷ []) (past k)) (sym starter-same) begun.group;
            counted = counted.0;
            doubted = λ y doubt. absurd (no-doubt _ y counted.1 doubt);
            fresh = λ own. subst (λ j. (past j).ack ≡ ack.First) (sym sender-first ∙ own) starter-begun.ack;
          }

      off-begun : (k : ℕ) → k < length list.slots → is_on script k start.slot ≡ false → (past k).phase ≡ phase.Off
      off-begun k node off =
          off-stays list script start (world list script numbers)
          (messages_chosen list script (length numbers) new.sent) is.planned.valid is.alone waited number k node
          (λ same. both_ways (is_on script k start.slot) off (sym (on-first k node)
          ∙ ap (has_node plan.begin) (same ∙ sym starter-same) ∙ is.planned.follows.good.starter.1)) off

      absent-fate : (fate : Fate) → is_absent fate ≡ true → fate ≡ Absent
      absent-fate Absent absent = refl
      absent-fate _ absent = absurd (false≢true absent)

      node-begun : (k : ℕ) → k < length list.slots → IsByFate list plan 0 k (past k) (fate_of plan 0 k)
      node-begun k node = by (has_node plan.begin k) refl
        where
          by : (on : Bool) → has_node plan.begin k ≡ on → IsByFate list plan 0 k (past k) (fate_of plan 0 k)
          by true on =
              let fate = sound-fate (fate_of plan 0 k) (sound-first plan k is.planned.follows.good ∙ on) in
              subst (λ (f : Fate). IsByFate list plan 0 k (past k) f) (sym fate)
              (sound-begun k node (sym (on-first k node) ∙ on))
          by false off =
              let fate = absent-fate (fate_of plan 0 k) (absent-always plan 0 k is.planned.follows.good ∙ ap not off) in
              subst (λ (f : Fate). IsByFate list plan 0 k (past k) f) (sym fate)
              (off-begun k node (sym (on-first k node) ∙ off))

      sent-begun : (k : ℕ) → k < length list.slots → is_sound_after plan 0 k ≡ true
          → has_ever_sent (diary_of (world list script (new ∷ numbers)) k) ≡ true → (ledger_of plan 0 k).own ≡ true
      sent-begun k node sound sent = elim (cases_eq k start.node) [
        | inl same ↦ eq-eqb (sender plan 0) k (sender-first ∙ sym same)
        | inr other ↦
            let stands = joiner-begun k node other (on-begun k node sound) in
            let row = row_in (slot_after list script (world list script numbers))
            (messages_chosen list script (length numbers) new.sent) in
            let unsent : is_sending (entry_of row k) ≡ false = ap is_sending stands.entry in
            let before = unsent-waiting numbers k (omega (arith, now)) node in
            absurd (false≢true (sym before
            ∙ sym (ap (λ b. b || has_ever_sent (diary_of (world list script numbers) k)) unsent) ∙ sent))
      ]

      stay-begun : (k : ℕ) → k < length list.slots → is_there (fate_of plan 0 k) ≡ true
          → has_left_since_arm script (world list script (new ∷ numbers)) k ≡ false
      stay-begun k node there =
          left_since-next script (world list script numbers) _ k (by (fate_of plan 0 k) there (node-begun k node))
          (λ unarmed. unleft-waiting numbers k (omega (arith, now)) node)
        where
          by : (fate : Fate) → is_there fate ≡ true → IsByFate list plan 0 k (past k) fate
              → is_left_phase (past k).phase ≡ false
          by Sound there at = ap (λ (p : Phase). is_left_phase p) at.phase
          by (Listening since) there at = ap (λ (p : Phase). is_left_phase p) at.phase
          by _ there at = cc

      pub holds-begun : HoldsAfter list script plan 0 (world list script (new ∷ numbers))
      holds-begun = record {
        nodes = node-begun;
        sent = λ k node sound sent. sent-begun k node sound
            (stint-ever (diary_of (world list script (new ∷ numbers)) k) sent);
        ever_sent = λ k node sound never sent. sent-begun k node sound sent;
        stay = λ k node there. stay-begun k node there;
      }
