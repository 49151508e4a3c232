-- A run of a script in which one sender may be two-faced, after each slot from the start on.
use Rattle.two_faced.proofs.Words.{◌≡◌, ◌≢◌, ℕ, suc, ◌+◌, ◌-◌, ◌<◌, ◌≤◌, ◌-ℤ◌, ◌≤ℤ◌, Bool, true, false, List, [], ◌∷◌}
use Rattle.two_faced.proofs.Words.{length, refl, ap, sym, ◌∙◌, inl, inr, arith, both_ways, cases_eq, has_node, Medl}
use Rattle.two_faced.proofs.Words.{Entry, Script, History, entry_of, ClusterStart, IsLegal, IsValid, newest_slot}
use Rattle.two_faced.proofs.Words.{IsValidScript, is_on, Numbers, node_past, world, legal-older, length-world, TellsOf}
use Rattle.two_faced.proofs.Words.{FaultPlan, sender, Fate, Absent, Sound, Falling, Fallen, fate_of, is_sound_fate}
use Rattle.two_faced.proofs.Words.{is_lost, is_sound_after, is_good_slot, never-listens, NotedInSlot, bound}
use Rattle.ttp_world.specs.declared.node.Ack.{Ack}
use Rattle.ttp_world.specs.declared.node.Ack.TheVariants as ack
use Rattle.ttp_world.specs.declared.node.Entry.TheVariants as entry
use Rattle.ttp_world.specs.declared.node.Phase.TheVariants as phase
use Rattle.ttp_world.specs.Diary.{phase_after}
use Rattle.ttp_world.specs.Medium.{is_sending}
use Rattle.ttp_world.specs.Safety.{members_of_node}
use Rattle.safety_laws.specs.Fates.{Listening}
use Rattle.safety_laws.specs.Ledger.{planned_members}
use Rattle.safety_laws.specs.Groups.{held_with}
use Rattle.safety_laws.specs.NotedByPlan.{NotesNothing}
use Rattle.safety_laws.specs.ByFate.{IsSoundAt, IsByFate}
use Rattle.safety_laws.specs.ByPlan.{IsByPlan}
use Rattle.two_faced.proofs.FromBelow.{KeepsClocks, run-by_plan, sound-fate as sound-only, lost-begin}
use Rattle.two_faced.proofs.FacedClocks.{faced-clocks, faced-window}
use Rattle.two_faced.proofs.QuietPlan.{fate-always, quiet_plan, follows, on-sound, begun, clocks}
use Rattle.two_faced.proofs.FacedSlots.{IsFacing}
use Rattle.two_faced.specs.Halved.{AreJudgedCorrect, JudgedCorrectSince}
use Rattle.two_faced.proofs.Rules.{RulesHold}

-- a node that doubts none holds the group
undoubted : (group : List ℕ) (a : Ack) → ((y : ℕ) → a ≡ ack.Doubt y → ⊥) → held_with group a ≡ group
undoubted group ack.Closed never = refl
undoubted group ack.First never = refl
undoubted group (ack.Doubt y) never = absurd (never y refl)

-- a node that is off sends nothing
off-silent : (e : Entry) → phase_after e ≡ phase.Off → is_sending e ≡ false
off-silent entry.Started off = cc
off-silent (entry.Sent message) off = cc
off-silent _ off = refl

-- nor does one that notes nothing
silent-entry : (e : Entry) → NotesNothing e → is_sending e ≡ false
silent-entry (entry.Judged sender v deviation) silent = refl
silent-entry _ silent = absurd silent

-- what tells of another's frame sends nothing
hearing-entry : (list : Medl) (script : Script) (history : History) (p k : ℕ) (e : Entry) → k ≢ p
    → TellsOf list script history p k e → is_sending e ≡ false
hearing-entry list script history p k (entry.Sent message) other tells = absurd (other tells)
hearing-entry list script history p k (entry.Judged sender v deviation) other tells = refl
hearing-entry list script history p k _ other tells = absurd tells

module _ (list : Medl) (script : Script) (z slot : ℕ) (valid : IsValid list) (script_valid : IsValidScript list script)
    (rules : RulesHold list script z slot) where
  abbrev start : ClusterStart
  start = rules.start

  abbrev plan : FaultPlan
  plan = quiet_plan list script rules.start

  facing : IsFacing list script start z plan
  facing = record {
    valid = valid;
    follows = follows list script z slot valid rules;
    none = refl;
    clocks = clocks list script z slot valid rules;
  }

  never-lost : (turn k : ℕ) (fate : Fate) → fate_of plan turn k ≡ fate → is_lost fate ≡ true → ⊥
  never-lost turn k fate is =
      both_ways (is_lost fate)
      (ap is_lost (sym is ∙ fate-always plan turn k refl refl) ∙ lost-begin (has_node plan.begin k))

  keeps : KeepsClocks list script start plan
  keeps turn numbers noted within = record {
    within = λ r p node sends sound steady none stays.
        faced-window list script start z plan facing turn (world list script numbers) noted within r p (node, sound)
        (sends, steady);
    frame = λ r p since node sends sound none jumped. absurd (never-lost (suc turn) p _ jumped refl);
    others = λ r p since node sends jumped sound none. absurd (never-lost (suc turn) r _ jumped refl);
  }

  run-at : (numbers : Numbers) (turn : ℕ) → IsLegal list script numbers → length numbers ≡ suc (start.slot + turn)
      → length numbers ≤ script.slots → IsByPlan list script start plan turn (world list script numbers)
  run-at numbers turn legal number within =
      run-by_plan list script start plan (begun list script z slot valid rules script_valid) keeps turn numbers number
      (omega (arith, number, within)) legal

  -- Each frame is judged correct.

  -- a node that sent was sound
  sent-sound : (turn p : ℕ) (row : List Entry) (history : History) → p < length list.slots
      → IsByFate list plan turn p (node_past list script (row ∷ history) p) (fate_of plan turn p)
      → is_sending (entry_of row p) ≡ true → is_sound_after plan turn p ≡ true
  sent-sound turn p row history node at sent = by (fate_of plan turn p) refl at
    where
      by : (fate : Fate) → fate_of plan turn p ≡ fate
          → IsByFate list plan turn p (node_past list script (row ∷ history) p) fate → is_sound_after plan turn p ≡ true
      by Sound is at = ap is_sound_fate is
      by Absent is off = absurd (both_ways (is_sending (entry_of row p)) (off-silent (entry_of row p) off) sent)
      by (Falling change since) is at = absurd (never-lost turn p _ is refl)
      by (Fallen change since shown) is at = absurd (never-lost turn p _ is refl)
      by (Listening since) is at = absurd (never-listens plan turn p since refl is)

  judged-slot : (turn : ℕ) (row : List Entry) (history : History) → length history ≡ start.slot + suc turn
      → IsByPlan list script start plan (suc turn) (row ∷ history) → AreJudgedCorrect list script row history
  judged-slot turn row history number by_plan p r sends hears other on sent = by (is_good_slot plan (suc turn)) refl
    where
      noted : NotedInSlot list script plan (suc turn) row history
      noted = by_plan.noted.1

      sender_sound : is_sound_after plan (suc turn) p ≡ true
      sender_sound = sent-sound (suc turn) p row history sends (by_plan.holds.nodes p sends) sent

      receiver_sound : is_sound_after plan (suc turn) r ≡ true
      receiver_sound =
          on-sound list script z slot valid rules (suc turn) r hears (ap (is_on script r) (sym number) ∙ on)

      by : (good : Bool) → is_good_slot plan (suc turn) ≡ good → TellsOf list script history p r (entry_of row r)
      by true good = elim (cases_eq p (sender plan (suc turn))) [
        | inl own ↦ rw own (noted.good r good (hears, receiver_sound) refl)
        | inr apart ↦
            absurd (both_ways (is_sending (entry_of row p)) (hearing-entry list script history (sender plan (suc turn))
            p (entry_of row p) apart (noted.good p good (sends, sender_sound) refl)) sent)
      ]
      by false wrong =
          absurd (both_ways (is_sending (entry_of row p))
          (silent-entry (entry_of row p) (noted.other p wrong (sends, sender_sound))) sent)

  pub runs-judged : (numbers : Numbers) → IsLegal list script numbers → length numbers ≤ script.slots
      → JudgedCorrectSince list script slot (world list script numbers)
  runs-judged [] legal within = tt
  runs-judged (new ∷ numbers) legal within = (
    λ later.
        let long = length-world list script numbers in
        let turn = length numbers - suc slot in
        let number : length (world list script numbers) ≡ start.slot + suc turn =
        omega (arith, later, rules.from, long) in
        judged-slot turn _ (world list script numbers) number
        (run-at (new ∷ numbers) (suc turn) legal (omega (arith, number, long)) within),
    runs-judged numbers (legal-older list script new numbers legal) (omega (arith, within)),
  )

  -- After the slot that came last.

  module _ (numbers : Numbers) (legal : IsLegal list script numbers) (after : slot < length numbers)
      (within : length numbers ≤ script.slots) where
    abbrev turn : ℕ
    turn = length numbers - suc slot

    abbrev history : History
    history = world list script numbers

    count : length numbers ≡ suc (start.slot + turn)
    count = let from = rules.from in omega (arith, after, from)

    newest : newest_slot history ≡ start.slot + turn
    newest = let number = count in let long = length-world list script numbers in omega (arith, number, long)

    run : IsByPlan list script start plan turn history
    run = run-at numbers turn legal count within

    short : length history ≤ script.slots
    short = let long = length-world list script numbers in omega (arith, long, within)

    sound-node : (k : ℕ) → k < length list.slots → is_on script k (newest_slot history) ≡ true
        → is_sound_after plan turn k ≡ true
    sound-node k node on = on-sound list script z slot valid rules turn k node (ap (is_on script k) (sym newest) ∙ on)

    at-sound : (k : ℕ) → k < length list.slots → is_on script k (newest_slot history) ≡ true
        → IsSoundAt list plan turn k (node_past list script history k)
    at-sound k node on = rw (sound-only (fate_of plan turn k) (sound-node k node on)) at (run.holds.nodes k node)

    pub runs-active : (k : ℕ) → k < length list.slots → is_on script k (newest_slot history) ≡ true
        → (node_past list script history k).phase ≡ phase.Active
    runs-active k node on = (at-sound k node on).phase

    planned : (k : ℕ) → k < length list.slots → is_on script k (newest_slot history) ≡ true
        → members_of_node list history k ≡ planned_members plan turn
    planned k node on =
        let at = at-sound k node on in
        at.group.members ∙ undoubted (planned_members plan turn) (node_past list script history k).ack
        (λ y doubt. let lost = at.doubted y doubt in never-lost turn y _ lost.1 refl)

    pub runs-members : (j k : ℕ) → j < length list.slots → k < length list.slots
        → is_on script j (newest_slot history) ≡ true → is_on script k (newest_slot history) ≡ true
        → members_of_node list history j ≡ members_of_node list history k
    runs-members j k node_j node_k on_j on_k = planned j node_j on_j ∙ sym (planned k node_k on_k)

    pub runs-clocks : (j k : ℕ) → j < length list.slots → k < length list.slots
        → is_on script j (newest_slot history) ≡ true → is_on script k (newest_slot history) ≡ true
        → ((node_past list script history j).offset -ℤ (node_past list script history k).offset) ≤ℤ bound list
    runs-clocks j k node_j node_k on_j on_k =
        faced-clocks list script start z plan facing turn history run.noted short j k
        (node_j, sound-node j node_j on_j) (node_k, sound-node k node_k on_k)
