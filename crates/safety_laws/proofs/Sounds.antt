-- Who is sound after a slot: a node that is not faulty, or one that was armed less than four rounds ago.
use Rattle.safety_laws.proofs.BackWords.{◌≡◌, ◌≢◌, ℕ, zero, suc, ◌+◌, ◌-◌, ◌<◌, ◌≤◌}
use Rattle.safety_laws.proofs.BackWords.{Bool, true, false, cond, length, Some, ◌⊎◌}
use Rattle.safety_laws.proofs.BackWords.{refl, ap, sym, ◌∙◌, inl, inr, arith, ◌==◌}
use Rattle.safety_laws.proofs.BackWords.{and_parts, or_parts, or_cases, both_ways}
use Rattle.safety_laws.proofs.BackWords.{cases_lt, false_from_ne_true, or_right, none-some}
use Rattle.safety_laws.proofs.BackWords.{has_node, has_node-sieve, Medl}
use Rattle.safety_laws.proofs.BackWords.{Script, ClusterStart, four_rounds, is_ever_on}
use Rattle.safety_laws.proofs.BackWords.{incident_at, is_armed_by, enters, sender}
use Rattle.safety_laws.proofs.BackWords.{Fate, Absent, Sound, Listening, fate_of, fate_at_begin}
use Rattle.safety_laws.proofs.BackWords.{next_fate, is_sound_after}
use Rattle.safety_laws.proofs.BackWords.{lost_since, strikes, sound-fate, IsClear, made-was, strikes-slot, entry_slot}
use Rattle.safety_laws.proofs.BackWords.{back_plan_of}
use Rattle.std.proofs.lemmas.Bool.{true_from_ne_false}
use Rattle.safety_laws.specs.Fates.{is_sound_fate}
use Rattle.safety_laws.specs.Fates.{turned}
use Rattle.safety_laws.proofs.FateSteps.{next-same, struck-missed}
use Rattle.safety_laws.proofs.PlanHearing.{clear-after}
use Rattle.safety_laws.proofs.Arms.{IsArmedIn, arm-faulty}
use Rattle.safety_laws.proofs.BackRuns.{IsBackRun}
use Rattle.safety_laws.proofs.Standing.{Standing, Clear, LostSince, ArmedSince, standing, entry-by, armed-by-line}
use Rattle.safety_laws.proofs.Walk.{at, made, after, after-has, at-next}

abbrev pub IsEverNode : Medl → Script → ℕ → Type 0
IsEverNode list script k = (k < length list.slots) × (is_ever_on script k ≡ true)

-- A node that is never on is absent.

turned-absent : (own : Bool) (slot : ℕ) → turned own slot Absent ≡ Absent
turned-absent true slot = refl
turned-absent false slot = refl

sound-present : (fate : Fate) → is_sound_fate fate ≡ true → fate ≢ Absent
sound-present fate sound absent = both_ways _ (ap is_sound_fate absent) sound

-- a node is armed less than four rounds ago
pub record IsNearArm (list : Medl) (script : Script) (start : ClusterStart) (slot k : ℕ) : Type 0 where
  pub arm : ℕ
  pub is : IsArmedIn list script start k arm
  pub from : arm ≤ slot
  pub to : slot < arm + four_rounds list

pub data Soundly (list : Medl) (script : Script) (start : ClusterStart) (slot k : ℕ) : Type 0 where
  BeingClear : (clear : IsClear list script start (at list script start slot) slot k) → Soundly list script start slot k
  NearArm : (near : IsNearArm list script start slot k) → (entered : entry_slot list script start k near.arm ≤ slot)
      → Soundly list script start slot k

since-not : (fate : Fate) (since : ℕ) → lost_since fate ≡ Some since → fate ≡ Sound → ⊥
since-not fate since is sound = none-some _ (ap lost_since (sym sound) ∙ is)

listens-unsound : (fate : Fate) (since : ℕ) → fate ≡ Listening since → is_sound_fate fate ≡ true → ⊥
listens-unsound fate since is sound = both_ways _ (ap is_sound_fate is) sound

lost-listens : (fate : Fate) (since from : ℕ) → lost_since fate ≡ Some since → fate ≡ Listening from → ⊥
lost-listens fate since from is listens = none-some _ (ap lost_since (sym listens) ∙ is)

module _ {list : Medl} {script : Script} {start : ClusterStart} (run : IsBackRun list script start) where
  -- Whoever is faulty is a node of the list that is on at some time.

  pub made-node : (slot k : ℕ) → has_node (made list script start slot) k ≡ true → IsEverNode list script k
  made-node slot k has = let was = made-was run.course slot k has in (was.less, was.ever)

  pub faulty-node : (slot k : ℕ) → has_node (after list script start slot) k ≡ true → IsEverNode list script k
  faulty-node zero k has = elim (or_cases _ _ (sym (after-has list script start 0 k) ∙ has)) [
    | inl now ↦ made-node 0 k now
    | inr before ↦ absurd (both_ways _ refl before)
  ]
  faulty-node (suc slot) k has =
      by (or_cases _ _ (sym (after-has list script start (suc slot) k) ∙ has)) (faulty-node slot k)
    where
      by : (has_node (made list script start (suc slot)) k ≡ true)
          ⊎ (has_node (at list script start (suc slot)) k ≡ true)
          → (has_node (after list script start slot) k ≡ true → IsEverNode list script k) → IsEverNode list script k
      by (inl now) older = made-node (suc slot) k now
      by (inr before) older = older (and_parts _ _ (sym (at-next list script start slot k) ∙ before)).0

  pub faulty-ever : (slot k : ℕ) → has_node (at list script start slot) k ≡ true → is_ever_on script k ≡ true
  faulty-ever slot k has = (faulty-node slot k (after-has list script start slot k ∙ or_right _ _ has)).1

  -- a node that is not faulty after a slot
  pub clear-now : (slot k : ℕ) → is_ever_on script k ≡ true → has_node (after list script start slot) k ≡ false
      → IsClear list script start (at list script start slot) slot k
  clear-now slot k ever none =
      let parts = or_parts _ _ (sym (after-has list script start slot k) ∙ none) in
      clear-after run.course slot k ever parts.0 parts.1

  absent-next : (turn slot k : ℕ) (fate : Fate) → slot ≡ start.slot + turn → slot < script.slots
      → is_ever_on script k ≡ false → fate ≡ Absent → next_fate (back_plan_of list script start) turn k fate ≡ Absent
  absent-next turn slot k fate now within never absent =
      let plan = back_plan_of list script start in
      let armed : is_armed_by plan turn k ≡ false = false_from_ne_true _ (λ is.
      let line = armed-by-line run turn k is in
      both_ways _ never (faulty-ever line.0 k (arm-faulty line.1.0))) in
      let entered : enters plan turn k ≡ false = false_from_ne_true _ (λ enter.
      let by = entry-by run turn slot k now within enter in
      both_ways _ never (faulty-ever by.arm k (arm-faulty by.is))) in
      let missed : strikes (incident_at plan turn) k ≡ false =
      strikes-slot run.course turn slot k now within
      ∙ false_from_ne_true _ (λ hit.
      both_ways _ never (made-node slot k hit).1) in
      next-same plan turn k fate armed entered
      ∙ ap (turned (sender plan turn == k) turn) (struck-missed turn k fate (incident_at plan turn) missed ∙ absent)
      ∙ turned-absent (sender plan turn == k) turn

  pub never-absent : (turn slot k : ℕ) → slot ≡ start.slot + turn → slot < script.slots → k < length list.slots
      → is_ever_on script k ≡ false → fate_of (back_plan_of list script start) turn k ≡ Absent
  never-absent zero slot k now within less never =
      let plan = back_plan_of list script start in
      absent-next 0 slot k (fate_at_begin plan k) now within never
      (ap (λ b. cond b Sound Absent) (has_node-sieve (is_ever_on script) (length list.slots) k less ∙ never))
  never-absent (suc turn) zero k now within less never = absurd (omega arith)
  never-absent (suc turn) (suc slot) k now within less never =
      absent-next (suc turn) (suc slot) k (fate_of (back_plan_of list script start) turn k) now
      within never (never-absent turn slot k (omega arith) (omega arith) less never)

  -- so one that is sound or listens is ever on
  pub present-ever : (turn slot k : ℕ) → slot ≡ start.slot + turn → slot < script.slots → k < length list.slots
      → fate_of (back_plan_of list script start) turn k ≢ Absent → is_ever_on script k ≡ true
  present-ever turn slot k now within less present =
      true_from_ne_false _ (λ never.
      present (never-absent turn slot k now within less never))

  -- What it is not to be faulty after a slot.

  pub sound-how : (turn slot k : ℕ) → slot ≡ start.slot + turn → slot < script.slots → k < length list.slots
      → is_sound_after (back_plan_of list script start) turn k ≡ true → Soundly list script start slot k
  sound-how turn slot k now within less sound =
      by (standing run turn slot k now within less ever)
    where
      fate : Fate
      fate = fate_of (back_plan_of list script start) turn k

      ever : is_ever_on script k ≡ true
      ever =
          present-ever turn slot k now within less
          (sound-present (fate_of (back_plan_of list script start) turn k) sound)

      by : Standing list script start slot k (fate_of (back_plan_of list script start) turn k)
          → Soundly list script start slot k
      by (Clear none is) = BeingClear (clear-now slot k ever none)
      by (LostSince since lost) = absurd (since-not fate (since - start.slot) lost.fate_is (sound-fate fate sound))
      by (ArmedSince arm armed) = elim (cases_lt slot (entry_slot list script start k arm)) [
        | inl waits ↦ absurd (listens-unsound fate (arm - start.slot) (armed.waits waits) sound)
        | inr there ↦ NearArm (record { arm = arm; is = armed.is; from = armed.from; to = armed.to }) there
      ]

  -- one that listens is armed near
  pub listens-near : (turn slot k since : ℕ) → slot ≡ start.slot + turn → slot < script.slots → k < length list.slots
      → fate_of (back_plan_of list script start) turn k ≡ Listening since → IsNearArm list script start slot k
  listens-near turn slot k since now within less listens =
      by (standing run turn slot k now within less ever)
    where
      fate : Fate
      fate = fate_of (back_plan_of list script start) turn k

      listening-absent : Listening since ≡ Absent → ⊥
      listening-absent is = cc

      sound-listening : Sound ≡ Listening since → ⊥
      sound-listening is = cc

      ever : is_ever_on script k ≡ true
      ever = present-ever turn slot k now within less (λ absent. listening-absent (sym listens ∙ absent))

      by : Standing list script start slot k (fate_of (back_plan_of list script start) turn k)
          → IsNearArm list script start slot k
      by (Clear none is) = absurd (sound-listening (sym is ∙ listens))
      by (LostSince from lost) = absurd (lost-listens fate (from - start.slot) since lost.fate_is listens)
      by (ArmedSince arm armed) = record { arm = arm; is = armed.is; from = armed.from; to = armed.to }
