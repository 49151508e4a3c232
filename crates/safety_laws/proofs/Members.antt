-- Who is a member by a good plan.
use Rattle.safety_laws.proofs.PlanWords.{◌≡◌, ◌≢◌, ℕ, zero, suc, ◌+◌, ◌%◌, ◌<◌, ◌≤◌, Bool, true, false, cond, not, ◌&&◌}
use Rattle.safety_laws.proofs.PlanWords.{◌||◌, refl, ap, sym, subst, ◌∙◌, inl, inr}
use Rattle.safety_laws.proofs.PlanWords.{mod-lt, arith, List, [], ◌∷◌, Option}
use Rattle.safety_laws.proofs.PlanWords.{Some, None, ◌==◌, cases_eq, eq-eqb, ne_eqb}
use Rattle.safety_laws.proofs.PlanWords.{mod-eq_of_lt, below, has_node, filter}
use Rattle.safety_laws.proofs.PlanWords.{has_node-sieve, same_sieve, Change, Receiving, Incident, FaultPlan, sender}
use Rattle.safety_laws.proofs.PlanWords.{incident_at, is_armed_by, enters, Fate, Absent}
use Rattle.safety_laws.proofs.PlanWords.{Sound, Falling, Fallen, Listening}
use Rattle.safety_laws.proofs.PlanWords.{fate_at_begin, struck, turned, fate_of, is_sound_fate}
use Rattle.safety_laws.proofs.PlanWords.{is_sound_after, is_good_slot}
use Rattle.safety_laws.proofs.PlanWords.{is_first_slot, IsGoodPlan, opened, with_slot, ledger_of, IsLossOf, IsTold}
use Rattle.safety_laws.proofs.PlanWords.{IsLedgerOf}
use Rattle.ttp_base.specs.NodeSet.{most_nodes, with_node, without_node}
use Rattle.ttp_base.proofs.NodeLists.{filter-none, with_node-filter, without_node-filter, with_node-nil}
use Rattle.ttp_base.proofs.NodeSets.{has_node-with, has_node-without}
use Rattle.safety_laws.specs.Ledger.{planned_members}
use Rattle.safety_laws.specs.Told.{IsFalling, IsSenderLost}
use Rattle.safety_laws.proofs.FateSteps.{strikes, next-same, next-entered, next-armed, sound-fate}
use Rattle.safety_laws.proofs.FateTells.{fate-told, none-first, armed-fallen}
use Rattle.safety_laws.proofs.Ledgers.{ledger-told}
use Rattle.safety_laws.proofs.Persists.{sound-first, sound-on, sound-through}
use Rattle.safety_laws.proofs.Returns.{entry-is, entry-from, armed-quiet, armed-late, enters-late}
use Rattle.safety_laws.proofs.Tests.{or-false, never-found}
use Rattle.safety_laws.proofs.Turns.{turns_apart}

pub first-sender : (plan : FaultPlan) → IsGoodPlan plan → sender plan 0 ≡ plan.starter
first-sender plan good =
    let none : plan.starter + 0 ≡ plan.starter = omega arith in
    ap (λ t. t % plan.nodes) none ∙ mod-eq_of_lt good.starter.0

pub first-good : (plan : FaultPlan) → IsGoodPlan plan → is_good_slot plan 0 ≡ true
first-good plan good =
    ap (is_sound_after plan 0) (first-sender plan good) ∙ sound-first plan plan.starter good ∙ good.starter.1

-- A sound node is a member where it has had a slot of its own since it began, and a node that was lost is none from its
-- first own slot on, until it has another after its entry.

abbrev IsMemberBy : Bool → Bool → Fate → Type 0
IsMemberBy member own Absent = Unit {0}
IsMemberBy member own Sound = member ≡ own
IsMemberBy member own (Falling change since) = Unit {0}
IsMemberBy member own (Fallen change since shown) = member ≡ false
IsMemberBy member own (Listening since) = member ≡ false

abbrev IsMember : FaultPlan → ℕ → ℕ → Fate → Type 0
IsMember plan slot k fate = IsMemberBy (has_node (planned_members plan slot) k) (ledger_of plan slot k).own fate

member-begin : (plan : FaultPlan) (k : ℕ) (begins : Bool) → IsGoodPlan plan
    → IsMember plan 0 k (turned (sender plan 0 == k) 0 (cond begins Sound Absent))
member-begin plan k begins good = by (sender plan 0 == k) begins
  where
    by : (own begins : Bool) → IsMember plan 0 k (turned own 0 (cond begins Sound Absent))
    by true true = sym (or-false (plan.starter == k)) ∙ ap (λ j. j == k) (sym (first-sender plan good))
    by false true = sym (or-false (plan.starter == k)) ∙ ap (λ j. j == k) (sym (first-sender plan good))
    by true false = tt
    by false false = tt

-- what a slot makes of members

members-other : (plan : FaultPlan) (slot k : ℕ) → k < 24 → sender plan (suc slot) ≢ k
    → has_node (planned_members plan (suc slot)) k ≡ has_node (planned_members plan slot) k
members-other plan slot k small other = by (is_good_slot plan (suc slot))
  where
    off : (k == sender plan (suc slot)) ≡ false
    off = ne_eqb _ _ (λ same. other (sym same))

    by : (good : Bool)
        → has_node
        (cond good (with_node (planned_members plan slot) (sender plan (suc slot)))
        (without_node (planned_members plan slot) (sender plan (suc slot)))) k
        ≡ has_node (planned_members plan slot) k
    by true =
        has_node-with (planned_members plan slot) (sender plan (suc slot)) k small
        ∙ ap (λ b. b || has_node (planned_members plan slot) k) off
    by false =
        has_node-without (planned_members plan slot) (sender plan (suc slot)) k
        ∙ ap (λ b. not b && has_node (planned_members plan slot) k) off

members-own : (plan : FaultPlan) (slot k : ℕ) → k < 24 → sender plan (suc slot) ≡ k
    → has_node (planned_members plan (suc slot)) k ≡ is_sound_after plan (suc slot) k
members-own plan slot k small own = by (is_good_slot plan (suc slot)) refl
  where
    on : (k == sender plan (suc slot)) ≡ true
    on = eq-eqb _ _ (sym own)

    by : (good : Bool) → is_good_slot plan (suc slot) ≡ good
        → has_node
        (cond good (with_node (planned_members plan slot) (sender plan (suc slot)))
        (without_node (planned_members plan slot) (sender plan (suc slot)))) k
        ≡ is_sound_after plan (suc slot) k
    by true is =
        has_node-with (planned_members plan slot) (sender plan (suc slot)) k small
        ∙ ap (λ b. b || has_node (planned_members plan slot) k) on ∙ sym is ∙ ap (is_sound_after plan (suc slot)) own
    by false is =
        has_node-without (planned_members plan slot) (sender plan (suc slot)) k
        ∙ ap (λ b. not b && has_node (planned_members plan slot) k) on
        ∙ sym is ∙ ap (is_sound_after plan (suc slot)) own

-- from slot to slot, by what becomes of the node

by-own : (member own : Bool) (fate : Fate) → member ≡ is_sound_fate fate → own ≡ true → IsMemberBy member own fate
by-own member own Absent is owns = tt
by-own member own Sound is owns = is ∙ sym owns
by-own member own (Falling change since) is owns = tt
by-own member own (Fallen change since shown) is owns = is
by-own member own (Listening since) is owns = is

by-same : (member other own late : Bool) (fate : Fate) → member ≡ other → own ≡ late → IsMemberBy other late fate
    → IsMemberBy member own fate
by-same member other own late fate is owns by =
    subst (λ b. IsMemberBy b own fate) (sym is) (subst (λ b. IsMemberBy other b fate) (sym owns) by)

by-struck : (member own : Bool) (slot k : ℕ) (fate : Fate) (found : Option Incident) → IsMemberBy member own fate
    → IsMemberBy member own (struck slot k fate found)
by-struck member own slot k fate None by = by
by-struck member own slot k fate (Some incident) by = hit (incident.node == k)
  where
    hit : (b : Bool) → IsMemberBy member own (cond b (Falling incident.change slot) fate)
    hit true = tt
    hit false = by

-- a node that is armed, or enters, was no member
armed-out : (plan : FaultPlan) (slot k : ℕ) → IsGoodPlan plan → IsMember plan slot k (fate_of plan slot k)
    → is_armed_by plan (suc slot) k ≡ true → has_node (planned_members plan slot) k ≡ false
armed-out plan slot k good by is =
    let fallen = armed-fallen plan slot k good is in
    subst (IsMember plan slot k) fallen.was by

entry-out : (plan : FaultPlan) (slot k : ℕ) → IsGoodPlan plan → IsMember plan slot k (fate_of plan slot k)
    → enters plan (suc slot) k ≡ true → has_node (planned_members plan slot) k ≡ false
entry-out plan slot k good by is = elim (entry-from plan slot k good is) [
  | inl armed ↦ armed-out plan slot k good by armed
  | inr listens ↦ subst (IsMember plan slot k) listens.1 by
]

own-after : (plan : FaultPlan) (slot k : ℕ) → sender plan (suc slot) ≡ k → (ledger_of plan (suc slot) k).own ≡ true
own-after plan slot k own =
    let other = with_slot (is_good_slot plan (suc slot)) (is_first_slot plan (suc slot)) (ledger_of plan slot k) in
    ap (λ b. (cond b (opened true (suc slot)) (cond (enters plan (suc slot) k) (opened false (suc slot)) other)).own)
    (eq-eqb _ _ own)

other-after : (plan : FaultPlan) (slot k : ℕ) (entered : Bool) → sender plan (suc slot) ≢ k
    → enters plan (suc slot) k ≡ entered
    → (ledger_of plan (suc slot) k).own ≡ cond entered false (ledger_of plan slot k).own
other-after plan slot k entered other is =
    let ledger = with_slot (is_good_slot plan (suc slot)) (is_first_slot plan (suc slot)) (ledger_of plan slot k) in
    (λ i. (cond (ne_eqb _ _ other i) (opened true (suc slot)) (cond (is i) (opened false (suc slot)) ledger)).own)
    ∙ by entered
  where
    by : (b : Bool)
        → (cond b (opened false (suc slot))
        (with_slot (is_good_slot plan (suc slot)) (is_first_slot plan (suc slot)) (ledger_of plan slot k))).own
        ≡ cond b false (ledger_of plan slot k).own
    by true = refl
    by false = refl

member-other : (plan : FaultPlan) (slot k : ℕ) (armed entered : Bool) → IsGoodPlan plan → k < 24
    → sender plan (suc slot) ≢ k
    → is_armed_by plan (suc slot) k ≡ armed → enters plan (suc slot) k ≡ entered
    → IsMember plan slot k (fate_of plan slot k) → IsMember plan (suc slot) k (fate_of plan (suc slot) k)
member-other plan slot k armed true good small other arms enter by =
    subst (IsMember plan (suc slot) k) (sym (next-entered plan (suc slot) k (fate_of plan slot k) enter))
    (members-other plan slot k small other ∙ entry-out plan slot k good by enter
    ∙ sym (other-after plan slot k true other enter))
member-other plan slot k true false good small other arms none by =
    subst (IsMember plan (suc slot) k)
    (sym (next-armed plan (suc slot) k (fate_of plan slot k) arms none (armed-quiet plan (suc slot) k good arms)))
    (members-other plan slot k small other ∙ armed-out plan slot k good by arms)
member-other plan slot k false false good small other arms none by =
    let fate = struck (suc slot) k (fate_of plan slot k) (incident_at plan (suc slot)) in
    let member = has_node (planned_members plan slot) k in
    let own = (ledger_of plan slot k).own in
    subst (IsMember plan (suc slot) k) (sym (next-same plan (suc slot) k (fate_of plan slot k) arms none
    ∙ ap (λ b. turned b (suc slot) fate) (ne_eqb _ _ other)))
    (by-same (has_node (planned_members plan (suc slot)) k) member (ledger_of plan (suc slot) k).own own fate
    (members-other plan slot k small other) (other-after plan slot k false other none)
    (by-struck member own (suc slot) k (fate_of plan slot k) (incident_at plan (suc slot)) by))

member-next : (plan : FaultPlan) (slot k : ℕ) → IsGoodPlan plan → k < 24 → IsMember plan slot k (fate_of plan slot k)
    → IsMember plan (suc slot) k (fate_of plan (suc slot) k)
member-next plan slot k good small by = elim (cases_eq (sender plan (suc slot)) k) [
  | inl own ↦
      by-own (has_node (planned_members plan (suc slot)) k) (ledger_of plan (suc slot) k).own
      (fate_of plan (suc slot) k) (members-own plan slot k small own) (own-after plan slot k own)
  | inr other ↦
      member-other plan slot k (is_armed_by plan (suc slot) k) (enters plan (suc slot) k) good small other refl refl by
]

member-told : (plan : FaultPlan) (slot k : ℕ) → IsGoodPlan plan → k < 24 → IsMember plan slot k (fate_of plan slot k)
member-told plan zero k good small =
    subst (IsMember plan 0 k)
    (sym (next-same plan 0 k (fate_at_begin plan k) (armed-late plan k good) (enters-late plan k good)
    ∙ ap (λ found. turned (sender plan 0 == k) 0 (struck 0 k (fate_at_begin plan k) found)) (none-first plan good)))
    (member-begin plan k (has_node plan.begin k) good)
member-told plan (suc slot) k good small = member-next plan slot k good small (member-told plan slot k good small)

-- So a sound node with a slot of its own is a member,
pub sound-member : (plan : FaultPlan) (slot k : ℕ) → IsGoodPlan plan → k < plan.nodes
    → is_sound_after plan slot k ≡ true
    → (ledger_of plan slot k).own ≡ true → has_node (planned_members plan slot) k ≡ true
sound-member plan slot k good less sound own =
    subst (IsMember plan slot k) (sound-fate (fate_of plan slot k) sound)
    (member-told plan slot k good (omega (arith, good.count))) ∙ own

-- and a fallen one is not.
pub fallen-member : (plan : FaultPlan) (slot k since shown : ℕ) (change : Change) → IsGoodPlan plan → k < plan.nodes
    → fate_of plan slot k ≡ Fallen change since shown → has_node (planned_members plan slot) k ≡ false
fallen-member plan slot k since shown change good less is =
    subst (IsMember plan slot k) is (member-told plan slot k good (omega (arith, good.count)))

-- The sender whose frame a falling receiver lost.

sender-then : (plan : FaultPlan) (k since : ℕ) → IsGoodPlan plan → IsLossOf plan k Receiving since
    → is_sound_after plan since (sender plan since) ≡ true
sender-then plan k zero good loss = absurd (omega (arith, loss.late, good.count))
sender-then plan k (suc since) good loss =
    let by = (good.losses since loss.incident loss.found).receiving loss.how in
    let missed : strikes (incident_at plan (suc since)) (sender plan (suc since)) ≡ false =
    ap (λ found. strikes found (sender plan (suc since))) loss.found ∙ ne_eqb _ _ (λ same. by.0 (sym same)) in
    sound-on plan since (sender plan (suc since)) good by.1 missed

-- it had its slot then, so that it owns one: neither did it begin since, nor did it enter
sender-owns : (plan : FaultPlan) (slot k since : ℕ) → IsGoodPlan plan → IsFalling plan slot k Receiving since
    → (own : Bool)
    → (ledger_of plan slot (sender plan since)).own ≡ own
    → IsLedgerOf plan slot (sender plan since) (ledger_of plan slot (sender plan since))
    → (ledger_of plan slot (sender plan since)).own ≡ true
sender-owns plan slot k since good falling true owns told = owns
sender-owns plan slot k since good falling false owns told =
    let newest = told.newest since falling.from refl in
    let late = falling.loss.late in
    elim (told.began owns) [
      | inl start ↦ absurd (omega (arith, start, newest, late, good.count))
      | inr enter ↦
          let found = entry-is plan (ledger_of plan slot (sender plan since)).base (sender plan since) enter in
          let of_r = good.returns found.return found.among in
          let at = found.entered in
          let after = of_r.after in
          elim (of_r.losses since falling.loss.incident falling.loss.found) [
            | inl early ↦ absurd (omega (arith, early, after, at, told.within, falling.soon))
            | inr later ↦ absurd (omega (arith, later, at, newest, good.count))
          ]
    ]

sender-lost-by : (plan : FaultPlan) (slot k since : ℕ) → IsGoodPlan plan → IsFalling plan slot k Receiving since
    → IsSenderLost plan slot since
sender-lost-by plan slot k since good falling =
    let p = sender plan since in
    let less : sender plan since < plan.nodes = mod-lt (plan.starter + since) (omega (arith, good.count)) in
    let told = ledger-told plan slot p good less in
    let ledger = ledger_of plan slot p in
    let newest = told.newest since falling.from refl in
    let own = sender-owns plan slot k since good falling (ledger_of plan slot (sender plan since)).own refl told in
    let base : ledger.base ≡ since = elim (cases_eq ledger.base since) [
      | inl same ↦ same
      | inr other ↦
          let apart =
          turns_apart plan since ledger.base (omega (arith, good.count)) (omega (arith, other, newest))
          (sym (told.owned own)) in
          absurd (omega (arith, apart, told.within, falling.soon))
    ] in
    let sound =
    sound-through plan since slot p good falling.from (sender-then plan k since good falling.loss)
    (λ turn after within. never-found (incident_at plan turn) (λ incident found.
    let apart = good.apart since turn falling.loss.incident incident falling.loss.found found after in
    omega (arith, apart, falling.soon))) in
    record {
      sound = sound;
      member = sound-member plan slot p good less sound own;
      own = own;
      base = base;
    }

pub sender-lost : (plan : FaultPlan) (slot k since : ℕ) → IsGoodPlan plan
    → fate_of plan slot k ≡ Falling Receiving since
    → IsSenderLost plan slot since
sender-lost plan slot k since good is =
    sender-lost-by plan slot k since good (subst (IsTold plan slot k) is (fate-told plan slot k good))

-- Members are nodes in ascending order.

sieved : (members : List ℕ) (p : ℕ → Bool) (n : ℕ) → members ≡ filter p (below n)
    → members ≡ filter (has_node members) (below n)
sieved members p n are =
    are
    ∙ same_sieve p (has_node members) n (λ j less.
    sym (ap (λ ks. has_node ks j) are ∙ has_node-sieve p n j less))

alone-nodes : (n k : ℕ) → k < n → n ≤ most_nodes → k ∷ [] ≡ filter (has_node (k ∷ [])) (below n)
alone-nodes n k less few =
    sieved (k ∷ []) (λ j. (j == k) || false) n
    (sym (with_node-nil k (omega arith)) ∙ ap (λ ks. with_node ks k) (sym (filter-none (λ _. false) 0 n (λ j _. refl)))
    ∙ with_node-filter (λ _. false) n k less few)

nodes-next : (members : List ℕ) (n k : ℕ) (good : Bool) → k < n → n ≤ most_nodes
    → members ≡ filter (has_node members) (below n)
    → cond good (with_node members k) (without_node members k)
    ≡ filter (has_node (cond good (with_node members k) (without_node members k))) (below n)
nodes-next members n k true less few are =
    sieved (with_node members k) (λ j. (j == k) || has_node members j) n
    (ap (λ ks. with_node ks k) are ∙ with_node-filter (has_node members) n k less few)
nodes-next members n k false less few are =
    sieved (without_node members k) (λ j. has_node members j && not (j == k)) n
    (ap (λ ks. without_node ks k) are ∙ without_node-filter (has_node members) n k)

pub members-nodes : (plan : FaultPlan) (slot : ℕ) → IsGoodPlan plan
    → planned_members plan slot ≡ filter (has_node (planned_members plan slot)) (below plan.nodes)
members-nodes plan zero good = alone-nodes plan.nodes plan.starter good.starter.0 good.count.1
members-nodes plan (suc slot) good =
    nodes-next (planned_members plan slot) plan.nodes (sender plan (suc slot)) (is_good_slot plan (suc slot))
    (mod-lt (plan.starter + suc slot) (omega (arith, good.count))) good.count.1 (members-nodes plan slot good)
