-- The plan of a script that keeps the single-fault hypothesis is good, and the script keeps to it.
use Rattle.safety_laws.proofs.PlanWords.{◌≡◌, ℕ, zero, suc, ◌+◌, ◌-◌, ◌<◌, ◌≤◌, true}
use Rattle.safety_laws.proofs.PlanWords.{false, not, ◌&&◌, ◌||◌, List, [], ◌∷◌}
use Rattle.safety_laws.proofs.PlanWords.{◌++◌, length, Some, refl, ap, sym, subst, ◌∙◌, inl, inr, arith, ◌==◌}
use Rattle.safety_laws.proofs.PlanWords.{AllByRecursion, filter, leb-true, not-false}
use Rattle.safety_laws.proofs.PlanWords.{or_parts, eqb-false, ne_eqb, eq-eqb}
use Rattle.safety_laws.proofs.PlanWords.{has_node, below, has_node-sieve, same_sieve}
use Rattle.safety_laws.proofs.PlanWords.{Medl, Script, ClusterStart, FaultyNode}
use Rattle.safety_laws.proofs.PlanWords.{numbers_of, faulty_nodes_before, start_of}
use Rattle.safety_laws.proofs.PlanWords.{has_four_steady, keeps, IsValid, plan_at}
use Rattle.safety_laws.proofs.PlanWords.{is_on, fault_plan_of, FaultPlan, fate_of, is_sound_after, is_steady_after}
use Rattle.safety_laws.proofs.PlanWords.{steady_nodes, lost_since, FollowsPlan, and-true, two_rounds}
use Rattle.ttp_world.specs.Hypothesis.{faulty_nodes_after}
use Rattle.ttp_world.specs.Hypothesis.{started_faulty_nodes, is_steady, breaks_in}
use Rattle.ttp_world.specs.Hypothesis.{lacks_steady_after}
use Rattle.ttp_world.proofs.Starts.{alone-start, on-start}
use Rattle.safety_laws.specs.Kept.{IsPlanOfFaults, KeepsByPlan}
use Rattle.safety_laws.proofs.PlanBounds.{none-armed, none-flipped, within-bounds}
use Rattle.safety_laws.proofs.FateSteps.{since-kept, since-now}
use Rattle.safety_laws.proofs.FaultySets.{IsSingleFault, faulty_before, fates-known, made_in}
use Rattle.safety_laws.proofs.PlanHearing.{made-was}
use Rattle.safety_laws.proofs.Incidents.{all-early, makes-slot, strikes-slot}
use Rattle.safety_laws.proofs.SlotFacts.{sound-before, heard-slot}
use Rattle.safety_laws.proofs.Returns.{none-among}
use Rattle.safety_laws.proofs.Rules.{RulesHold, rules-hold}
use Rattle.safety_laws.proofs.Sieves.{none-found}
use Rattle.safety_laws.proofs.Spaced.{all_in, spaced-all}
use Rattle.safety_laws.proofs.CoursePlans.{enough, follows-by, good-by, on-always, start-heard}
use Rattle.ttp_world.specs.declared.keep.Keep.TheVariants as keep

-- Faulty nodes since when.

abbrev AreLostSince : Medl → Script → ClusterStart → ℕ → List FaultyNode → Type 0
AreLostSince list script start turn faulty =
    AllByRecursion
    (λ f. lost_since (fate_of (fault_plan_of list script start) turn f.node) ≡ Some (f.slot - start.slot)) faulty

apart-all : (k : ℕ) (faulty : List FaultyNode) → has_node (numbers_of faulty) k ≡ false
    → AllByRecursion (λ f. has_node (k ∷ []) f.node ≡ false) faulty
apart-all k [] none = tt
apart-all k (f ∷ faulty) none =
    let parts = or_parts _ _ none in
    let off : (k == f.node) ≡ false = ne_eqb _ _ (λ same. eqb-false _ _ parts.0 (sym same)) in
    (ap (λ b. b || false) off, apart-all k faulty parts.1)

none-all : (faulty : List FaultyNode) → AllByRecursion (λ f. has_node [] f.node ≡ false) faulty
none-all [] = tt
none-all (f ∷ faulty) = (refl, none-all faulty)

module _ {list : Medl} {script : Script} {start : ClusterStart} (run : IsSingleFault list script start) where
  abbrev plan : FaultPlan
  plan = fault_plan_of list script start

  -- those of earlier slots stay as they are
  older-stay : (turn slot : ℕ) (faulty : List FaultyNode) → slot ≡ start.slot + suc turn → slot < script.slots
      → AllByRecursion (λ f. has_node (made_in list script start slot) f.node ≡ false) faulty
      → AreLostSince list script start turn faulty → AreLostSince list script start (suc turn) faulty
  older-stay turn slot [] is within missed lost = tt
  older-stay turn slot (f ∷ faulty) is within missed lost = (
    since-kept plan (suc turn) f.node (fate_of plan turn f.node) refl refl
        (strikes-slot run.course (suc turn) slot f.node is within ∙ missed.0) ∙ lost.0,
    older-stay turn slot faulty is within missed.1 lost.1,
  )

  since-slot : (turn slot : ℕ) → slot ≡ start.slot + turn → slot < script.slots
      → AreLostSince list script start turn (faulty_nodes_before list script start (suc slot))
  since-slot zero slot is within =
      let some = run.course.valid.count in
      subst (AreLostSince list script start 0)
      (sym (all-early run.course (suc slot) (omega arith) (omega (arith, some)))) tt
  since-slot (suc turn) zero is within = absurd (omega arith)
  since-slot (suc turn) (suc slot) is within =
      let older = faulty_nodes_before list script start (suc slot) in
      let lost = since-slot turn slot (omega arith) (omega arith) in
      let Newer : List ℕ → Type 0 =
      λ made. AreLostSince list script start (suc turn) (all_in (suc slot) made ++ older) in
      let Missed : List ℕ → Type 0 = λ made. AllByRecursion (λ f. has_node made f.node ≡ false) older in
      elim (makes-slot run.course (suc slot) within) [
        | inl none ↦
            subst Newer (sym none)
            (older-stay turn (suc slot) older is within (subst Missed (sym none) (none-all older)) lost)
        | inr one ↦
            let k = one.0 in
            let now : suc turn ≡ suc slot - start.slot = omega arith in
            let hit : has_node (made_in list script start (suc slot)) k ≡ true =
            ap (λ ks. has_node ks k) one.1.only ∙ ap (λ b. b || false) (eq-eqb k k refl) in
            let was = made-was run.course (suc slot) k hit in
            subst Newer (sym one.1.only) (
              since-now plan (suc turn) k (fate_of plan turn k) refl refl
                  (strikes-slot run.course (suc turn) (suc slot) k is within ∙ hit) ∙ ap Some now,
              older-stay turn (suc slot) older is within
                  (subst Missed (sym one.1.only) (apart-all k older was.none)) lost,
            )
      ]

  -- The plan is that of the faulty nodes.

  plan-of-faults : start_of list script ≡ Some start → IsPlanOfFaults list script start plan
  plan-of-faults started = record {
    returns = refl;
    sound = λ turn k less within.
        let slot = start.slot + turn in
        let on = on-always list script start turn k run.course.on less in
        let faulty : numbers_of (faulty_nodes_after list script slot) ≡ faulty_before list script start (suc slot) =
        ap (λ found. numbers_of (started_faulty_nodes list script slot found)) started in
        (fates-known run turn slot k refl within less).sound
        ∙ ap (λ b. b && not (has_node (faulty_before list script start (suc slot)) k)) on
        ∙ ap (λ ks. is_on script k slot && not (has_node ks k)) (sym faulty);
    faulty = λ turn within.
        subst (AreLostSince list script start turn)
        (sym (ap (started_faulty_nodes list script (start.slot + turn)) started))
        (since-slot turn (start.slot + turn) refl within);
  }

  -- It is good.

  steady-same : (turn slot : ℕ) → slot ≡ start.slot + turn → slot < script.slots
      → filter (is_steady list script (faulty_before list script start (suc slot))) (below (length list.slots))
      ≡ steady_nodes plan turn
  steady-same turn slot is within =
      same_sieve (is_steady list script (faulty_before list script start (suc slot))) (is_steady_after plan turn)
      (length list.slots) (λ k less.
      let measured = sym (has_node-sieve (λ k. (plan_at list k).sync) (length list.slots) k less) in
      let known = sym (fates-known run turn slot k is within less).sound in
      λ i. measured i && (known ∙ and-true (is_sound_after plan turn k)) i)

  follows-plan : FollowsPlan list script start plan
  follows-plan =
      follows-by run.course [] (good-by run.course []
      (λ turn slot k now within less ever none. sound-before run turn slot k now (omega arith) less ever none)
      (λ r among. absurd (none-among plan r refl among))
      (λ turn within. subst (λ ks. 4 ≤ length ks) (steady-same turn (start.slot + turn) refl within)
      (leb-true 4 _ (run.steady (start.slot + turn) (omega arith) within))))
      run.flips run.bounds (heard-slot run) (λ r among. absurd (none-among plan r refl among))

-- The rules on faults.

single-fault : (list : Medl) (script : Script) (slot : ℕ) → IsValid list → (rules : RulesHold list script slot)
    → IsSingleFault list script rules.start
single-fault list script slot valid rules =
    let start = rules.start in
    record {
      course = record {
        valid = valid;
        alone = alone-start list script start rules.started;
        on = λ k less ever. on-start list script start k rules.started less ever;
        whole = λ t within.
            none-found (breaks_in list script start) 0 script.slots t rules.loss (omega arith) (omega arith);
        none = refl;
        next = λ slot. refl;
        spaced = spaced-all (two_rounds list) (start.slot + two_rounds list)
            (faulty_nodes_before list script start script.slots) rules.distance;
      };
      bounds = within-bounds list script rules.clocks rules.window rules.outside;
      flips = λ k slot c. none-flipped list script k slot c rules.outside;
      steady = λ t after within.
          let rest =
          enough (has_four_steady list script (faulty_nodes_before list script start start.slot)) _ start.slot
          rules.sync in
          not-false (has_four_steady list script (faulty_nodes_before list script start (suc t)))
          (none-found (lacks_steady_after list script start) start.slot (script.slots - start.slot) t rest.1 after
          (omega arith));
    }

pub kept-plan : (list : Medl) (script : Script) (slot : ℕ) → IsValid list → keeps list script ≡ keep.Yes slot
    → KeepsByPlan list script slot
kept-plan list script slot valid keeps =
    let rules = rules-hold list script slot keeps in
    let start = rules.start in
    let run = single-fault list script slot valid rules in
    record {
      start = start;
      started = rules.started;
      from = rules.from;
      alone = run.course.alone;
      on = run.course.on;
      arms = λ k slot. none-armed list script k slot rules.outside;
      follows = record {
        planned = follows-plan run;
        bounds = run.bounds;
        window = inl refl;
      };
      faults = plan-of-faults run rules.started;
      heard = λ k within less other on.
          start-heard list script start (fault_plan_of list script start) k (follows-plan run) within less other on;
    }
