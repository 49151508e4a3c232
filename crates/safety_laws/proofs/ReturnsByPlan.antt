-- A script whose test says that its armed nodes are guaranteed their places follows its plan.
use Rattle.safety_laws.proofs.BackWords.{◌≡◌, ℕ, suc, ◌+◌, ◌-◌, ◌<◌, ◌≤◌, false, length}
use Rattle.safety_laws.proofs.BackWords.{refl, sym, inr, arith, not-false}
use Rattle.safety_laws.proofs.BackWords.{false_from_ne_true, Medl, Script, ClusterStart}
use Rattle.safety_laws.proofs.BackWords.{IsValid, two_rounds, slots_before}
use Rattle.safety_laws.proofs.BackWords.{joinings, has_four_before, breaks_arm_in}
use Rattle.safety_laws.proofs.BackWords.{returns, is_armed, IsValidScript, arms}
use Rattle.safety_laws.proofs.BackWords.{none-found, back_plan_of, ReturnsByPlan}
use Rattle.ttp_world.specs.Returning.{breaks_back_in}
use Rattle.ttp_world.specs.Returning.{lacks_four_after}
use Rattle.ttp_world.proofs.Starts.{alone-start, on-start}
use Rattle.safety_laws.specs.Kept.{FollowsPlan}
use Rattle.safety_laws.proofs.Spaced.{spaced-all}
use Rattle.safety_laws.proofs.CoursePlans.{enough, follows-by, start-heard}
use Rattle.safety_laws.proofs.ArmLines.{armed-same}
use Rattle.safety_laws.proofs.Arms.{armed-in}
use Rattle.safety_laws.proofs.BackBounds.{back-bounds, back-flipped, back-window}
use Rattle.safety_laws.proofs.BackGood.{back-good}
use Rattle.safety_laws.proofs.BackRules.{BackRulesHold, back-rules-hold}
use Rattle.safety_laws.proofs.BackSlots.{back-heard}
use Rattle.safety_laws.proofs.Offers.{offered}
use Rattle.safety_laws.proofs.ReturnedPlan.{returned-plan}
use Rattle.safety_laws.proofs.BackRuns.{IsBackRun, armed-may}
use Rattle.safety_laws.proofs.Standing.{arm-late}
use Rattle.ttp_world.specs.declared.keep.Back.TheVariants as back

back-run : (list : Medl) (script : Script) (slot : ℕ) → IsValid list → IsValidScript list script
    → (rules : BackRulesHold list script slot) → IsBackRun list script rules.start
back-run list script slot valid valid_script rules =
    let start = rules.start in
    record {
      course = record {
        valid = valid;
        alone = alone-start list script start rules.started;
        on = λ k less ever. on-start list script start k rules.started less ever;
        whole = λ t within.
            none-found (breaks_back_in list script start) 0 script.slots t rules.loss (omega arith) (omega arith);
        none = refl;
        next = λ slot. refl;
        spaced = spaced-all (two_rounds list) (start.slot + two_rounds list)
            (joinings (slots_before list script start script.slots)) rules.distance;
      };
      script_valid = valid_script;
      bounds = back-bounds list script valid rules.clocks rules.window rules.disturbance;
      flips = λ k slot c. back-flipped list script k slot c rules.disturbance;
      steady = λ t after within.
          let rest = enough (has_four_before list script start start.slot) _ start.slot rules.sync in
          not-false (has_four_before list script start (suc t))
          (none-found (lacks_four_after list script start) start.slot (script.slots - start.slot) t rest.1 after
          (omega arith));
      armed = λ k t less within armed.
          armed-may list script start k t
          (none-found (breaks_arm_in list script start) 0 script.slots t rules.arms (omega arith) (omega arith)) less
          armed;
    }

module _ {list : Medl} {script : Script} {start : ClusterStart} (run : IsBackRun list script start) where
  follows-plan : FollowsPlan list script start (back_plan_of list script start)
  follows-plan =
      follows-by run.course (back_plan_of list script start).returns (back-good run) run.flips run.bounds
      (back-heard run) (offered run)

  -- no node is armed before the start
  early-unarmed : (k slot : ℕ) → k < length list.slots → slot ≤ start.slot → is_armed script k slot ≡ false
  early-unarmed k slot less early = false_from_ne_true _ (λ armed.
      let late = arm-late run (armed-in run k slot armed) in
      omega (arith, late, early, run.course.valid.count))

pub returned-by_plan : (list : Medl) (script : Script) (slot : ℕ) → IsValid list → IsValidScript list script
    → returns list script ≡ back.Yes slot → ReturnsByPlan list script slot
returned-by_plan list script slot valid valid_script returns =
    let rules = back-rules-hold list script slot returns in
    let run = back-run list script slot valid valid_script rules in
    let start = rules.start in
    record {
      start = rules.start;
      started = rules.started;
      from = rules.from;
      alone = run.course.alone;
      on = run.course.on;
      early = early-unarmed run;
      arms = λ k turn less. sym (armed-same list script start turn k);
      follows = record {
        planned = follows-plan run;
        bounds = run.bounds;
        window = inr (back-window list rules.window);
      };
      returns = returned-plan run rules.started;
      heard = λ k within less other on.
          start-heard list script start (back_plan_of list script start) k (follows-plan run) within less other on;
    }
