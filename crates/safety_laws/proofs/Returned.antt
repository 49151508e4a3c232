-- A script whose armed nodes get their places again, by its plan.
use Rattle.safety_laws.proofs.BackWords.{◌≡◌, ℕ, suc, ◌+◌, ◌-◌, ◌<◌, ◌≤◌, length, ◌∙◌}
use Rattle.safety_laws.proofs.BackWords.{arith, Medl, Script, IsValid, returns}
use Rattle.safety_laws.proofs.BackWords.{IsValidScript, back_plan_of, ReturnsByPlan}
use Rattle.ttp_world.specs.BackSafety.{IsBackSafe}
use Rattle.ttp_world.specs.Legal.{IsLegal}
use Rattle.ttp_world.specs.World.{Numbers, world}
use Rattle.ttp_world.proofs.Worlds.{length-world}
use Rattle.safety_laws.proofs.ReturnsByPlan.{returned-by_plan}
use Rattle.safety_laws.specs.PlannedRun.{IsBegunAlone, StandsBack}
use Rattle.safety_laws.specs.ByPlan.{IsByPlan}
use Rattle.safety_laws.proofs.SafeBack.{safe-back}
use Rattle.safety_laws.proofs.Together.{clocks-hold, run-by_plan}
use Rattle.ttp_world.specs.declared.keep.Back.TheVariants as back

module _ (list : Medl) (script : Script) (slot : ℕ) (valid : IsValid list) (script_valid : IsValidScript list script)
    (kept : returns list script ≡ back.Yes slot) where
  pub by_plan : ReturnsByPlan list script slot
  by_plan = returned-by_plan list script slot valid script_valid kept

  begun : slot < script.slots → IsBegunAlone list script by_plan.start (back_plan_of list script by_plan.start)
  begun inside = record {
    planned = record {
      valid = valid;
      script_valid = script_valid;
      follows = by_plan.follows.planned;
      arms = λ k turn node lost. by_plan.arms k turn node;
    };
    alone = by_plan.alone;
    heard = λ k node other on.
        by_plan.heard k (let from = by_plan.from in omega (arith, inside, from)) node other on;
  }

  module _ (numbers : Numbers) (legal : IsLegal list script numbers) (after : slot < length numbers)
      (within : length numbers ≤ script.slots) where
    count : length numbers ≡ suc (by_plan.start.slot + (length numbers - suc slot))
    count = let from = by_plan.from in omega (arith, after, from)

    run : IsByPlan list script by_plan.start (back_plan_of list script by_plan.start) (length numbers - suc slot)
        (world list script numbers)
    run =
        let number = count in
        run-by_plan list script by_plan.start (back_plan_of list script by_plan.start)
        (begun (omega (arith, after, within)))
        (clocks-hold list script by_plan.start (back_plan_of list script by_plan.start) valid by_plan.follows)
        (length numbers - suc slot) numbers number (omega (arith, number, within)) legal

    pub returned-stands : StandsBack list script by_plan.start (back_plan_of list script by_plan.start)
        (length numbers - suc slot) (world list script numbers)
    returned-stands =
        let number = count in
        record {
          stands = record {
            planned = (begun (omega (arith, after, within))).planned;
            number = length-world list script numbers ∙ number;
            within = omega (arith, number, within);
            holds = run.holds;
          };
          returns = by_plan.returns;
        }

    pub returned-safe : IsBackSafe list script (world list script numbers)
    returned-safe =
        safe-back list script by_plan.start (back_plan_of list script by_plan.start) (length numbers - suc slot)
        (world list script numbers) returned-stands
