use Rattle.hypothesis.proofs.Words.{◌≡◌, ℕ, ◌+◌, ◌-◌, false, inl, inr, ap, sym, subst, ◌∙◌, rules, arith, cases_lt}
use Rattle.hypothesis.proofs.Words.{has_node, numbers_of, four_rounds, slots_before, faulty_since, breaks_arm_in}
use Rattle.hypothesis.proofs.Words.{AreKeptFrom, told_start, HaveSameNodes}
use Rattle.hypothesis.proofs.Ranges.{first-below}
use Rattle.hypothesis.proofs.back_walk.arms_broken.Goals as goal
use Rattle.hypothesis.proofs.back_walk.arms_broken.Goals.{else-has_come-via-then-has_come+else-breaks_arm_in}
use Rattle.hypothesis.proofs.back_walk.arms_broken.Goals.{else-has_come-via-else-has_come}

pub breaks_arm_in-requires-clause-come : goal.breaks_arm_in-requires-clause-come
breaks_arm_in-requires-clause-come c = record { come = omega arith; near = omega arith }

pub breaks_arm_in-requires-clause-kept : goal.breaks_arm_in-requires-clause-kept
breaks_arm_in-requires-clause-kept c = λ t from. c.loop-slot.invariant.arms t (omega (arith, from))

pub back_faults_in-faulty-requires-clause-kept : goal.back_faults_in-faulty-requires-clause-kept
back_faults_in-faulty-requires-clause-kept c =
    λ t from. c.loop-slot.invariant.kept t (omega (arith, from, c.loop-slot.invariant.end))

pub late_arms_broken-requires-clause-kept : goal.late_arms_broken-requires-clause-kept
late_arms_broken-requires-clause-kept c = λ t from. c.loop-slot.invariant.arms t (omega (arith, from))

pub loop-slot-init : goal.loop-slot-init
loop-slot-init c = record {
  end = search rules;
  newest = search rules;
  faulty = λ k small. ap (λ nodes. has_node nodes k) c.empty-faulty.ensures;
  fine = λ t less. absurd (omega (arith, c.requires.valid.count, less));
  kept = c.nothing_kept-kept.ensures c.args.list.now c.args.script.now 0;
  arms = c.nothing_kept-arms.ensures c.args.list.now c.args.script.now (0 + 1 - four_rounds c.args.list.now);
}

pub loop-slot-preserved : goal.loop-slot-preserved
loop-slot-preserved c =
    let list = c.args.list.now in
    let script = c.args.script.now in
    let start = told_start c.args.start in
    let slot = c.loop-slot.slot in
    let now : (t : ℕ) → t + four_rounds list ≡ slot + 1 → breaks_arm_in list script start t ≡ false = λ t is.
    elim c.else-has_come.branch [
      | else-has_come-via-then-has_come+else-breaks_arm_in w ↦
          let same : slot + 1 - c.four_rounds-rounds.result ≡ t = omega (arith, is) in
          ap (breaks_arm_in list script start) (sym same) ∙ sym w.breaks_arm_in.ensures.value ∙ search rules
      | else-has_come-via-else-has_come w ↦ absurd (omega (arith, is))
    ] in
    record {
      end = search rules;
      newest = search rules;
      faulty = subst (λ t. HaveSameNodes c.back_faults_in-faulty.result.faulty
          (numbers_of (faulty_since (slots_before list script start (t + 1))))) c.loop-slot.invariant.end
          c.back_faults_in-faulty.ensures.faults.faulty;
      fine = λ t less. elim (cases_lt slot (t + four_rounds list)) [
        | inl last ↦ now t (omega (arith, less, last))
        | inr earlier ↦ c.loop-slot.invariant.fine t earlier
      ];
      kept = λ t from. c.back_faults_in-faulty.ensures.kept t (omega (arith, from, c.loop-slot.invariant.end));
      arms = elim c.else-has_come.branch [
        | else-has_come-via-then-has_come+else-breaks_arm_in w ↦
            subst (AreKeptFrom list script (slot + 1 + 1 - four_rounds list)) (sym w.arms-is)
            (λ t from. w.breaks_arm_in.ensures.kept t (omega (arith, from)))
        | else-has_come-via-else-has_come w ↦
            subst (AreKeptFrom list script (slot + 1 + 1 - four_rounds list)) (sym w.arms-is)
            (λ t from. c.loop-slot.invariant.arms t (omega (arith, from)))
      ];
    }

pub returns-then-breaks_arm_in : goal.returns-then-breaks_arm_in
returns-then-breaks_arm_in c =
    sym (first-below (breaks_arm_in c.args.list.now c.args.script.now (told_start c.args.start)) c.args.script.now.slots
    (c.loop-slot.slot + 1 - c.four_rounds-rounds.result) (omega (arith, c.requires.valid.count))
    (λ t less. c.loop-slot.invariant.fine t (omega (arith, less))) (sym c.breaks_arm_in.ensures.value ∙ search rules))
