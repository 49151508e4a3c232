use Rattle.hypothesis.proofs.Words.{◌≡◌, ◌+◌, ◌*◌, ◌<◌, ◌≤◌, replicate, false, length, ap, sym, ◌∙◌, below_more, rules}
use Rattle.hypothesis.proofs.Words.{arith, option_or, first_too_early, told_start, earliest_after, fault_slots_before}
use Rattle.hypothesis.specs.Walks.{two_rounds}
use Rattle.hypothesis.proofs.FaultSlots.{fault_slots-next, earliest_after-append, first_too_early-append}
use Rattle.hypothesis.proofs.walk.walk_with.Goals as goal
use Rattle.hypothesis.proofs.walk.walk_with.Goals.{then-is_within_run-2, else-is_within_run-2}
use Rattle.hypothesis.proofs.walk.walk_with.Goals.{else-is_within_run-via-then-is_within_run+else-faults}
use Rattle.hypothesis.proofs.walk.walk_with.Goals.{else-is_within_run-via-else-is_within_run}

pub returns : goal.returns
returns c = λ course walked made.
    let script = c.args.script.now in
    let start = told_start c.args.start in
    let slot = c.args.slot in
    let gap = two_rounds c.args.list.now in
    let from = start.slot + gap in
    let count = c.if-is_within_run-2.count in
    let before = fault_slots_before script course slot in
    let within : slot < script.slots → count ≡ length (course.joined slot) = λ less. elim c.if-is_within_run-2.branch [
      | then-is_within_run-2 w ↦ w.count-is ∙ made.count
      | else-is_within_run-2 w ↦ absurd (omega arith)
    ] in
    let past : script.slots ≤ slot → count ≡ 0 = λ over. elim c.if-is_within_run-2.branch [
      | then-is_within_run-2 w ↦ absurd (omega arith)
      | else-is_within_run-2 w ↦ w.count-is
    ] in
    let fine : slot < script.slots → course.breaks slot ≡ false = λ less. elim c.else-is_within_run.branch [
      | else-is_within_run-via-then-is_within_run+else-faults w ↦ sym made.breaks ∙ search rules
      | else-is_within_run-via-else-is_within_run w ↦ absurd (omega arith)
    ] in
    let next = fault_slots-next script course slot count within past in
    let size : 2 * c.from-gap.result ≡ gap = search rules in
    let some : 0 < 2 * c.from-gap.result = omega (arith, c.requires.valid.count) in
    record {
      whole = below_more (λ k. k < script.slots → course.breaks k ≡ false) slot walked.whole fine;
      faulty = made.faulty;
      earliest = c.earliest_with.ensures ∙ (λ i. earliest_after (size i) (walked.earliest i) (replicate count slot))
          ∙ sym (earliest_after-append gap from before (replicate count slot))
          ∙ sym (ap (earliest_after gap from) next);
      early = c.early_with.ensures gap (omega (arith, size, some))
          ∙ (λ i. option_or (walked.early i) (first_too_early gap (walked.earliest i) (replicate count slot)))
          ∙ sym (first_too_early-append gap from before (replicate count slot))
          ∙ sym (ap (first_too_early gap from) next);
      unsteady = c.unsteady_with.ensures course walked.faulty made.faulty walked.unsteady;
    }
