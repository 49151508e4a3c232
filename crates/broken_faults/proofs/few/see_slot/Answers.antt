use Rattle.std.proofs.Common.{◌≡◌, ◌+◌, suc, None, ap, sym, subst, ◌∙◌, arith}
use Rattle.ttp_world.specs.Hypothesis.{numbers_of}
use Rattle.ttp_world.specs.Returning.{slots_before, faulty_since}
use Rattle.hypothesis.specs.Standing.{told_start, HaveSameNodes}
use Rattle.broken_faults.specs.Faults.{faults_before, new_faults_in, newest_fault}
use Rattle.broken_faults.proofs.Newest.{newest-append}
use Rattle.broken_faults.proofs.few.see_slot.Goals as goal

pub returns : goal.returns
returns c =
    let list = c.args.list.now in
    let script = c.args.script.now in
    let start = told_start c.args.start in
    let slot = c.args.slot in
    let next : suc slot ≡ slot + 1 = omega arith in
    record {
      walk = c.step_faults-faults.ensures.at;
      faulty = subst (λ n. HaveSameNodes c.step_faults-faults.result.faulty
          (numbers_of (faulty_since (slots_before list script start n)))) next
          (c.step_faults-faults.ensures.faults start c.requires.start).faulty;
      newest = c.newest_with-seen.ensures.told
          ∙ ap (λ f. newest_fault f (new_faults_in list script start slot)) c.requires.seen.newest
          ∙ sym (newest-append None (faults_before list script start slot) (new_faults_in list script start slot))
          ∙ ap (λ n. newest_fault None (faults_before list script start n)) next;
      known = c.newest_with-seen.ensures.known;
    }
