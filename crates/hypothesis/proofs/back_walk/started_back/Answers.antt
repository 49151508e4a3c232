use Rattle.hypothesis.proofs.Words.{◌≡◌, ℕ, ◌+◌, max, sym, subst, ◌∙◌, rules, arith, AreKeptFrom, told_start, HasWalked}
use Rattle.hypothesis.proofs.Words.{back_course}
use Rattle.hypothesis.proofs.Walks.{broken-back, walked-back}
use Rattle.hypothesis.proofs.back_walk.started_back.Goals as goal

pub back_over-requires-clause-walked : goal.back_over-requires-clause-walked
back_over-requires-clause-walked c =
    let script = c.args.script.now in
    let start = told_start c.args.start in
    subst (λ t. HasWalked c.args.list.now script start (back_course c.args.list.now script start) t c.loop-slot.walk)
    (sym c.loop-slot.invariant.end) c.loop-slot.invariant.walked

pub back_over-requires-clause-kept : goal.back_over-requires-clause-kept
back_over-requires-clause-kept c = subst (λ (n : ℕ). AreKeptFrom c.args.list.now c.args.script.now n c.loop-slot.kept)
    (sym c.loop-slot.invariant.end) c.loop-slot.invariant.kept

pub loop-slot-init : goal.loop-slot-init
loop-slot-init c = record {
  end = search rules;
  newest = search rules;
  walked =
      c.first_walk-walk.ensures c.args.script.now
      (back_course c.args.list.now c.args.script.now (told_start c.args.start)) c.requires.starts;
  kept = c.nothing_kept-kept.ensures c.args.list.now c.args.script.now 0;
}

pub loop-slot-preserved : goal.loop-slot-preserved
loop-slot-preserved c =
    let list = c.args.list.now in
    let script = c.args.script.now in
    let start = told_start c.args.start in
    record {
      end = search rules;
      newest = search rules;
      walked = subst (λ t. HasWalked list script start (back_course list script start) (t + 1) c.in-Some.next)
          c.loop-slot.invariant.end c.in-Some.ensures.walk;
      kept = subst (λ (n : ℕ). AreKeptFrom list script (n + 1) c.back_over.new.kept) c.loop-slot.invariant.end
          c.back_over.ensures.kept;
    }

pub returns-in-None : goal.returns-in-None
returns-in-None c =
    let found = rw c.loop-slot.invariant.end at c.in-None.ensures.walk in
    broken-back c.args.list.now c.args.script.now
    (told_start c.args.start) c.loop-slot.slot c.loop-slot.walk found.0 c.loop-slot.invariant.walked found.1

pub returns : goal.returns
returns c =
    let last : c.max-slot-end.result ≡ max c.args.script.now.slots c.args.start.slot = search rules in
    c.walked_back.ensures
    ∙ walked-back c.args.list.now c.args.script.now (told_start c.args.start) c.loop-slot.slot c.loop-slot.walk
    (omega (arith, last)) c.loop-slot.invariant.walked
