use Rattle.hypothesis.proofs.Words.{◌≡◌, ◌+◌, ◌*◌, ◌<◌, subst, ap, sym, ◌∙◌, rules, arith, IfSome, has_node}
use Rattle.hypothesis.proofs.Words.{first_too_early, numbers_of, told_start, earliest_after, has_four_in, lacks_four_in}
use Rattle.hypothesis.specs.Walks.{two_rounds}
use Rattle.hypothesis.proofs.FaultSlots.{fault_slots-none}
use Rattle.hypothesis.proofs.Firsts.{lack-before}
use Rattle.hypothesis.proofs.Starts.{start_of-later}
use Rattle.hypothesis.proofs.walk.first_walk.Goals as goal

pub returns : goal.returns
returns c = λ script course starts.
    let list = c.args.list.now in
    let start = told_start c.args.start in
    let gap = two_rounds list in
    let none = fault_slots-none script course in
    let later : 0 < start.slot =
    subst (λ found. IfSome found (λ start. 0 < start.slot)) starts (start_of-later list script c.requires.valid) in
    let size : c.args.start.slot + 2 * c.from.result ≡ start.slot + gap = search rules in
    record {
      whole = λ k less within. absurd (omega arith);
      faulty = λ k small. ap (λ nodes. has_node nodes k) c.empty.ensures
          ∙ sym (ap (λ after. has_node (numbers_of after) k) course.clear);
      earliest = size ∙ sym (ap (earliest_after gap (start.slot + gap)) none);
      early = sym (ap (first_too_early gap (start.slot + gap)) none);
      unsteady = sym (lack-before (has_four_in list script course start.slot)
          (lacks_four_in list script course) start.slot 0 later);
    }
