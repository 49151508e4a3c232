use Rattle.hypothesis.proofs.Words.{◌≡◌, suc, ◌+◌, ◌-◌, ap, sym, ◌∙◌, arith, has_node, numbers_of, four_rounds}
use Rattle.hypothesis.proofs.SlotSteps.{slots_before-at}
use Rattle.ttp_world.proofs.WorldFacts.{get-none as slots_before-past}
use Rattle.hypothesis.proofs.forgiven.faulty_then.Goals as goal

pub returns-then-newest-rounds : goal.returns-then-newest-rounds
returns-then-newest-rounds c = λ list script start rounds are k small. ap (λ nodes. has_node nodes k) c.empty.ensures
    ∙ sym (ap (λ s. has_node (numbers_of s.stayed) k)
    (slots_before-past list script start c.args.newest.now.end (four_rounds list - 1) (omega (arith, rounds))))

pub returns-else-newest-rounds : goal.returns-else-newest-rounds
returns-else-newest-rounds c = λ list script start rounds are k small.
    let t = c.args.newest.now.end - c.args.rounds in
    let turn : suc (t + (four_rounds list - 1)) ≡ c.args.newest.now.end = omega (arith, rounds) in
    (c.slot_at.ensures list script start are).stayed k small ∙ sym (ap (λ nodes. has_node (numbers_of nodes) k)
    (slots_before-at list script start c.args.newest.now.end (four_rounds list - 1) t turn))
