use Rattle.hypothesis.proofs.Words.{ℕ, ◌<◌, length, arith, incidents_of, IsOfKinds}
use Rattle.hypothesis.proofs.incidents.go_on.Goals as goal

pub returns-then-slot-kept-clause-now : goal.returns-then-slot-kept-clause-now
returns-then-slot-kept-clause-now c = (c.requires.kept c.args.slot (omega arith)).all c.if-slot-kept.true

pub returns-clause-now : goal.returns-clause-now
returns-clause-now c =
    let slot = c.args.slot in
    let kinds : (k : ℕ) → k < length c.args.list.now.slots
    → IsOfKinds c.look_up.new.incidents.kinds (incidents_of c.args.script.now k slot) =
    λ k less. c.look_up.ensures.kinds slot k (omega arith) (omega arith) less in
    record {
      nodes = c.look_up.ensures.nodes slot (omega arith) (omega arith);
      kinds = kinds;
      jumps = λ none k less. c.may_jump-kept.ensures c.args.list.now slot k c.requires.valid c.requires.inside none
          (omega arith) (omega arith) (kinds k less);
    }

pub returns-clause-later : goal.returns-clause-later
returns-clause-later c = λ t from. record {
  all = λ before.
      let kinds : (k : ℕ) → k < length c.args.list.now.slots
      → IsOfKinds c.look_up.new.incidents.kinds (incidents_of c.args.script.now k t) =
      λ k less. c.look_up.ensures.kinds t k from (omega (arith, before)) less in
      record {
        nodes = c.look_up.ensures.nodes t from (omega (arith, before));
        kinds = kinds;
        jumps = λ none k less. c.may_jump-kept.ensures c.args.list.now t k c.requires.valid c.requires.inside none from
            (omega (arith, before)) (kinds k less);
      };
  each = c.look_up.ensures.each t from;
}

pub look_up-requires-clause-each : goal.look_up-requires-clause-each
look_up-requires-clause-each c = λ t from. (c.requires.kept t from).each
