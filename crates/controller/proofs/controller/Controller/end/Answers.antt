use Rattle.controller.proofs.Words.{◌≡◌, w64, rules, ap, ◌∙◌, refl, arith, to_z-of_z, past_after, SlotSurroundings}
use Rattle.controller.proofs.Words.{status_words, kept, turn_intent}
use Rattle.controller.proofs.Endings.{IsEnded, ended-by, past_after-near}
use Rattle.controller.proofs.Standing.{Ends-controller}
use Rattle.controller.proofs.controller.Controller.end.Goals.{After-ending_of-entry}
use Rattle.controller.proofs.controller.Controller.end.Goals as goal

-- the slot as it ended
ended : (c : After-ending_of-entry) → IsEnded c.ending_of-entry.result c.ending_of-entry.new.delivered
    c.self.inside.given.value c.self.inside.number c.self.inside.node c.args.act c.args.jump c.args.message
    c.args.a.now c.args.b.now c.args.error
ended c =
    let turn = rw (← c.self.view_is) at c.requires.turn in
    ended-by _ _ _ _ _ c.args.drift c.offset.result c.self.invariant turn
    (rw (← c.self.view_is, turn) at c.requires.a) (rw (← c.self.view_is, turn) at c.requires.b)
    (search rules) (search rules) (search rules) c.offset.ensures
    (rw (rw (← c.self.view_is) at c.requires.list) at c.ending_of-entry.ensures.ends)

pub enter-requires-clause-entry : goal.enter-requires-clause-entry
enter-requires-clause-entry c =
    rw (rw (← c.self.view_is) at c.requires.list)
    (ended (goal.at.enter-requires-clause-entry c).After-ending_of-entry).made.within

abbrev around : goal.After-self-2-1 → SlotSurroundings
around c = record { jump = c.args.jump; drift = c.args.drift; is_silent = c.are_silent.result }

entered : (c : goal.After-self-2-1) → c.enter.new.self
    ≡ kept (past_after c.self.inside.given.value c.self.inside.number c.self.inside.node c.ending_of-entry.result
    (around c))
entered c =
    rw (
      to_z-of_z w64 c.args.jump (search rules),
      to_z-of_z w64 c.args.drift (search rules),
      rw (← c.self.view_is) at c.requires.list,
    ) at c.enter.ensures.value

pub invariant_of-self : goal.invariant_of-self
invariant_of-self c =
    let turn = rw (← c.self.view_is) at c.requires.turn in
    let is = ended (goal.at.invariant_of-self c).After-ending_of-entry in
    record {
      valid = c.self.invariant.valid;
      node = c.self.invariant.node;
      within = rw (rw (← c.self.view_is) at c.requires.list) at c.enter.ensures.within;
      clock = omega (
        arith,
        past_after-near (around c) c.self.invariant is.made (entered c),
        rw (← c.self.view_is, turn) at c.requires.a,
        rw (← c.self.view_is, turn) at c.requires.b,
      );
      turn = tt;
      intent = c.self.invariant.intent ∙ ap (turn_intent c.self.inside.given.value c.self.inside.node) turn;
    }

pub returns-clause-ends : goal.returns-clause-ends
returns-clause-ends c =
    let n = c.self.inside in
    let same = rw (← c.self.view_is) at c.requires.list in
    rw (← c.self.view_is)
    (Ends-controller n.slots c.enter.new.self c.saturating_add-self-inside.result _ c.ending_of-entry.result
    c.ending_of-entry.new.delivered c.args.a.now c.args.b.now c.args.error c.args.drift c.are_silent.result
    c.self.invariant (rw (← c.self.view_is) at c.requires.turn)
    (ended (goal.at.returns-clause-ends c).After-ending_of-entry).ends c.are_silent.ensures (entered c)
    c.saturating_add-self-inside.ensures refl
    (c.status_words-outcome.ensures
    ∙ (λ i. status_words (same i) n.slots c.enter.new.self (c.is_some-delivers.ensures i))))

pub returns-clause-clock : goal.returns-clause-clock
returns-clause-clock c =
    rw (← c.self.view_is, rw (← c.self.view_is) at c.requires.turn)
    (past_after-near (around c) c.self.invariant (ended (goal.at.returns-clause-clock c).After-ending_of-entry).made
    (entered c))
