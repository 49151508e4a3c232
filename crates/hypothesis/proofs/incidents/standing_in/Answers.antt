use Rattle.std.proofs.Common.{◌≡◌, sym, ap, ◌∙◌, inl, inr, arith}
use Rattle.std.proofs.lemmas.Bool.{cases_lt}
use Rattle.ttp_world.specs.Script.{incidents_of}
use Rattle.hypothesis.proofs.incidents.standing_in.Goals as goal

pub returns-then-slot-standing : goal.returns-then-slot-standing
returns-then-slot-standing c = λ t from before. c.requires t from (omega (arith, before, c.if-slot-standing.true))

pub returns : goal.returns
returns c = λ t from before. elim (cases_lt t c.incidents_from.result.until) [
  | inl less ↦ c.incidents_from.ensures.stands t from less
  | inr other ↦
      let same : t ≡ c.args.slot = omega (arith, from, before, other) in
      ap (incidents_of c.args.script.now c.args.node) same ∙ sym c.incidents_from.ensures.value
]
