use Rattle.std.proofs.Common.{◌≡◌, [], ◌∷◌, sym, ap, ◌∙◌, w64, FitsSigned, to_z, of_z, rules}
use Rattle.std.proofs.lemmas.Int.{to_z-of_z}
use Rattle.ttp_world.specs.Clock.{fta, middle_half}
use Rattle.ttp_world.proofs.Averages.{fta-take}
use Rattle.node_parts.proofs.Halves.{middle_half-between}
use Rattle.node_parts.proofs.KeptNotes.{four_kept, fta-few}
use Rattle.node_parts.proofs.fta_sync.measures.Measures.correction.Goals as goal

pub returns-then-self-lt4-clause-average : goal.returns-then-self-lt4-clause-average
returns-then-self-lt4-clause-average c notes stands =
    let m = c.self.inside in
    sym (fta-few m.count m.newest m.second m.third m.fourth c.if-self-lt4.true) ∙ ap fta (c.self.view_is ∙ stands)
    ∙ fta-take notes

-- all four places hold a note
four_noted : (c : goal.After-middle_half) → c.args.self.now
    ≡ c.self.inside.newest ∷ c.self.inside.second ∷ c.self.inside.third ∷ c.self.inside.fourth ∷ []
four_noted c =
    let m = c.self.inside in
    sym c.self.view_is
    ∙ four_kept m.count m.newest m.second m.third m.fourth c.if-self-lt4.false c.self.invariant.few

-- the call answers the average of the four
average_is : (c : goal.After-middle_half)
    → to_z w64 (of_z w64 c.middle_half.result)
    ≡ middle_half (c.self.inside.newest ∷ c.self.inside.second ∷ c.self.inside.third ∷ c.self.inside.fourth ∷ [])
average_is c =
    let m = c.self.inside in
    let average : FitsSigned w64 c.middle_half.result = search rules in
    let newest : FitsSigned w64 m.newest = search rules in
    let second : FitsSigned w64 m.second = search rules in
    let third : FitsSigned w64 m.third = search rules in
    let fourth : FitsSigned w64 m.fourth = search rules in
    to_z-of_z w64 c.middle_half.result average
    ∙ (rw (
      to_z-of_z w64 m.newest newest,
      to_z-of_z w64 m.second second,
      to_z-of_z w64 m.third third,
      to_z-of_z w64 m.fourth fourth,
    ) at c.middle_half.ensures.value)

pub returns-else-self-lt4-clause-value : goal.returns-else-self-lt4-clause-value
returns-else-self-lt4-clause-value c = average_is c ∙ ap fta (sym (four_noted c))

pub returns-else-self-lt4-clause-average : goal.returns-else-self-lt4-clause-average
returns-else-self-lt4-clause-average c notes stands =
    average_is c ∙ ap fta (sym (four_noted c) ∙ stands) ∙ fta-take notes

pub returns-else-self-lt4-clause-between : goal.returns-else-self-lt4-clause-between
returns-else-self-lt4-clause-between c low high full three =
    let m = c.self.inside in
    let here = rw (four_noted c) at three in
    rw (average_is c) (middle_half-between low high m.newest m.second m.third m.fourth here)
