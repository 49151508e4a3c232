use Rattle.script_text.proofs.Terms.{[], ◌∷◌, length, arith, ap}
use Rattle.script_text.proofs.WordCuts.{length-held}
use Rattle.script_text.proofs.words.Words.len.Goals as goal

pub returns : goal.returns
returns c =
    let w = c.self.inside in
    let count = length-held (w.second ∷ w.third ∷ w.fourth ∷ w.fifth ∷ w.sixth ∷ []) c.self.invariant in
    omega (
      arith,
      count,
      ap length c.self.view_is,
      c.count.ensures,
      c.count-2.ensures,
      c.count-3.ensures,
      c.count-4.ensures,
      c.count-5.ensures,
    )
