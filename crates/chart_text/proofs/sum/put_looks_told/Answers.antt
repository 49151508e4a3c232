use Rattle.chart_text.proofs.Words.{◌++◌, ◌∙◌, ap, sym, List, ℕ, arith, append_assoc, flat_map, below}
use Rattle.chart_text.proofs.Words.{look_told}
use Rattle.ttp_base.proofs.Below.{flat_map-next}
use Rattle.chart_text.proofs.sum.put_looks_told.Goals as goal

pub loop-number-preserved : goal.loop-number-preserved
loop-number-preserved c =
    let told = look_told c.args.counts.now in
    let k = c.loop-number.number in
    record {
      text =
          c.put_look_told.ensures.text ∙ ap (λ (l : List ℕ). l ++ told k) c.loop-number.invariant.text
          ∙ append_assoc c.args.line.now (flat_map told (below k)) (told k)
          ∙ ap (λ (ys : List ℕ). c.args.line.now ++ ys) (sym (flat_map-next told k));
      short = omega arith;
    }
