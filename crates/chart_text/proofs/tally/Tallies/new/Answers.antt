use Rattle.chart_text.proofs.Words.{refl, sym, subst, Tally, IsTally, faults_told_of, no_tally, get_or-replicate}
use Rattle.chart_text.proofs.Tallied.{none-tallied}
use Rattle.chart_text.proofs.tally.Tallies.new.Goals as goal

pub returns : goal.returns
returns c = λ all.
    rw (c.new.ensures, c.new-2.ensures)
    (record {
      whole = none-tallied c.args.size all;
      long = refl;
      each = λ k less.
          subst (λ (t : Tally). IsTally c.args.size t (faults_told_of k all) (faults_told_of k all))
          (sym (get_or-replicate {A = Tally} 24 k no_tally _ less)) (none-tallied c.args.size (faults_told_of k all));
    })
