use Rattle.wave_text.proofs.Words.{sym, puts_both, subst, Puts}
use Rattle.wave_text.proofs.Counts.{counted}
use Rattle.wave_text.proofs.change.put_counts.Goals as goal

pub returns : goal.returns
returns g c =
    subst (Puts _ _ _ _) (sym (counted c.args.width c.args.node c.args.before.now c.args.now.now c.requires.counts))
    (puts_both c.put_node_change.ensures c.put_node_change-2.ensures)
