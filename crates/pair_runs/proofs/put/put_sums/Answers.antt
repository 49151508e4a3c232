use Rattle.std.proofs.Common.{◌∷◌, [], List, ℕ, subst}
use Rattle.std.specs.Prelude.{codes}
use Rattle.ttp_base.specs.Outside.{WroteLines}
use Rattle.ttp_base.proofs.Outputs.{Wrote-join}
use Rattle.fault_runs.specs.declared.put.CampaignFault.{CampaignFault}
use Rattle.fault_runs.specs.Ends.{LeftFewerBy}
use Rattle.pair_runs.proofs.FromBelow.{fewer-after, fewer-more, more-is_fewer, ok-weaker, err-weaker}
use Rattle.fault_pairs.specs.declared.pair.PairCounts.{PairCounts}
use Rattle.fault_pairs.specs.PairText.{pair_counts_line}
use Rattle.fault_pairs.specs.Sums.{PairTold, pair_counts, told_kept, told_broken}
use Rattle.pair_runs.specs.Written.{distance_lines}
use Rattle.pair_runs.proofs.put.put_sums.Goals as goal

abbrev kept_line : List PairTold → List ℕ
kept_line tolds = pair_counts_line (codes "kept ") (pair_counts (told_kept tolds))

abbrev broken_line : List PairTold → List ℕ
broken_line tolds = pair_counts_line (codes "broken ") (pair_counts (told_broken tolds))

pub returns-in-Err-clause-err : goal.returns-in-Err-clause-err
returns-in-Err-clause-err g c = λ tolds are.
    more-is_fewer c.in-Err.why (g.K.Sink.output c.args.out.now) (g.K.Sink.output c.put_distances.new.out)
    (distance_lines tolds c.args.distances) (kept_line tolds) (broken_line tolds ∷ []) (c.in-Err.ensures.err tolds are)

pub returns-in-Err-put_counts_line-clause-err : goal.returns-in-Err-put_counts_line-clause-err
returns-in-Err-put_counts_line-clause-err g c = λ tolds are.
    let o = g.K.Sink.output c.args.out.now in
    let p = g.K.Sink.output c.put_distances.new.out in
    let q = g.K.Sink.output c.put_counts_line.new.out in
    let why = c.in-Err-put_counts_line.why in
    let left = subst (λ (counts : PairCounts).
    LeftFewerBy why p q (pair_counts_line (codes "kept ") counts ∷ [])) are.kept
    c.in-Err-put_counts_line.ensures.err in
    fewer-after why o p q (distance_lines tolds c.args.distances) (kept_line tolds ∷ broken_line tolds ∷ [])
    (c.in_default.ensures.ok tolds are) (fewer-more why p q (kept_line tolds ∷ []) (broken_line tolds ∷ []) left)

pub returns-clause-ok : goal.returns-clause-ok
returns-clause-ok g c = λ tolds are.
    let o = g.K.Sink.output c.args.out.now in
    let p = g.K.Sink.output c.put_distances.new.out in
    let q = g.K.Sink.output c.put_counts_line.new.out in
    let r = g.K.Sink.output c.put_counts_line-2.new.out in
    let wrote_kept = subst (λ (counts : PairCounts).
    WroteLines p q (pair_counts_line (codes "kept ") counts ∷ [])) are.kept
    c.in_default-put_counts_line.ensures.ok in
    ok-weaker (WroteLines q r (pair_counts_line (codes "broken ") c.args.sums.now.broken ∷ [])) (WroteLines o r _)
    c.put_counts_line-2.result
    (λ wrote. Wrote-join o p r (distance_lines tolds c.args.distances) (kept_line tolds ∷ broken_line tolds ∷ [])
    (c.in_default.ensures.ok tolds are)
    (Wrote-join p q r (kept_line tolds ∷ []) (broken_line tolds ∷ []) wrote_kept
    (subst (λ (counts : PairCounts).
    WroteLines q r (pair_counts_line (codes "broken ") counts ∷ [])) are.broken wrote)))
    c.put_counts_line-2.ensures.ok

pub returns-clause-err : goal.returns-clause-err
returns-clause-err g c = λ tolds are.
    let o = g.K.Sink.output c.args.out.now in
    let p = g.K.Sink.output c.put_distances.new.out in
    let q = g.K.Sink.output c.put_counts_line.new.out in
    let r = g.K.Sink.output c.put_counts_line-2.new.out in
    let wrote_kept = subst (λ (counts : PairCounts).
    WroteLines p q (pair_counts_line (codes "kept ") counts ∷ [])) are.kept
    c.in_default-put_counts_line.ensures.ok in
    err-weaker (λ (why : CampaignFault).
    LeftFewerBy why q r (pair_counts_line (codes "broken ") c.args.sums.now.broken ∷ []))
    (λ (why : CampaignFault). LeftFewerBy why o r _) c.put_counts_line-2.result
    (λ why few. fewer-after why o p r (distance_lines tolds c.args.distances) (kept_line tolds ∷ broken_line tolds ∷ [])
    (c.in_default.ensures.ok tolds are)
    (fewer-after why p q r (kept_line tolds ∷ []) (broken_line tolds ∷ []) wrote_kept
    (subst (λ (counts : PairCounts).
    LeftFewerBy why q r (pair_counts_line (codes "broken ") counts ∷ [])) are.broken few)))
    c.put_counts_line-2.ensures.err
