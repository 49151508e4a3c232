use Rattle.fault_runs.proofs.Words.{◌≡◌, ◌∷◌, [], subst, ◌∙◌, codes, OnOk, WroteLines, Wrote-join, Counts, kept_counts}
use Rattle.fault_runs.proofs.Words.{broken_counts, counts_line, CampaignFault, LeftFewerBy, end_lines}
use Rattle.fault_runs.proofs.Endings.{fewer-after, fewer-more}
use Rattle.fault_runs.proofs.Results.{ok-weaker, err-weaker}
use Rattle.fault_runs.proofs.put.put_end.Goals as goal

pub returns-in-Err-clause-err : goal.returns-in-Err-clause-err
returns-in-Err-clause-err g c = λ list own runs are.
    let kept = counts_line (codes "kept ") (kept_counts list own runs) in
    let broken = counts_line (codes "broken ") (broken_counts list own runs) in
    let formed =
    subst (λ (k : Counts). OnOk c.form_kept-formed.result
    (c.form_kept-formed.new.self.line ≡ counts_line (codes "kept ") k))
    are.kept c.form_kept-formed.ensures.line in
    fewer-more c.in-Err.why (g.K.Sink.output c.args.out.now) (g.K.Sink.output c.put_formed.new.out) (kept ∷ [])
    (broken ∷ []) (c.in-Err.ensures.err kept formed)

pub returns : goal.returns
returns g c =
    let a = g.K.Sink.output c.args.out.now in
    let b = g.K.Sink.output c.put_formed.new.out in
    let d = g.K.Sink.output c.put_formed-2.new.out in
    let kept_formed = λ (k : Counts) (is : c.args.tally.now.kept ≡ k).
    subst (λ (k : Counts). OnOk c.form_kept-formed.result
    (c.form_kept-formed.new.self.line ≡ counts_line (codes "kept ") k))
    is c.form_kept-formed.ensures.line in
    let broken_formed = λ (k : Counts) (is : c.args.tally.now.broken ≡ k).
    subst (λ (k : Counts). OnOk c.form_broken-formed.result
    (c.form_broken-formed.new.self.line ≡ counts_line (codes "broken ") k))
    (c.form_kept-formed.ensures.broken ∙ is) c.form_broken-formed.ensures in
    record {
      ok = λ list own runs are.
          let kept = counts_line (codes "kept ") (kept_counts list own runs) in
          let broken = counts_line (codes "broken ") (broken_counts list own runs) in
          ok-weaker (WroteLines b d (broken ∷ [])) (WroteLines a d (end_lines list own runs)) c.put_formed-2.result
          (λ wrote. Wrote-join a b d (kept ∷ []) (broken ∷ [])
          (c.in_default.ensures.ok kept (kept_formed (kept_counts list own runs) are.kept)) wrote)
          (c.put_formed-2.ensures.ok broken (broken_formed (broken_counts list own runs) are.broken));
      err = λ list own runs are.
          let kept = counts_line (codes "kept ") (kept_counts list own runs) in
          let broken = counts_line (codes "broken ") (broken_counts list own runs) in
          err-weaker (λ (why : CampaignFault). LeftFewerBy why b d (broken ∷ []))
          (λ (why : CampaignFault). LeftFewerBy why a d (end_lines list own runs)) c.put_formed-2.result
          (λ why few. fewer-after why a b d (kept ∷ []) (broken ∷ [])
          (c.in_default.ensures.ok kept (kept_formed (kept_counts list own runs) are.kept)) few)
          (c.put_formed-2.ensures.err broken (broken_formed (broken_counts list own runs) are.broken));
    }
