use Rattle.std.proofs.Common.{ℕ, List, [], ◌∷◌, subst}
use Rattle.ttp_base.specs.Outside.{WroteLines}
use Rattle.ttp_base.proofs.Outputs.{Wrote-join}
use Rattle.campaign.specs.Lines.{own_line, summary}
use Rattle.clock_margins.specs.MarginText.{margins_head}
use Rattle.fault_runs.specs.declared.put.CampaignFault.{CampaignFault}
use Rattle.fault_runs.specs.Ends.{LeftFewerBy}
use Rattle.margin_runs.proofs.FromBelow.{fewer-after, fewer-more, ok-weaker, err-weaker}
use Rattle.margin_runs.specs.Written.{lines_in_front}
use Rattle.margin_runs.proofs.put.put_front.Goals as goal

pub returns-in-Err-clause-err : goal.returns-in-Err-clause-err
returns-in-Err-clause-err g c =
    let head = margins_head c.args.common.now.list.now c.args.common.now.script.now c.args.asked in
    let own = own_line c.args.common.now.list.now (summary c.args.common.now.list.now c.args.common.now.script.now) in
    let a = g.K.Sink.output c.args.out.now in
    let b = g.K.Sink.output c.put_line.new.out in
    fewer-more c.in-Err.why a b (head ∷ []) (own ∷ [])
    (subst (λ (text : List ℕ). LeftFewerBy c.in-Err.why a b (text ∷ [])) c.form_head.ensures c.in-Err.ensures.err)

pub returns : goal.returns
returns g c =
    let list = c.args.common.now.list.now in
    let script = c.args.common.now.script.now in
    let head = margins_head list script c.args.asked in
    let own = own_line list (summary list script) in
    let a = g.K.Sink.output c.args.out.now in
    let b = g.K.Sink.output c.put_line.new.out in
    let d = g.K.Sink.output c.put_own_line.new.out in
    let wrote =
    subst (λ (text : List ℕ). WroteLines a b (text ∷ [])) c.form_head.ensures c.in_default.ensures.ok in
    record {
      ok =
          ok-weaker (WroteLines b d (own ∷ []))
          (WroteLines a d (lines_in_front list script c.args.asked)) c.put_own_line.result
          (λ more. Wrote-join a b d (head ∷ []) (own ∷ []) wrote more) c.put_own_line.ensures.ok;
      err =
          err-weaker (λ (why : CampaignFault). LeftFewerBy why b d (own ∷ []))
          (λ (why : CampaignFault). LeftFewerBy why a d (lines_in_front list script c.args.asked)) c.put_own_line.result
          (λ why few. fewer-after why a b d (head ∷ []) (own ∷ []) wrote few) c.put_own_line.ensures.err;
    }
