use Rattle.fault_runs.proofs.Words.{map, WroteLines, summary, summary_with, campaign_lines, CampaignFault}
use Rattle.fault_runs.proofs.Words.{LeftFewerBy, end_lines, all_tried}
use Rattle.fault_runs.proofs.Wholes.{front-left, faults-left, counts-left, all-written}
use Rattle.fault_runs.proofs.Results.{ok-weaker, err-weaker}
use Rattle.fault_runs.proofs.put.put_lines.Goals as goal

pub returns-in-Err-clause-err : goal.returns-in-Err-clause-err
returns-in-Err-clause-err g c =
    let common = c.args.common.now in
    front-left common.list.now common.script.now common.first common.last c.in-Err.why
    (g.K.Sink.output c.args.out.now) (g.K.Sink.output c.put_front.new.out) c.in-Err.ensures.err

pub returns-in-Err-put_slots-clause-err : goal.returns-in-Err-put_slots-clause-err
returns-in-Err-put_slots-clause-err g c =
    let common = c.args.common.now in
    faults-left common.list.now common.script.now common.first common.last
    c.in-Err-put_slots.why (g.K.Sink.output c.args.out.now) (g.K.Sink.output c.put_front.new.out)
    (g.K.Sink.output c.put_slots.new.out) c.in_default.ensures.ok c.in-Err-put_slots.ensures.err

pub returns : goal.returns
returns g c =
    let list = c.args.common.now.list.now in
    let script = c.args.common.now.script.now in
    let first = c.args.common.now.first in
    let last = c.args.common.now.last in
    let a = g.K.Sink.output c.args.out.now in
    let b = g.K.Sink.output c.put_front.new.out in
    let d = g.K.Sink.output c.put_slots.new.out in
    let e = g.K.Sink.output c.put_end.new.out in
    let front = c.in_default.ensures.ok in
    let faults = c.in_default-put_slots.ensures.ok in
    let counts = c.in_default-put_slots.ensures.told in
    let own = (summary list script).cost in
    let runs = map (summary_with list script) (all_tried c.args.common.now) in
    record {
      ok =
          ok-weaker (WroteLines d e (end_lines list own runs)) (WroteLines a e (campaign_lines list script first last))
          c.put_end.result (λ end. all-written list script first last a b d e front faults end)
          (c.put_end.ensures.ok list own runs counts);
      err =
          err-weaker (λ (why : CampaignFault). LeftFewerBy why d e (end_lines list own runs))
          (λ (why : CampaignFault). LeftFewerBy why a e (campaign_lines list script first last)) c.put_end.result
          (λ why few. counts-left list script first last why a b d e front faults few)
          (c.put_end.ensures.err list own runs counts);
    }
