use Rattle.fault_runs.proofs.Words.{campaign_lines}
use Rattle.fault_runs.proofs.Endings.{err-cut, err-fewer}
use Rattle.fault_runs.proofs.Wholes.{none-written}
use Rattle.fault_runs.proofs.put.put_campaign.Goals as goal

pub returns-in_default-clause-memory : goal.returns-in_default-clause-memory
returns-in_default-clause-memory g c = λ same.
    none-written c.args.list.now c.args.script.now c.args.first c.args.last (g.K.Sink.output c.args.out.now)

pub returns-in_default-new-clause-memory : goal.returns-in_default-new-clause-memory
returns-in_default-new-clause-memory g c = λ same.
    none-written c.args.list.now c.args.script.now c.args.first c.args.last (g.K.Sink.output c.args.out.now)

pub returns : goal.returns
returns g c =
    let a = g.K.Sink.output c.args.out.now in
    let b = g.K.Sink.output c.put_lines.new.out in
    let lines = campaign_lines c.args.list.now c.args.script.now c.args.first c.args.last in
    record {
      ok = c.put_lines.ensures.ok;
      failed = λ same. err-cut c.put_lines.result a b lines c.put_lines.ensures.err same;
      memory = λ same. err-fewer c.put_lines.result a b lines c.put_lines.ensures.err same;
    }
