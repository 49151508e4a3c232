use Rattle.trace_run.proofs.run.TraceRun.new.Goals as goal

pub returns : goal.returns
returns c = λ script. record {
  same = c.in_ok-new.ensures.list;
  plant = c.in_ok-new.ensures.stands script;
  outgoing = c.in_ok-new-2.ensures script;
}
