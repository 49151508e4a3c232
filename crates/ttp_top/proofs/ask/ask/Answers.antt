use Rattle.ttp_top.proofs.Terms.{outside, alone, pair_came, no_pair, ttpbench}
use Rattle.ttp_top.specs.Calls.Forms.{plan_told}
use Rattle.ttp_top.proofs.ask.ask.Goals as goal

pub returns-in-Ok : goal.returns-in-Ok
returns-in-Ok g c =
    let later = outside (g.L.Library.files c.tell.new.library) (g.K.Sink.output c.tell.new.out) in
    pair_came ttpbench c.args.list.now c.args.script.now (plan_told c.args.question) _ _ c.in-Ok.medl c.in-Ok.right
    c.in-Ok.ensures.ok later (alone c.tell.result) c.tell.ensures

pub returns-in-Err : goal.returns-in-Err
returns-in-Err g c =
    no_pair ttpbench c.args.list.now c.args.script.now (plan_told c.args.question) _ _ c.in-Err.status
    c.in-Err.ensures.err
