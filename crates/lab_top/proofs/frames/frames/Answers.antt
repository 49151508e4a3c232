use Rattle.commands.specs.Files.{trace_plan}
use Rattle.commands.specs.Plan.{outside, ends}
use Rattle.commands.specs.Texts.{alone}
use Rattle.lab_top.proofs.FromBelow.{pair_came, no_pair}
use Rattle.lab_top.specs.Forms.{frames_ending}
use Rattle.lab_top.specs.Texts.{ttplab}
use Rattle.lab_top.proofs.frames.frames.Goals as goal

pub returns-in-Ok : goal.returns-in-Ok
returns-in-Ok g c =
    let later = outside (g.L.Library.files c.judge.new.library) (g.K.Sink.output c.judge.new.out) in
    pair_came ttplab c.args.list.now c.args.script.now
    (λ medl right. trace_plan c.args.trace.now (λ text. ends (frames_ending medl right text))) _ _
    c.in-Ok.medl c.in-Ok.right
    c.in-Ok.ensures.ok later (alone c.judge.result) c.judge.ensures

pub returns-in-Err : goal.returns-in-Err
returns-in-Err g c =
    no_pair ttplab c.args.list.now c.args.script.now
    (λ medl right. trace_plan c.args.trace.now (λ text. ends (frames_ending medl right text))) _ _ c.in-Err.status
    c.in-Err.ensures.err
