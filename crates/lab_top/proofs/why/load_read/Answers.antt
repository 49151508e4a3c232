use Rattle.std.proofs.Common.{◌∙◌, inr, subst}
use Rattle.std.specs.Prelude.{codes}
use Rattle.ttp_base.specs.Outside.{Output}
use Rattle.commands.specs.Faults.{file_fault_line}
use Rattle.commands.specs.Files.{refused_script}
use Rattle.commands.specs.Lines.{HasSaid}
use Rattle.lab_top.proofs.FromBelow.{same_said}
use Rattle.lab_top.proofs.why.load_read.Goals as goal

pub returns-in-Err-Told-clause-err : goal.returns-in-Err-Told-clause-err
returns-in-Err-Told-clause-err g c =
    let fault = c.in-Err-Told.fault in
    let unread = rw (c.as_slice.ensures.value, c.in-Err-Told.field-0-is) at c.in-Err-Told.ensures.err in
    inr (record {
      bytes = c.in-Ok.bytes.items;
      asked = c.in-Ok.ensures.ok.asked;
      gives = c.in-Ok.ensures.ok.gives;
      fault = fault;
      wrong = unread;
      said =
          subst (λ (o : Output). HasSaid (refused_script fault) o (g.K.Sink.output c.say.new.out) c.say.result)
          c.in-Ok.ensures.ok.silent
          (same_said 4 _ (file_fault_line (codes "script") fault) _ _ _ (c.bytes.ensures ∙ c.file_fault_line.ensures)
          c.say.ensures);
    })
