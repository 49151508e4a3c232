use Rattle.std.proofs.Common.{◌∙◌, ap, sym, codes, Some}
use Rattle.std.specs.List.{concat}
use Rattle.commands.specs.Words.{texts_of}
use Rattle.uses.proofs.FromBelow.{right_held, all_written}
use Rattle.ttp_top.specs.Calls.Words.{form_of}
use Rattle.uses.proofs.bench.last_lines.tested.Goals as goal

pub returns-in-0 : goal.returns-in-0
returns-in-0 g c =
    let asked = ap form_of (ap texts_of c.deref.ensures.value ∙ c.in_ok-words.ensures) in
    let w = (c.ask.ensures.answered.of_keeps (codes "list") (codes "script") asked).said c.in-0.is in
    record {
      list = w.medl;
      script = w.right;
      are =
          right_held c.in_ok-library.ensures.list c.in_ok-library.ensures.script w.list_file w.script_file w.are;
      whole =
          all_written c.in_ok-out.ensures.empty
          (ap Some (sym (c.in_ok-from_slice-in-0.ensures.items ∙ c.bytes.ensures))) w.text.wrote
          ∙ ap concat w.text.is;
    }
