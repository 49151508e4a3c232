use Rattle.script_text.proofs.Reading.{script_of-read}
use Rattle.script_text.proofs.RightFiles.{answer_valid}
use Rattle.script_text.proofs.read.read_script.Goals as goal

pub returns : goal.returns
returns c =
    let exact =
    script_of-read c.args.list.now c.args.text.now c.in_ok-number.number c.script_from.result
    c.in_ok-number.ensures.faults
    (c.script_from.ensures _ c.in_ok-number.ensures.stands) in
    record {
      exact = exact;
      valid = answer_valid c.args.list.now c.args.text.now c.script_from.result c.requires.valid c.requires.size exact;
    }
