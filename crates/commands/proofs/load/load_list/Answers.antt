use Rattle.std.proofs.Common.{◌∙◌, inl, inr, rules}
use Rattle.std.specs.Prelude.{codes}
use Rattle.commands.specs.Faults.{file_fault_line}
use Rattle.commands.proofs.Loads.{same_said}
use Rattle.commands.proofs.load.load_list.Goals as goal

pub returns-in-Err-Told-clause-err : goal.returns-in-Err-Told-clause-err
returns-in-Err-Told-clause-err g c =
    inr (record {
      bytes = c.in-Ok.bytes.items;
      asked = record { load = c.load.ensures.asks; quiet = search rules; keeps = c.load.ensures.keeps };
      gives = c.in-Ok.ensures.bytes;
      fault = c.in-Err-Told.fault;
      wrong = rw (c.as_slice.ensures.value, c.in-Err-Told.field-0-is) at c.in-Err-Told.ensures.err;
      said =
          same_said 3 _ (file_fault_line (codes "list") c.in-Err-Told.fault) _ _ _
          (c.bytes.ensures ∙ c.file_fault_line.ensures)
          c.say.ensures;
    })

pub returns-in-Err-Failed-clause-err : goal.returns-in-Err-Failed-clause-err
returns-in-Err-Failed-clause-err g c =
    inl (inl (
      record {
        load = c.load.ensures.asks;
        risen = search rules;
        count = c.load.ensures.count;
        keeps = c.load.ensures.keeps;
      },
      c.say-in-Err-Failed.ensures,
    ))
