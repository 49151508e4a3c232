use Rattle.std.proofs.Common.{refl}
use Rattle.std.specs.Fmt.{digits}
use Rattle.script_text.specs.Lines.{lines_of_file, words_of_line}
use Rattle.script_text.specs.Faults.{statement_faults, stated_faults, form_faults, line_faults, statements_after}
use Rattle.script_text.specs.ScriptFile.{stated_script, lines_script, script_of}
use Rattle.world_rows.proofs.script_files.busy_hosts.Goals as goal

pub returns : goal.returns
unfolding digits lines_of_file words_of_line statement_faults stated_faults form_faults line_faults statements_after
    stated_script lines_script script_of
returns c = record { script = refl }
