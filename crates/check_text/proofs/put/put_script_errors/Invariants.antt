use Rattle.std.proofs.Common.{map, take}
use Rattle.script_text.specs.Lines.{lines_of_file}
use Rattle.check_text.specs.At.{IsLineAt}
use Rattle.check_text.specs.Lines.{script_line}
use Rattle.check_text.specs.Page.{PutsOn}
use Rattle.check_text.proofs.put.put_script_errors.Given as goal

-- the lines so far were put, and the line of the text is one of it
abbrev pub invariant-loop-error : goal.invariant-loop-error
invariant-loop-error g l =
    IsLineAt l.file.text.now l.at
    × PutsOn l.fn.page.ended (g.K.Sink.output l.fn.out) l.page.ended (g.K.Sink.output l.out)
    (map (script_line l.file.name.now (lines_of_file l.file.text.now)) (take l.error-index l.errors))
