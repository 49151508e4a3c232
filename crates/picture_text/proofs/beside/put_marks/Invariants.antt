use Rattle.picture_text.proofs.Words.{Bool, map, length, Output, host_of, host_mark, column_x, row_y, Puts}
use Rattle.picture_text.proofs.beside.put_marks.Given as goal

-- whatever puts the marks that are left has put all of them
abbrev pub invariant-loop-host_line : goal.invariant-loop-host_line
invariant-loop-host_line g l =
    (fails : Bool) (now : Output)
    → Puts l.sheet.failed (g.K.Sink.output l.out) fails now (map (λ line. host_mark l.slot line
    (column_x l.layout.head.nodes l.layout.span l.slot) (row_y l.layout.head.nodes l.layout.span l.slot (host_of line)))
    l.hosts)
    → Puts l.fn.sheet.failed (g.K.Sink.output l.fn.out) fails now (map (λ line. host_mark l.slot line
    (column_x l.layout.head.nodes l.layout.span l.slot) (row_y l.layout.head.nodes l.layout.span l.slot (host_of line)))
    l.fn.shown.hosts)

abbrev pub decreases-loop-host_line : goal.decreases-loop-host_line
decreases-loop-host_line g l = length l.hosts
