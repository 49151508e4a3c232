use Rattle.picture_text.proofs.Words.{subst, refl, map, List, HostLine, host_of, host_mark, column_x, row_y, Puts}
use Rattle.picture_text.proofs.Rows.{rest_first, rest_none}
use Rattle.picture_text.proofs.beside.put_marks.Goals as goal

pub loop-host_line-init : goal.loop-host_line-init
loop-host_line-init g c fails now puts =
    subst (λ (lines : List HostLine). Puts c.args.sheet.now.failed (g.K.Sink.output c.args.out.now) fails now
    (map (λ line. host_mark c.args.slot line (column_x c.args.layout.head.nodes c.args.layout.span c.args.slot)
    (row_y c.args.layout.head.nodes c.args.layout.span c.args.slot (host_of line))) lines)) c.hosts-hosts.ensures puts

pub loop-host_line-preserved : goal.loop-host_line-preserved
loop-host_line-preserved g c fails now puts =
    c.loop-host_line.invariant fails now
    (rest_first (λ line. host_mark c.args.slot line (column_x c.args.layout.head.nodes c.args.layout.span c.args.slot)
    (row_y c.args.layout.head.nodes c.args.layout.span c.args.slot (host_of line)))
    c.loop-host_line.hosts c.next_line.new.self c.in-Some.host_line c.make_host_mark.new.line _ _ _ _ _ _
    c.in-Some.ensures.some c.write.ensures c.make_host_mark.ensures puts)

pub returns : goal.returns
returns g c =
    c.loop-host_line.invariant c.loop-host_line.sheet.failed (g.K.Sink.output c.loop-host_line.out)
    (rest_none (λ line. host_mark c.args.slot line (column_x c.args.layout.head.nodes c.args.layout.span c.args.slot)
    (row_y c.args.layout.head.nodes c.args.layout.span c.args.slot (host_of line)))
    c.loop-host_line.hosts _ _ (c.in_default.ensures.none refl))
