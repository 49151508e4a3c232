use Rattle.std.proofs.Common.{map, get_or}
use Rattle.ttp_base.specs.NodeSet.{below}
use Rattle.list_errors.specs.declared.error.Wrong.TheVariants as wrongs
use Rattle.check_text.specs.Lines.{list_line, nth_place}
use Rattle.check_text.specs.Page.{PutsOn}
use Rattle.check_text.proofs.put.put_list_lines.Given as goal

-- the lines so far were put
abbrev pub invariant-loop-i : goal.invariant-loop-i
invariant-loop-i g l =
    PutsOn l.fn.page.ended (g.K.Sink.output l.fn.out) l.page.ended (g.K.Sink.output l.out)
    (map (λ i. list_line l.name l.side.measures.rounds l.side.measures.modes l.side.stop (nth_place l.side.places i)
    (get_or l.side.wrongs i wrongs.NotToml)) (below l.i))
