use Rattle.picture_text.proofs.Words.{◌≡◌, ◌+◌, drop, flat_map, range_with_len, beside_lines, slot_at, Puts}
use Rattle.picture_text.proofs.picture.put_all_beside.Given as goal

-- the slots so far are behind, and their lines were put
abbrev pub invariant-loop-passed : goal.invariant-loop-passed
invariant-loop-passed g l = record {
  left : l.left ≡ drop (l.layout.span.first + l.passed) l.trace.slots;
  puts :
      Puts l.fn.sheet.failed (g.K.Sink.output l.fn.out) l.sheet.failed (g.K.Sink.output l.out)
      (flat_map (λ t. beside_lines l.layout.head.nodes l.layout.span t (slot_at l.trace t))
      (range_with_len l.layout.span.first l.passed));
}
