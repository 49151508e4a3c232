use Rattle.std.proofs.Common.{◌≡◌, ◌+◌, ◌*◌, ◌≤◌, ◌++◌, length, map}
use Rattle.line_form.specs.Kinds.{hexed}
use Rattle.margin_text.proofs.FromBelow.{joined_front}
use Rattle.ttp_base.specs.NodeSet.{set_bits}
use Rattle.ttp_world.specs.Trace.{member_digits}
use Rattle.margin_text.proofs.put.put_joined.Given as goal

abbrev pub invariant-loop-place : goal.invariant-loop-place
invariant-loop-place l = record {
  text : l.line ≡ l.fn.line ++ joined_front (hexed (member_digits l.list)) (map set_bits l.sets) l.place;
  short : length l.line ≤ length l.fn.line + 7 * l.place;
}
