use Rattle.std.proofs.Common.{◌≡◌, ◌==◌, true, false, [], length, arith}
use Rattle.std.proofs.lemmas.Grind.{common_steps}
use Rattle.toml_parser.specs.Lexical.{first}
use Rattle.list_places.proofs.Marking.{empty_keys}
use Rattle.list_places.proofs.Turning.{keys_inside, no_keys}
use Rattle.list_places.proofs.marks.keys_at.Goals as goal

pub returns-then-first-eq123 : goal.returns-then-first-eq123
returns-then-first-eq123 c =
    let s = c.args.s.now in
    let is : (first s == 123) ≡ true = grind (arith, common_steps) in
    let keys = rw c.skip.ensures.rest at (c.in_ok-note_members.ensures (length s) [] c.skip.ensures.shorter
    (empty_keys c.new-keys.result c.new-keys.ensures.empty)) in
    rw (keys_inside s is) keys

pub returns : goal.returns
returns c =
    let s = c.args.s.now in
    let other : (first s == 123) ≡ false = grind (arith, common_steps) in
    rw (no_keys s other) (empty_keys c.new-keys.result c.new-keys.ensures.empty)
