use Rattle.std.proofs.Common.{◌≡◌, ◌++◌, drop, string_bytes}
use Rattle.toml_parser.specs.Reading.{path_view}
use Rattle.toml_walk.specs.Walk.{dotted}
use Rattle.toml_walk.proofs.walk.dotted.Given as goal

-- the parts so far are written, and the others follow
abbrev pub invariant-loop-part : goal.invariant-loop-part
invariant-loop-part l =
    dotted (path_view l.fn.key.path.items) (string_bytes l.fn.key.last)
    ≡ l.bytes.items ++ dotted (path_view (drop l.part-index l.fn.key.path.items)) (string_bytes l.fn.key.last)
