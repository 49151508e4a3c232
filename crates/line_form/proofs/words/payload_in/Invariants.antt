use Rattle.std.proofs.Common.{◌≡◌, ◌*◌, ◌++◌, drop, length}
use Rattle.std.specs.List.{list_all}
use Rattle.line_form.specs.Kinds.{is_hex, byte_pairs}
use Rattle.line_form.proofs.words.payload_in.Given as goal

-- the bytes so far, and those of the other digits
abbrev pub invariant-loop-i : goal.invariant-loop-i
invariant-loop-i g l =
    (length l.bytes ≡ l.i)
    × (l.bytes ++ byte_pairs (drop (2 * l.i) l.word) ≡ byte_pairs l.word)
    × (list_all is_hex (drop (2 * l.i) l.word) ≡ list_all is_hex l.word)
