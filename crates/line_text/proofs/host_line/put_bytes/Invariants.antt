use Rattle.std.proofs.Common.{◌≡◌, ◌-◌, ◌*◌, ◌++◌, take}
use Rattle.ttp_base.specs.Text.{hex_bytes}
use Rattle.line_text.specs.HostLines.{bytes_in}
use Rattle.line_text.proofs.host_line.put_bytes.Given as goal

-- the digits of the bytes so far were added
abbrev pub invariant-loop-word : goal.invariant-loop-word
invariant-loop-word l =
    (l.line ≡ l.fn.line ++ hex_bytes (bytes_in l.size (take l.word-index l.words)))
    × (l.left ≡ l.size - 8 * l.word-index)
