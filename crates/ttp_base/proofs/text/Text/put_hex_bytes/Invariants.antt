use Rattle.std.proofs.Common.{◌≡◌, ◌++◌, take}
use Rattle.ttp_base.specs.Text.{hex_bytes}
use Rattle.ttp_base.proofs.text.Text.put_hex_bytes.Given as goal

-- the digits of the bytes so far were added
abbrev pub invariant-loop-byte : goal.invariant-loop-byte
invariant-loop-byte g l = l.self ≡ l.fn.self ++ hex_bytes (take l.byte-index l.b)
