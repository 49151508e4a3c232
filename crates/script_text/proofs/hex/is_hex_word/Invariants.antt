use Rattle.script_text.proofs.Terms.{◌≡◌, true, take, is_hex_word}
use Rattle.script_text.proofs.hex.is_hex_word.Given as goal

-- each byte so far is a digit
abbrev pub invariant-loop-byte : goal.invariant-loop-byte
invariant-loop-byte l = is_hex_word (take l.byte-index l.word) ≡ true
