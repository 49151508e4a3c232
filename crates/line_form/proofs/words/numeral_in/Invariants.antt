use Rattle.std.proofs.Common.{◌≡◌, true, ◌^◌, ◌<◌, take, fold}
use Rattle.std.specs.List.{list_all}
use Rattle.line_form.specs.Kinds.{is_digit, append_digit}
use Rattle.line_form.proofs.words.numeral_in.Given as goal

-- each byte so far is a digit, and the number is theirs
abbrev pub invariant-loop-byte : goal.invariant-loop-byte
invariant-loop-byte l =
    (list_all is_digit (take l.byte-index l.word) ≡ true)
    × (l.number ≡ fold append_digit 0 (take l.byte-index l.word))
    × (l.number < 10 ^ l.byte-index)
