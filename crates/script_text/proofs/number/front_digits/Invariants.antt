use Rattle.script_text.proofs.Terms.{◌≡◌, true, ◌^◌, ◌<◌, take, list_all, is_ascii_digit, decimal_value}
use Rattle.script_text.proofs.number.front_digits.Given as goal

-- each byte so far is a digit, and the number is theirs
abbrev pub invariant-loop-count : goal.invariant-loop-count
invariant-loop-count l =
    (list_all is_ascii_digit (take l.count l.front) ≡ true)
    × (l.number ≡ decimal_value (take l.count l.front))
    × (l.number < 10 ^ l.count)
