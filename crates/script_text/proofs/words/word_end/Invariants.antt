use Rattle.script_text.proofs.Terms.{◌≡◌, ◌≤◌, ◌-◌, true, length, take, list_all, is_part}
use Rattle.script_text.proofs.words.word_end.Given as goal

-- each byte so far is part of the word
abbrev pub invariant-loop-end : goal.invariant-loop-end
invariant-loop-end l =
    (l.known ≤ l.end) × (l.end ≤ length l.line) × (list_all is_part (take l.end l.line) ≡ true)

abbrev pub decreases-loop-end : goal.decreases-loop-end
decreases-loop-end l = length l.line - l.end
