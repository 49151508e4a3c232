use Rattle.script_text.proofs.Terms.{◌≡◌, ℕ, ◌<◌, length, get_or}
use Rattle.script_text.proofs.form.is_text.Given as goal

-- the bytes so far are the same
abbrev pub invariant-loop-place : goal.invariant-loop-place
invariant-loop-place l =
    (length l.word ≡ length l.text) × ((k : ℕ) → k < l.place → get_or l.word k 0 ≡ get_or l.text k 0)
