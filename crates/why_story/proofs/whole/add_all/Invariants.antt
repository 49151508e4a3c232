use Rattle.std.proofs.Common.{◌≡◌, ◌++◌, take}
use Rattle.why_story.proofs.whole.add_all.Given as goal

-- those so far
abbrev pub invariant-loop-other : goal.invariant-loop-other
invariant-loop-other l = l.entries ≡ l.initial.entries ++ take l.other-index l.others
