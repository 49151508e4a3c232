use Rattle.std.proofs.Common.{◌≡◌, take, false}
use Rattle.std.specs.List.{list_any}
use Rattle.causes.specs.Story.{has_fault_line}
use Rattle.why_story.proofs.root.leads_to_fault.Given as goal

-- none so far names one
abbrev pub invariant-loop-one : goal.invariant-loop-one
invariant-loop-one g l = list_any (has_fault_line l.script) (take l.one-index l.one-items) ≡ false
