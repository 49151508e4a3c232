use Rattle.std.proofs.Common.{◌≡◌, drop}
use Rattle.ttp_base.specs.Text.{lines_of}
use Rattle.trace_run.proofs.skip.skip_lines.Given as goal

-- so many lines were skipped
abbrev pub invariant-loop : goal.invariant-loop
invariant-loop l = lines_of l.rest ≡ drop l.counter (lines_of l.text)
