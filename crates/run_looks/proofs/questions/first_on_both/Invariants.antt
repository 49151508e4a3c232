use Rattle.std.proofs.Common.{◌≡◌, ◌&&◌, drop, map}
use Rattle.causes.specs.LinesOf.{first_line, is_on_both, places_from}
use Rattle.causes.specs.declared.cause.ScriptLine.TheVariants as line
use Rattle.run_looks.specs.Questions.{is_meant}
use Rattle.run_looks.proofs.questions.first_on_both.Given as goal

-- the first is that of the events from here on
abbrev pub invariant-loop-place : goal.invariant-loop-place
invariant-loop-place l =
    first_line (map line.Event
    (places_from l.place (λ e. is_meant l.question e && is_on_both e) (drop l.place l.events)))
    ≡ first_line (map line.Event (places_from 0 (λ e. is_meant l.question e && is_on_both e) l.events))
