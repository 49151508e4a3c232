use Rattle.std.proofs.Common.{◌≡◌, ◌++◌, drop, map}
use Rattle.causes.specs.LinesOf.{places_from}
use Rattle.causes.specs.declared.cause.ScriptLine.TheVariants as line
use Rattle.run_looks.specs.Questions.{is_meant}
use Rattle.run_looks.proofs.questions.add_lines.Given as goal

-- those so far, with those of the events from here on
abbrev pub invariant-loop-place : goal.invariant-loop-place
invariant-loop-place l = record {
  lines : l.out.lines ++ map line.Event (places_from l.place (is_meant l.question) (drop l.place l.events))
      ≡ l.initial.out.lines ++ map line.Event (places_from 0 (is_meant l.question) l.events);
  entries : l.out.entries ≡ l.initial.out.entries;
}
