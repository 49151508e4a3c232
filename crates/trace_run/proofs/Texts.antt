-- The trace that is read, behind its first line.
use Rattle.std.proofs.Common.{◌≡◌, ℕ, ◌-◌, true, List, [], length, drop, ap, sym, subst, ◌∙◌, arith}
use Rattle.std.proofs.lemmas.List.{drop_all}
use Rattle.ttp_base.specs.Text.{lines_of}
use Rattle.ttp_base.proofs.Lines.{lines_of-concat}
use Rattle.ttp_world.specs.declared.medl.Medl.{Medl}
use Rattle.ttp_world.specs.declared.script.Script.{Script}
use Rattle.ttp_world.specs.Legal.{IsLegalRun}
use Rattle.ttp_world.specs.Medl.{IsValid}
use Rattle.ttp_world.specs.Script.{IsValidScript}
use Rattle.ttp_world.specs.Trace.{trace_lines}
use Rattle.ttp_world.specs.TraceNumbers.{numbers_in}
use Rattle.ttp_world.specs.World.{Numbers}
use Rattle.ttp_world.proofs.TraceLines.{trace_lines-each}
use Rattle.ttp_world.proofs.TraceNumbers.{numbers_in-trace}
use Rattle.trace_check.specs.Answer.{is_trace}
use Rattle.trace_run.proofs.FromBelow.{IsTrace, is_trace-numbers}
use Rattle.trace_run.specs.declared.run.TraceRun.{TraceRun}
use Rattle.trace_run.specs.Run.{TraceStandsFor, first_lines, first_numbers, IsTraceAt}

module _ (list : Medl) (script : Script) (text : List ℕ) (valid : IsValid list)
    (valid_script : IsValidScript list script)
    (is : is_trace list script text ≡ true) where
  trace : IsTrace list script text
  trace = is_trace-numbers list script text is

  traced : lines_of text ≡ trace_lines list script trace.numbers
  traced =
      ap lines_of trace.whole
      ∙ lines_of-concat (trace_lines list script trace.numbers) (trace_lines-each list script trace.numbers)

  -- the numbers are those that it names
  named : numbers_in list script (lines_of text) ≡ trace.numbers
  named =
      ap (numbers_in list script) traced
      ∙ numbers_in-trace list script trace.numbers valid valid_script trace.legal.count trace.legal.legal

  legal : IsLegalRun list script (numbers_in list script (lines_of text))
  legal = subst (IsLegalRun list script) (sym named) trace.legal

  pub none-first : first_numbers script (numbers_in list script (lines_of text)) 0 ≡ []
  none-first = let count = legal.count in
      drop_all (script.slots - 0) (numbers_in list script (lines_of text)) (omega (arith, count))

  -- behind its first line
  pub at-first : (run : TraceRun) (rest : List ℕ) → TraceStandsFor run list script []
      → drop 1 (lines_of text) ≡ lines_of rest
      → IsTraceAt run list script (numbers_in list script (lines_of text)) 0 rest
  at-first run rest stands behind = record {
    left = record {
      legal = legal;
      lines = sym behind ∙ ap (drop 1) (traced ∙ ap (trace_lines list script) (sym named))
          ∙ ap (λ (ns : Numbers). drop (length (first_lines list script ns))
          (trace_lines list script (numbers_in list script (lines_of text)))) (sym none-first);
    };
    stands = subst (TraceStandsFor run list script) (sym none-first) stands;
  }
