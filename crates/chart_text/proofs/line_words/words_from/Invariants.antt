use Rattle.chart_text.proofs.Words.{◌≡◌, ◌≤◌, length}
use Rattle.chart_text.specs.Worst.{words_from}
use Rattle.chart_text.proofs.line_words.words_from.Given as goal

-- the loop's counter says how many words were passed
abbrev pub invariant-loop-number : goal.invariant-loop-number
invariant-loop-number l =
    record {
      value : l.rest ≡ words_from l._number l.text;
      within : length l.rest ≤ length l.text;
    }
