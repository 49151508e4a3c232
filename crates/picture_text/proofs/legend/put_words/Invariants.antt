use Rattle.picture_text.proofs.Words.{get_or, lines_below, word_entry, words, Puts}
use Rattle.line_reader.specs.declared.trace_line.Word.TheVariants as word
use Rattle.picture_text.proofs.legend.put_words.Given as goal

-- the entries so far were put
abbrev pub invariant-loop-number : goal.invariant-loop-number
invariant-loop-number g l =
    Puts l.fn.sheet.failed (g.K.Sink.output l.fn.out) l.sheet.failed (g.K.Sink.output l.out)
    (lines_below (λ k. word_entry l.top k (get_or words k word.Off)) l.number)
