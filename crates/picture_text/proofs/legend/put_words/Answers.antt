use Rattle.picture_text.proofs.Words.{get_or, ℕ, word_entry, words}
use Rattle.line_reader.specs.declared.trace_line.Word.TheVariants as word
use Rattle.ttp_base.proofs.Puts.{puts_below}
use Rattle.picture_text.proofs.legend.put_words.Goals as goal

pub loop-number-preserved : goal.loop-number-preserved
loop-number-preserved g c =
    puts_below _ _ _ _ _ _ (λ (k : ℕ). word_entry c.args.top k (get_or words k word.Off)) c.loop-number.number
    c.loop-number.invariant
    (rw (
      c.word_text-name.ensures.text,
      c.letter.ensures.text,
      c.word_meaning.ensures.text,
      c.word_number-word.ensures,
    ) at c.put_entry.ensures)
