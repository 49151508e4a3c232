use Rattle.host_port.proofs.Names.{◌++◌, ◌∷◌, [], sym, ◌∙◌, arith, zero-add, map-range_with_len_more, payload_word}
use Rattle.std.proofs.lemmas.List.{take_more_set, length-set}
use Rattle.host_port.proofs.words.put_words.Goals as goal

pub loop-i-preserved : goal.loop-i-preserved
loop-i-preserved c =
    let words = c.loop-i.words in
    let i = c.loop-i.i in (
      length-set words i c.word_at.result ∙ c.loop-i.invariant.0,
      take_more_set words i c.word_at.result (omega arith)
          ∙ ((λ k. c.loop-i.invariant.1 k ++ c.word_at.ensures k ∷ [])
          ∙ sym (map-range_with_len_more (payload_word c.args.bytes.now) 0 i i (zero-add i))),
    )
