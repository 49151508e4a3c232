use Rattle.host_port.proofs.Names.{◌*◌, ◌+◌, get_or, arith}
use Rattle.host_port.proofs.PayloadWords.{number_in-more, number-below, number-fits}
use Rattle.host_port.proofs.words.last_word.Goals as goal

pub overflow_mul-word : goal.overflow_mul-word
overflow_mul-word c = omega (arith, number-fits c.loop-j.word c.loop-j.j c.loop-j.invariant.1 (omega arith))

pub overflow_add-word : goal.overflow_add-word
overflow_add-word c = omega (arith, number-fits c.loop-j.word c.loop-j.j c.loop-j.invariant.1 (omega arith))

pub loop-j-preserved : goal.loop-j-preserved
loop-j-preserved c =
    let more = number_in-more (λ j. get_or c.args.bytes.now (8 * c.args.i + j) 0) c.loop-j.j in (
      omega (arith, more),
      number-below c.loop-j.word c.byte_at.result c.loop-j.j c.loop-j.invariant.1 c.byte_at.ensures.bound,
    )
