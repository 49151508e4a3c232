use Rattle.std.proofs.Common.{arith, sym}
use Rattle.warning_words.proofs.Saying.{named_length}
use Rattle.warning_words.proofs.stated.said_of.Goals as goal

pub said_with-requires : goal.said_with-requires
said_with-requires c =
    let bytes = named_length c.spot_text.result.now c.in-Some.form (sym c.in-Some.ensures) in
    omega (arith, bytes, c.spot_text.ensures.within bytes, c.requires)
