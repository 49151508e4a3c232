use Rattle.std.proofs.Common.{[], ap, ◌∙◌}
use Rattle.ttp_world.specs.Frame.{big_endian}
use Rattle.ttp_frame.proofs.pieces.word_of.Goals as goal

pub returns : goal.returns
returns c =
    let fed_none = c.new-check.ensures.stands in
    let fed_unsent = c.feed.ensures.stands c.args.start [] fed_none in
    c.bytes_of_word.ensures
    ∙ ap (big_endian 3) (c.word.ensures.value ∙ c.feed-2.ensures.stands c.args.start c.args.unsent.now fed_unsent)
