use Rattle.ttp_world.proofs.Words.{length, ◌∙◌, length-map, below}
use Rattle.std.proofs.lemmas.List.FromFn.{length-range_with_len}
use Rattle.ttp_world.specs.Words.{word_count, payload_word}
use Rattle.ttp_world.proofs.laws.payload_has_its_words.Goals as goal

pub returns : goal.returns
returns c = λ bytes.
    length-map (below (word_count (length bytes))) (payload_word bytes)
    ∙ length-range_with_len 0 (word_count (length bytes))
