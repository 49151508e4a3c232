use Rattle.std.proofs.Common.{ap, ◌∙◌}
use Rattle.ttp_world.specs.CheckWord.{check_word}
use Rattle.ttp_frame.proofs.Words.{check_word-append}
use Rattle.ttp_frame.proofs.check_word.check.Check.feed.Goals as goal

pub returns-clause-stands : goal.returns-clause-stands
returns-clause-stands c = λ start fed stands.
    c.word_after-self-inside.ensures.value
    ∙ ap (λ word. check_word word c.args.bytes.now) (c.self.view_is ∙ stands)
    ∙ check_word-append start fed c.args.bytes.now
