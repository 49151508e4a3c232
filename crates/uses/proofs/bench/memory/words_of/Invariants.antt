use Rattle.std.proofs.Common.{◌≡◌, map, take}
use Rattle.commands.specs.Words.{texts_of}
use Rattle.uses.proofs.bench.memory.words_of.Given as goal

abbrev pub invariant-loop-word : goal.invariant-loop-word
invariant-loop-word l = texts_of l.texts.items ≡ map (λ word. word.now) (take l.word-index l.words)
