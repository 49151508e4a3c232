use Rattle.std.proofs.Common.{◌≡◌, ◌++◌, take}
use Rattle.std.specs.List.{flat_map}
use Rattle.ttp_world.specs.Trace.{word_hex}
use Rattle.line_text.proofs.host_line.put_words.Given as goal

-- the digits of the words so far were added
abbrev pub invariant-loop-word : goal.invariant-loop-word
invariant-loop-word l = l.line ≡ l.fn.line ++ flat_map word_hex (take l.word-index l.words)
