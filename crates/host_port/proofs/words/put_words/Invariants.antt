use Rattle.host_port.proofs.Names.{◌≡◌, map, take, length, below, payload_word}
use Rattle.host_port.proofs.words.put_words.Given as goal

abbrev pub invariant-loop-i : goal.invariant-loop-i
invariant-loop-i l = (length l.words ≡ length l.initial.words)
    × (take l.i l.words ≡ map (payload_word l.bytes) (below l.i))
