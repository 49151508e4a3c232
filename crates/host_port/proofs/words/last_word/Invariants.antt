use Rattle.host_port.proofs.Names.{◌≡◌, ◌<◌, ◌*◌, ◌+◌, ◌^◌, map, get_or, below, number_in}
use Rattle.host_port.proofs.words.last_word.Given as goal

abbrev pub invariant-loop-j : goal.invariant-loop-j
invariant-loop-j l = (l.word ≡ number_in (map (λ j. get_or l.bytes (8 * l.i + j) 0) (below l.j))) × (l.word < 256 ^ l.j)
