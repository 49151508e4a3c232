-- Behind the bytes there are zeros.
use Rattle.ttp_world.proofs.Words.{◌≡◌, ℕ, ◌-◌, List, ◌++◌, length, drop, ap, ◌∙◌, replicate}
use Rattle.std.proofs.Math.Seq.{drop-append_seam}
use Rattle.std.proofs.lemmas.List.{drop-replicate}
use Rattle.ttp_world.proofs.script.Payload.of.Goals as goal

zeros_behind : (bytes out : List ℕ) (size : ℕ) → out ≡ bytes ++ drop (length bytes) (replicate size 0)
    → drop (length bytes) out ≡ replicate (size - length bytes) 0
zeros_behind bytes out size is =
    ap (drop (length bytes)) is ∙ drop-append_seam bytes (drop (length bytes) (replicate size 0))
    ∙ drop-replicate (length bytes) size 0

pub invariant_of-result : goal.invariant_of-result
invariant_of-result c = (c.requires, zeros_behind c.args.bytes.now c.put_front.new.out 240 c.put_front.ensures)
