use Rattle.std.proofs.Common.{◌+◌, Bool, ◌||◌, drop, ap, sym, ◌∙◌, arith}
use Rattle.entry_causes.proofs.FlipFacts.{has-next}
use Rattle.ttp_base.specs.NodeSet.{has_node}
use Rattle.ttp_world.specs.Events.{bits_on}
use Rattle.entry_causes.proofs.flips.is_flipped.Goals as goal

pub loop-flip-preserved : goal.loop-flip-preserved
loop-flip-preserved c =
    let flips = c.args.flips.now in
    let rest = has_node (bits_on c.args.channel (drop (c.loop-flip.flip-index + 1) flips)) c.args.bit in
    c.loop-flip.invariant
    ∙ has-next c.args.channel flips c.loop-flip.flip-index _ c.args.bit (omega arith)
    ∙ ap (λ (b : Bool). b || rest) (sym c.is_of_bit.ensures ∙ c.if-is_of_bit.false)

pub returns-then-is_of_bit : goal.returns-then-is_of_bit
returns-then-is_of_bit c =
    let flips = c.args.flips.now in
    let rest = has_node (bits_on c.args.channel (drop (c.loop-flip.flip-index + 1) flips)) c.args.bit in
    sym (c.loop-flip.invariant
    ∙ has-next c.args.channel flips c.loop-flip.flip-index _ c.args.bit (omega arith)
    ∙ ap (λ (b : Bool). b || rest) (sym c.is_of_bit.ensures ∙ c.if-is_of_bit.true))
