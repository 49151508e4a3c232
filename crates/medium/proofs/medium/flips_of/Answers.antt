use Rattle.std.proofs.Common.{sym, ap, ◌∙◌}
use Rattle.medium.proofs.Channels.{flipped_bits-none}
use Rattle.medium.proofs.medium.flips_of.Goals as goal

pub returns-else-incidents : goal.returns-else-incidents
returns-else-incidents c =
    flipped_bits-none c.args.script.now c.args.node c.args.slot
    (ap (λ i. i.has_flip) (sym c.requires) ∙ c.if-incidents.false)
