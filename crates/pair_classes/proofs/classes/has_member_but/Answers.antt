use Rattle.std.proofs.Common.{not, List, ℕ, length, ap, ◌∙◌}
use Rattle.std.specs.Prelude.{◌==◌}
use Rattle.ttp_base.specs.NodeSet.{has_node}
use Rattle.pair_classes.proofs.Members.{some-taken}
use Rattle.pair_classes.proofs.classes.has_member_but.Goals as goal

pub returns : goal.returns
returns c =
    ap (λ (n : ℕ). not (n == 0)) (c.count.ensures ∙ ap (λ (nodes : List ℕ). length nodes) c.members_but.ensures)
    ∙ some-taken (λ k. not (has_node c.args.other k)) c.args.one
