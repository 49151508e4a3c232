use Rattle.std.proofs.Common.{◌∙◌, List, ℕ, ap, sym, subst, not, length}
use Rattle.std.specs.Prelude.{nat_le}
use Rattle.std.specs.List.{list_any}
use Rattle.campaign.specs.declared.cost.Leave.{Leave}
use Rattle.fault_pairs.specs.Classes.{left_nodes}
use Rattle.pair_classes.specs.Ordered.{IsOrdered}
use Rattle.pair_runs.proofs.harm.harm_of.Goals as goal

pub left_nodes-requires : goal.left_nodes-requires
left_nodes-requires c = subst
    (λ (leaves : List Leave). IsOrdered (left_nodes leaves)) (sym c.as_slice.ensures) c.requires

pub returns : goal.returns
returns c =
    let pairs = λ (sets : List (List ℕ)). not (list_any (λ (members : List ℕ). nat_le 2 (length members)) sets) in
    λ i. record {
      left = (c.left_nodes.ensures ∙ ap left_nodes c.as_slice.ensures) i;
      split = c.is_some.ensures i;
      torn = c.is_torn.ensures i;
      dead = (ap not c.has_pair.ensures ∙ ap pairs c.as_slice-2.ensures) i;
    }
