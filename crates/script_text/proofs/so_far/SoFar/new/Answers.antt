use Rattle.script_text.proofs.Terms.{refl, ◌∙◌}
use Rattle.std.proofs.Common.{rules}
use Rattle.script_text.proofs.Kept.{StandsFor-nothing}
use Rattle.script_text.proofs.so_far.SoFar.new.Goals as goal

pub returns-clause-stands : goal.returns-clause-stands
returns-clause-stands c =
    StandsFor-nothing _ c.nodes-nodes.result refl
    (c.in_ok-vec.ensures.items_if_clones_equal (λ y clone. search rules))
    (c.in_ok-vec-2.ensures.items_if_clones_equal (λ y clone. search rules)) c.new.ensures c.new-2.ensures.none

pub returns-clause-nodes : goal.returns-clause-nodes
returns-clause-nodes c = record {
  on = c.in_ok-vec.ensures.len ∙ c.nodes-nodes.ensures;
  drift = c.in_ok-vec-2.ensures.len ∙ c.nodes-nodes.ensures;
  writes = c.new-2.ensures.nodes ∙ c.nodes-nodes.ensures;
}
