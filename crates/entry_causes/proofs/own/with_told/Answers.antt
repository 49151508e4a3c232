use Rattle.std.proofs.Common.{ℕ, Bool, ◌||◌, List, [], ◌∷◌, cond, ap, sym, ◌∙◌, arith}
use Rattle.entry_causes.proofs.OwnFacts.{has_node-one, has_node-other}
use Rattle.ttp_base.proofs.NodeSets.{has_node-with}
use Rattle.ttp_base.specs.NodeSet.{has_node}
use Rattle.entry_causes.proofs.own.with_told.Goals as goal

pub returns-then-not-is_told : goal.returns-then-not-is_told
returns-then-not-is_told c = λ j few.
    ap (λ (b : Bool). has_node (cond b (c.args.member ∷ []) []) j || has_node c.args.set j) (sym c.if-not-is_told.true)

pub returns-then-member-lt24 : goal.returns-then-member-lt24
returns-then-member-lt24 c = λ j few.
    ap (λ (set : List ℕ). has_node set j) c.with.ensures ∙ has_node-with c.args.set c.args.member j few
    ∙ ap (λ (b : Bool). b || has_node c.args.set j) (sym (has_node-one c.args.member j))
    ∙ ap (λ (b : Bool). has_node (cond b (c.args.member ∷ []) []) j || has_node c.args.set j)
    (sym c.if-not-is_told.false)

pub returns : goal.returns
returns c = λ j few.
    ap (λ (b : Bool). b || has_node c.args.set j)
    (sym (has_node-other c.args.member j 24 few (omega (arith, c.if-member-lt24.false))))
    ∙ ap (λ (b : Bool). has_node (cond b (c.args.member ∷ []) []) j || has_node c.args.set j)
    (sym c.if-not-is_told.false)
