-- Lists that are gathered from the nodes of a set, one node after another.
use Rattle.std.proofs.Common.{◌≡◌, ℕ, ◌+◌, Bool, true, [], ◌∷◌, ◌++◌, ap, sym, ◌∙◌}
use Rattle.std.proofs.lemmas.List.{map-append}
use Rattle.std.specs.Prelude.{filter}
use Rattle.causes.specs.LinesOf.{spots_in}
use Rattle.causes.specs.RunSlots.{node_spot}
use Rattle.causes.specs.declared.cause.Spot.{Spot}
use Rattle.entry_causes.proofs.Past.{spot-in}
use Rattle.ttp_world.proofs.ListFacts.{one-more}
use Rattle.run_rows.specs.Rows.{slot_in}
use Rattle.ttp_base.specs.NodeSet.{below}
use Rattle.ttp_world.specs.declared.medl.Medl.{Medl}
use Rattle.ttp_world.specs.declared.script.Script.{Script}

-- the entries of one node more
pub spots-next : (list : Medl) (script : Script) (slot : ℕ) (h : ℕ → Bool) (k : ℕ) → h k ≡ true
    → spots_in (slot_in list script slot) (filter h (below k)) ++ record { slot = slot; node = k } ∷ []
    ≡ spots_in (slot_in list script slot) (filter h (below (k + 1)))
spots-next list script slot h k is =
    ap (λ (spot : Spot). spots_in (slot_in list script slot) (filter h (below k)) ++ spot ∷ [])
    (sym (spot-in list script slot k))
    ∙ sym (map-append (λ p. node_spot p (slot_in list script slot)) (filter h (below k)) (k ∷ []))
    ∙ ap (spots_in (slot_in list script slot)) (sym (one-more h k is))
