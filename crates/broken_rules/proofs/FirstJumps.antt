-- The first jump of each node, one event more.
use Rattle.std.proofs.Common.{◌≡◌, ◌≢◌, ℕ, suc, ◌+◌, ◌<◌, ℤ, cond, List, ◌∷◌, length, get_or, drop, set}
use Rattle.std.proofs.Common.{refl, ap, sym, ◌∙◌, inl, inr, Option, Some, None, drop-cons, add-one}
use Rattle.std.proofs.lemmas.Bool.{cases_eq, ne_eqb, eq-eqb}
use Rattle.std.proofs.lemmas.List.{get_or-set_other, get_or-set_same}
use Rattle.std.specs.List.{filter_map}
use Rattle.std.specs.Prelude.{◌==◌}
use Rattle.ttp_world.specs.declared.script.Event.{Event}
use Rattle.ttp_world.specs.declared.script.Event.TheVariants as event
use Rattle.ttp_world.specs.Hypothesis.{lesser, least_of}
use Rattle.broken_rules.proofs.FromBelow.{lesser_of, with_found, least-next}
use Rattle.broken_rules.specs.Jumps.{jump_slot}

-- an event that is no jump lets no clock jump
pub no_jump : (e : Event) → ((node : ℕ) (value : ℤ) (slot : ℕ) → e ≢ event.Jump node value slot) → (k : ℕ)
    → jump_slot k e ≡ None
no_jump (event.Jump node value slot) other k = absurd (other node value slot refl)
no_jump _ other k = refl

-- what is kept of a node is as before, or with the slot of its jump
pub kept-jump : (slots : List (Option ℕ)) (node at new k : ℕ) → node < length slots
    → Some new ≡ lesser at (get_or slots node None)
    → get_or (set slots node (Some new)) k None ≡ with_found (cond (node == k) (Some at) None) (get_or slots k None)
kept-jump slots node at new k within is = elim (cases_eq k node) [
  | inl same ↦
      rw (eq-eqb node k (sym same))
      (ap (λ j. get_or (set slots node (Some new)) j None) same ∙ get_or-set_same slots node (Some new) None within ∙ is
      ∙ ap (λ j. lesser at (get_or slots j None)) (sym same))
  | inr apart ↦
      rw (ne_eqb node k (λ is'. apart (sym is'))) (get_or-set_other slots node k (Some new) None apart)
]

-- and with the events that are left it is that of all
pub jumps-next : (k : ℕ) (events : List Event) (i : ℕ) (e : Event) (old new all : Option ℕ) → i < length events
    → get_or events i e ≡ e → new ≡ with_found (jump_slot k e) old
    → lesser_of old (least_of (filter_map (jump_slot k) (drop i events))) ≡ all
    → lesser_of new (least_of (filter_map (jump_slot k) (drop (i + 1) events))) ≡ all
jumps-next k events i e old new all less here is so_far =
    let cut : drop i events ≡ e ∷ drop (i + 1) events =
    drop-cons events i e less
    ∙ ap (λ x. x ∷ drop (suc i) events) here ∙ ap (λ (j : ℕ). e ∷ drop j events) (sym (add-one i)) in
    ap (λ found. lesser_of found (least_of (filter_map (jump_slot k) (drop (i + 1) events)))) is
    ∙ least-next (jump_slot k) e (drop (i + 1) events) old all
    (ap (λ rest. lesser_of old (least_of (filter_map (jump_slot k) rest))) (sym cut) ∙ so_far)
