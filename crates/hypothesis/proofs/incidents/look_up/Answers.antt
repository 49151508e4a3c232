use Rattle.std.proofs.Common.{◌≡◌, ◌≢◌, ℕ, ◌+◌, ◌<◌, ◌≤◌, max, List, length, get_or, set, subst, sym, ◌∙◌, inl, inr}
use Rattle.std.proofs.Common.{rules, arith, below_more}
use Rattle.std.proofs.lemmas.Bool.{cases_eq, cases_lt}
use Rattle.std.proofs.lemmas.List.{length-set, get_or-set_same, get_or-set_other}
use Rattle.ttp_world.specs.declared.events.Standing.{Standing}
use Rattle.ttp_world.specs.Index.{no_incidents}
use Rattle.ttp_world.specs.Script.{incidents_of}
use Rattle.hypothesis.specs.SlotIncidents.{IsOfKinds}
use Rattle.hypothesis.proofs.incidents.look_up.Goals as goal

no_standing : Standing
no_standing = record { incidents = no_incidents; until = 0 }

-- what is so of one node, and was of those before it, is so of all up to it
put-more : (nodes : List Standing) (P : ℕ → Standing → Type 0) (n : ℕ) (new : Standing) → n < length nodes
    → ((k : ℕ) (nothing : Standing) → k < n → P k (get_or nodes k nothing)) → P n new
    → (k : ℕ) (nothing : Standing) → k < n + 1 → P k (get_or (set nodes n new) k nothing)
put-more nodes P n new within told is k nothing less = elim (cases_eq k n) [
  | inl same ↦
      rw same (subst (P n) (sym (get_or-set_same nodes n new nothing within)) is)
  | inr other ↦ subst (P k) (sym (get_or-set_other nodes n k new nothing other)) (told k nothing (omega (arith, other)))
]

pub loop-node-init : goal.loop-node-init
loop-node-init c = record {
  room = search rules;
  done = λ k t nothing less from before. absurd (omega (arith, less));
  left = λ k t nothing more small from before. c.requires.each t from k nothing small before;
  least = λ k nothing less. absurd (omega (arith, less));
  kinds = λ k less. absurd (omega (arith, less));
}

pub standing_in-standing-requires : goal.standing_in-standing-requires
standing_in-standing-requires c =
    let small : c.loop-node.node < 24 = search rules in
    λ t from before. c.loop-node.invariant.left c.loop-node.node t _ (omega arith) small from before

pub loop-node-preserved : goal.loop-node-preserved
loop-node-preserved c =
    let script = c.args.script.now in
    let slot = c.args.slot in
    let node = c.loop-node.node in
    let nodes = c.loop-node.incidents.nodes in
    let new = c.standing_in-standing.result in
    let within : node < length nodes = search rules in
    let Done : ℕ → Standing → Type 0 = λ k standing. (t : ℕ) → slot ≤ t → t < max standing.until (slot + 1)
    → incidents_of script k t ≡ standing.incidents in
    let Least : ℕ → Standing → Type 0 = λ k standing. c.min-until.result ≤ standing.until in
    let least : c.min-until.result ≤ c.loop-node.until = search rules in
    let least_new : c.min-until.result ≤ new.until = search rules in
    let here : incidents_of script node slot ≡ new.incidents =
    c.standing_in-standing.ensures slot (omega arith) (omega arith) in
    record {
      room = length-set nodes node new ∙ c.loop-node.invariant.room;
      done = λ k t nothing less from before. put-more nodes Done node new within
          (λ j other low u since until. c.loop-node.invariant.done j u other low since until)
          c.standing_in-standing.ensures k nothing less t from before;
      left = λ k t nothing more less from.
          let other : k ≢ node = λ same. omega (arith, more, same) in
          let apart = get_or-set_other nodes node k new nothing other in
          subst (λ (s : Standing). t < s.until → incidents_of script k t ≡ s.incidents) (sym apart)
          (c.loop-node.invariant.left k t nothing (omega (arith, more)) less from);
      least = λ k nothing less. put-more nodes Least node new within
          (λ j other low. omega (arith, least, c.loop-node.invariant.least j other low)) least_new k nothing less;
      kinds = below_more (λ k. IsOfKinds c.kinds_with-kinds.result (incidents_of script k slot)) node
          (λ k less. c.kinds_with-kinds.ensures.others
          (incidents_of script k slot) (c.loop-node.invariant.kinds k less))
          (subst (IsOfKinds c.kinds_with-kinds.result) (sym here) c.kinds_with-kinds.ensures.added);
    }

pub returns : goal.returns
returns c =
    let script = c.args.script.now in
    let slot = c.args.slot in
    let until = c.loop-node.until in
    let nodes = c.loop-node.incidents.nodes in
    let at : (k t : ℕ) (nothing : Standing) → k < length c.args.list.now.slots → slot ≤ t → t < max until (slot + 1)
    → incidents_of script k t ≡ (get_or nodes k nothing).incidents =
    λ k t nothing less from before. c.loop-node.invariant.done k t nothing (omega (arith, less)) from
    (omega (arith, before, c.loop-node.invariant.least k nothing (omega (arith, less)))) in
    record {
      each = λ t from k nothing small before. elim (cases_lt k c.loop-node.node) [
        | inl less ↦ c.loop-node.invariant.done k t nothing less from (omega (arith, before))
        | inr more ↦ c.loop-node.invariant.left k t nothing more small from before
      ];
      nodes = λ t from before k nothing less. sym (at k t nothing less from before);
      kinds = λ t k from before less. subst (IsOfKinds c.loop-node.kinds)
          (at k slot no_standing less (omega arith) (omega arith) ∙ sym (at k t no_standing less from before))
          (c.loop-node.invariant.kinds k (omega (arith, less)));
    }
