use Rattle.std.proofs.Common.{◌≡◌, ℕ, ◌++◌, ◌<◌, Bool, List, [], ◌∷◌, IfSome, Option, filter, length, map, option_map}
use Rattle.std.proofs.Common.{ap, subst, sym, ◌∙◌, arith}
use Rattle.std.proofs.lemmas.List.{map-append}
use Rattle.causes.specs.Members as causes_members
use Rattle.causes.specs.Members.{difference_of}
use Rattle.ttp_world.proofs.ListFacts.{node-out, one-more}
use Rattle.entry_causes.specs.Differences.{difference_shown, said_first}
use Rattle.entry_causes.specs.declared.members.Difference.{Difference}
use Rattle.run_rows.specs.Rows.{past_slots}
use Rattle.ttp_base.specs.NodeSet.{below, has_node}
use Rattle.ttp_world.specs.declared.medl.Medl.{Medl}
use Rattle.entry_causes.proofs.members.earliest.Goals as goal
use Rattle.entry_causes.proofs.members.earliest.Goals.{then-has, else-has}

pub loop-member-preserved : goal.loop-member-preserved
loop-member-preserved c =
    let before = past_slots c.args.run.now c.args.before in
    let n = length c.args.run.now.list.slots in
    let m = c.loop-member.member in
    let h = has_node c.args.telling in
    let f = λ (j : ℕ). difference_of c.args.sender c.args.node before (has_node c.args.sent j) j in
    elim c.if-has.branch [
      | then-has w ↦
          let other =
          w.difference_of-other.ensures.value
          ∙ ap (λ (b : Bool). difference_of c.args.sender c.args.node before b m) w.has-then-has.ensures in
          record {
            value =
                ap (option_map difference_shown) w.first-is
                ∙ w.earlier.ensures.value (map f (filter h (below m))) c.loop-member.invariant.value
                ∙ ap (λ (d : causes_members.Difference). said_first (map f (filter h (below m)) ++ d ∷ [])) other
                ∙ ap said_first
                (sym (map-append f (filter h (below m)) (m ∷ []))
                ∙ ap (map f) (sym (one-more h m (sym c.has.ensures ∙ w.if-has.true))));
            holds =
                subst (λ (o : Option Difference). IfSome o (λ d. d.holds < n)) (sym w.first-is)
                (w.earlier.ensures.holds n c.loop-member.invariant.holds w.difference_of-other.ensures.holds);
          }
      | else-has w ↦ record {
        value =
            ap (option_map difference_shown) w.first-is ∙ c.loop-member.invariant.value
            ∙ ap (λ (nodes : List ℕ). said_first (map f nodes))
            (sym (node-out h m (sym c.has.ensures ∙ w.if-has.false)));
        holds =
            subst (λ (o : Option Difference). IfSome o (λ d. d.holds < n))
            (sym w.first-is) c.loop-member.invariant.holds;
      }
    ]

pub returns-clause-value : goal.returns-clause-value
returns-clause-value c =
    let run = c.args.run.now in
    let h = has_node c.args.telling in
    let f = λ (j : ℕ). difference_of c.args.sender c.args.node
    (past_slots run c.args.before) (has_node c.args.sent j) j in
    let same = ap (λ (l : Medl). length l.slots) c.list.ensures.value in
    let end : c.loop-member.member ≡ length run.list.slots =
    omega (arith, c.loop-member-test.false, c.loop-member.auto.member-end, c.nodes-member-end.ensures, same) in
    c.loop-member.invariant.value
    ∙ ap (λ (nodes : List ℕ). said_first (map f nodes))
    (ap (λ (n : ℕ). filter h (below n)) end ∙ sym c.requires.telling)
