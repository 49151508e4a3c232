use Rattle.std.proofs.Common.{◌≡◌, ℕ, ◌+◌, ◌++◌, ◌&&◌, List, [], ◌∷◌, cond, filter}
use Rattle.std.proofs.Common.{length, map, not, ap, sym, ◌∙◌, arith}
use Rattle.std.proofs.lemmas.List.{map-append}
use Rattle.causes.specs.Said.{said}
use Rattle.causes.specs.Sources.{only_entries, with_sources}
use Rattle.entry_causes.proofs.Adding.{adds-both}
use Rattle.entry_causes.proofs.Remaining.{adds-same}
use Rattle.entry_causes.proofs.Sieves.{first-next}
use Rattle.run_rows.specs.Rows.{past_slots}
use Rattle.ttp_base.specs.NodeSet.{below, has_node}
use Rattle.ttp_world.specs.declared.medl.Medl.{Medl}
use Rattle.entry_causes.proofs.own.add_lacked.Goals as goal

pub loop-member-preserved : goal.loop-member-preserved
loop-member-preserved c =
    let g = λ (j : ℕ). has_node c.args.told j && not (has_node c.args.sent j) in
    let f = λ (j : ℕ). said c.args.sender j (past_slots c.args.run.now c.args.before) in
    let m = c.loop-member.member in
    let so_far = filter g (below m) in
    let here = cond (g m) (m ∷ []) [] in
    record {
      lacked =
          c.in_ok-add_if_lacked.ensures.lacked ∙ ap (λ (xs : List ℕ). xs ++ here) c.loop-member.invariant.lacked
          ∙ sym (first-next g m);
      adds =
          adds-same c.args.out.now c.add_if_lacked.new.out
          (with_sources (only_entries (map f so_far)) (only_entries (map f here)))
          (only_entries (map f (filter g (below (m + 1)))))
          (ap only_entries (sym (map-append f so_far here) ∙ ap (map f) (sym (first-next g m))))
          (adds-both c.args.out.now c.loop-member.out c.add_if_lacked.new.out (only_entries (map f so_far))
          (only_entries (map f here)) c.loop-member.invariant.adds c.in_ok-add_if_lacked.ensures.entries);
    }

pub returns-clause-told : goal.returns-clause-told
returns-clause-told c =
    let run = c.args.run.now in
    let g = λ (j : ℕ). has_node c.args.told j && not (has_node c.args.sent j) in
    let f = λ (j : ℕ). said c.args.sender j (past_slots run c.args.before) in
    let same = ap (λ (l : Medl). length l.slots) c.list.ensures.value in
    let end : c.loop-member.member ≡ length run.list.slots =
    omega (arith, c.loop-member-test.false, c.loop-member.auto.member-end, c.nodes-member-end.ensures, same) in (
      c.loop-member.invariant.lacked ∙ ap (λ (n : ℕ). filter g (below n)) end,
      adds-same c.args.out.now c.loop-member.out (only_entries (map f (filter g (below c.loop-member.member))))
          (only_entries (map f (filter g (below (length run.list.slots)))))
          (ap (λ (n : ℕ). only_entries (map f (filter g (below n)))) end) c.loop-member.invariant.adds,
    )
