use Rattle.std.proofs.Common.{◌≡◌, ℕ, ◌-◌, ◌++◌, [], ◌∷◌, Bool, cond, not, List, length, length-append}
use Rattle.std.proofs.Common.{refl, ap, subst, sym, ◌∙◌, arith, rules, w64, FitsSigned}
use Rattle.std.proofs.lemmas.Bool.{ne_eqb}
use Rattle.std.proofs.lemmas.Int.{to_z-of_z}
use Rattle.std.proofs.lemmas.List.{append-nil}
use Rattle.std.specs.Prelude.{◌==◌}
use Rattle.causes.specs.Clocks.{NotedClock, noted_clocks}
use Rattle.causes.specs.RunSlots.{RunSlot, RunSlots}
use Rattle.causes.specs.declared.cause.Miss.TheVariants as miss
use Rattle.causes.specs.declared.cause.ScriptLine.{ScriptLine}
use Rattle.causes.specs.declared.cause.Spot.{Spot}
use Rattle.entry_causes.proofs.Adding.{adds-both}
use Rattle.entry_causes.specs.Notes.{both_noted, entries_noted, both_jumps, notes_noted, outside_lines}
use Rattle.run_looks.specs.Added.{AddsSources}
use Rattle.run_rows.specs.Rows.{past_slots, run_slot}
use Rattle.entry_causes.proofs.clocks.add_clock_reason.Goals as goal

-- what is said where there is no jump
noted-by : {X : Type 0} (f : List NotedClock → List X) (p k : ℕ) (s : RunSlot)
    (before : RunSlots) (jumps : List ScriptLine)
    → f [] ≡ []
    → cond (not (length jumps == 0)) [] (f (both_noted p k s before)) ≡ f (noted_clocks p k s before jumps)
noted-by f p k s before [] none = refl
noted-by {X = X} f p k s before (jump ∷ jumps) none =
    ap (λ (b : Bool). cond (not b) [] (f (both_noted p k s before)))
    (ne_eqb (length (jump ∷ jumps)) 0 (λ same. omega (arith, same)))
    ∙ sym none

grown : (old jumps new : List ScriptLine) → new ≡ old ++ jumps
    → not (length new - length old == 0) ≡ not (length jumps == 0)
grown old jumps new is =
    let same : length new - length old ≡ length jumps = omega (arith, ap length is, length-append old jumps) in
    ap (λ (n : ℕ). not (n == 0)) same

pub returns : goal.returns
returns c =
    let run = c.args.run.now in
    let p = c.args.sender in
    let k = c.args.node in
    let s = run_slot run c.args.slot in
    let before = past_slots run c.args.slot in
    let jumps = both_jumps p k s before in
    let lines = outside_lines p k s in
    let has =
    c.has_grown-has_jumps.ensures ∙ (λ i. not (c.len.ensures i - c.len-before.ensures i == 0))
    ∙ grown c.args.out.now.lines jumps c.add_jumps.new.out.lines c.in_ok-add_jumps.ensures.lines in
    let notes =
    c.in_ok-notes.ensures.notes
    ∙ ap (λ (b : Bool). cond b [] (notes_noted (both_noted p k s before))) has
    ∙ noted-by notes_noted p k s before jumps refl in
    let entries =
    ap (λ (b : Bool). cond b [] (entries_noted (both_noted p k s before))) has
    ∙ noted-by entries_noted p k s before jumps refl in
    let fits : FitsSigned w64 c.deviation_in.result = search rules in
    let deviation = to_z-of_z w64 c.deviation_in.result fits ∙ c.deviation_in.ensures in
    let all =
    adds-both c.args.out.now c.add_jumps.new.out c.add_notes.new.out _ _ c.in_ok-add_jumps.ensures
    (adds-both c.add_jumps.new.out c.add_out_of_bounds.new.out c.add_notes.new.out _ _ c.in_ok-add_out_of_bounds.ensures
    c.in_ok-notes.ensures.entries) in (
      λ i. miss.Clock (deviation i) (notes i),
      subst (λ (spots : List Spot).
          AddsSources c.args.out.now c.add_notes.new.out (record { lines = jumps ++ lines; entries = spots }))
          entries
          (subst (λ (more : List ScriptLine). AddsSources c.args.out.now c.add_notes.new.out (record {
            lines = jumps ++ more;
            entries = cond c.has_grown-has_jumps.result [] (entries_noted (both_noted p k s before));
          })) (append-nil lines) all),
    )
