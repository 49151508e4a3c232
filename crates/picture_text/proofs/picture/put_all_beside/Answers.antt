use Rattle.picture_text.proofs.Words.{◌≡◌, ◌∙◌, ap, sym, refl, ℕ, ◌+◌, drop, arith, beside_lines, slot_at}
use Rattle.picture_text.proofs.Words.{no_slot_lines}
use Rattle.picture_text.proofs.Rows.{slot_more}
use Rattle.picture_text.proofs.Sought.{at_place, next_place, not_all}
use Rattle.picture_text.proofs.picture.put_all_beside.Goals as goal

pub unreachable-requires : goal.unreachable-requires
unreachable-requires g c =
    let over = not_all c.args.trace.now.slots (c.args.layout.span.first + c.loop-passed.passed)
    (sym c.loop-passed.invariant.left ∙ c.in-None.ensures.none refl) in
    omega (arith, over, c.requires.shown)

pub loop-passed-preserved : goal.loop-passed-preserved
loop-passed-preserved g c =
    let t = c.args.layout.span.first + c.loop-passed.passed in
    let next = sym c.loop-passed.invariant.left ∙ c.in-Some.ensures.some in
    record {
      left =
          next_place c.args.trace.now.slots t c.in-Some.shown c.next_slot.new.self next
          ∙ ap (λ (k : ℕ). drop k c.args.trace.now.slots)
          (let same : t + 1 ≡ c.args.layout.span.first + (c.loop-passed.passed + 1) = omega arith in same);
      puts =
          slot_more _ _ _ _ _ _ (λ t. beside_lines c.args.layout.head.nodes c.args.layout.span t
          (slot_at c.args.trace.now t))
          c.args.layout.span.first c.loop-passed.passed
          (beside_lines c.args.layout.head.nodes c.args.layout.span t c.in-Some.shown)
          c.loop-passed.invariant.puts c.put_beside.ensures
          (ap (beside_lines c.args.layout.head.nodes c.args.layout.span t)
          (sym (at_place c.args.trace.now.slots t no_slot_lines c.in-Some.shown c.next_slot.new.self next)));
    }
