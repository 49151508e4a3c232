use Rattle.std.proofs.Common.{◌-◌, List, ap, sym, subst, ◌∙◌, map, arith}
use Rattle.std.specs.Prelude.{reverse}
use Rattle.causes.specs.declared.cause.Told.{Told}
use Rattle.why_lines.specs.Roots.{root_at}
use Rattle.why_lines.proofs.Stories.{root-within, story-step, told-within}
use Rattle.why_story.specs.RunSource.{AreRunSpots, source_slots}
use Rattle.why_lines.proofs.told.put_story.Goals as goal

pub told_line-requires : goal.told_line-requires
told_line-requires g c =
    let source = g.C.Causes.source c.args.causes.now in
    let at = c.loop-place.place - 1 in
    record {
      root = subst (AreRunSpots source) (sym c.root_at-root.ensures)
          (root-within source at c.as_slice.result.now
          (subst (AreRunSpots source) (sym c.as_slice.ensures) c.requires.root));
      told = told-within source c.as_slice-told.result.now at c.index-told-place.result
          (omega (arith, c.loop-place.invariant)) c.index-told-place.is
          (subst (λ (ts : List Told). AreRunSpots source (map (λ t. t.spot) ts))
          (sym c.as_slice-told.ensures) c.requires.told);
    }

pub loop-place-preserved : goal.loop-place-preserved
loop-place-preserved g c =
    let at = c.loop-place.place - 1 in
    let told = c.as_slice-told.result.now in (
      omega (arith, c.loop-place.invariant),
      c.in_ok-push.ensures.ok
          ∙ story-step c.args.list.now c.args.numbers.now (source_slots (g.C.Causes.source c.args.causes.now))
          (reverse (map (λ t. t.spot) told)) c.as_slice-in-loop-place.result.now
          c.args.story.now.root c.root_at-root.result.now told
          c.loop-place.place at c.index-told-place.result c.args.lines.now c.loop-place.lines c.in_ok-line.line
          (omega arith) (omega (arith, c.loop-place.invariant)) c.index-told-place.is
          (c.as_slice-in-loop-place.ensures ∙ c.in_ok-spots.ensures)
          (c.root_at-root.ensures ∙ ap (root_at at) c.as_slice.ensures) c.in_ok-line.ensures c.loop-place.invariant.1,
    )
