use Rattle.std.proofs.Common.{[], ◌∷◌, sym, ◌∙◌, subst, arith}
use Rattle.std.proofs.lemmas.List.{nil_from_length}
use Rattle.std.specs.Vec.Iter.{into_iter_items}
use Rattle.std.proofs.lemmas.List.Elements.{All-cons, All-head, All-nil, All-tail}
use Rattle.why_story.specs.Marks.{AreToldWithin}
use Rattle.why_story.proofs.Keeping.{Keeps-init, Keeps-more, kept-end}
use Rattle.why_story.proofs.Within.{IsWithin}
use Rattle.why_story.proofs.keep.kept_from.Goals as goal

pub loop-one-init : goal.loop-one-init
loop-one-init c =
    let items = c.into_iter-left.ensures.rest ∙ c.into_vec.ensures in (
      subst (AreToldWithin c.args.slots) (sym items) c.requires,
      λ leading marks within.
          Keeps-init c.args.slots leading (c.args.asked ∷ []) c.args.told _ _
          (c.mark.ensures c.args.slots [] c.in_ok-marks.ensures)
          c.new-2.ensures items,
    )

pub loop-one-preserved : goal.loop-one-preserved
loop-one-preserved c =
    let one = c.in-Some.one in
    let more = into_iter_items c.next.new.self in
    let cut = c.in-Some.ensures.items in
    let all = subst (AreToldWithin c.args.slots) cut c.loop-one.invariant.0 in
    let here = All-head (λ t. IsWithin c.args.slots t.spot) one more all in (
      All-tail (λ t. IsWithin c.args.slots t.spot) one more all,
      λ leading marks within.
          Keeps-more c.args.slots leading [] (c.args.asked ∷ []) c.args.told (into_iter_items c.loop-one.left) one more
          c.loop-one.kept _ (c.loop-one.invariant.1 leading marks within) cut
          (λ m are. c.in_ok-keep_one.ensures c.args.slots leading m marks within are
          (All-cons (λ t. IsWithin c.args.slots t.spot) one [] here (All-nil (λ t. IsWithin c.args.slots t.spot)))),
    )

pub returns : goal.returns
returns c = λ leading marks within.
    kept-end c.args.slots leading (c.args.asked ∷ []) c.args.told (into_iter_items c.loop-one.left) c.loop-one.kept
    (c.loop-one.invariant.1 leading marks within)
    (nil_from_length (into_iter_items c.loop-one.left)
    (omega (arith, c.loop-one.left.rest.ok.0, c.in_default.ensures.cases.0)))
