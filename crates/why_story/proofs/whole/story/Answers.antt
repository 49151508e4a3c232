use Rattle.std.proofs.Common.{◌≡◌, List, [], ◌∷◌, ◌++◌, map, sym, ap, ◌∙◌, subst, arith, ◌-◌, length, All}
use Rattle.causes.specs.Story.{kept_of_told, leading, reached, spots_back, with_root}
use Rattle.causes.specs.declared.cause.Spot.{Spot}
use Rattle.causes.specs.declared.cause.Told.{Told}
use Rattle.why_story.specs.Marks.{AreToldWithin}
use Rattle.why_story.specs.RunSource.{AreRunSpots, source_slots, slots_up_to, spot_at}
use Rattle.why_story.proofs.Roots.{story-is}
use Rattle.why_story.proofs.Slots.{length-run}
use Rattle.why_story.proofs.Within.{AreToldPart, IsPart, kept-part, reached-part}
use Rattle.why_story.proofs.Within.{reached-within, root-part, root-within}
use Rattle.why_story.proofs.whole.story.Goals as goal

pub leading-requires : goal.leading-requires
leading-requires g c =
    let source = g.C.Causes.source c.args.causes.now in
    subst (AreToldWithin c.args.slots) (sym (c.as_slice-4.ensures ∙ c.in_ok-told.ensures))
    (root-within c.args.slots c.as_slice-3.result.now c.in_ok-reached.reached
    (subst (AreToldWithin c.args.slots) (sym c.in_ok-reached.ensures)
    (reached-within source c.args.nodes c.args.slots c.as_slice-2.result.now
    (omega (arith, c.requires.slots)) c.requires.nodes
    c.requires.most)))

pub kept_from-requires : goal.kept_from-requires
kept_from-requires g c =
    let source = g.C.Causes.source c.args.causes.now in
    subst (AreToldWithin c.args.slots) (sym c.in_ok-told.ensures)
    (root-within c.args.slots c.as_slice-3.result.now c.in_ok-reached.reached
    (subst (AreToldWithin c.args.slots) (sym c.in_ok-reached.ensures)
    (reached-within source c.args.nodes c.args.slots c.as_slice-2.result.now
    (omega (arith, c.requires.slots)) c.requires.nodes
    c.requires.most)))

pub returns-clause-told : goal.returns-clause-told
returns-clause-told g c =
    let source = g.C.Causes.source c.args.causes.now in
    let nodes = length source.list.slots in
    let kept =
    c.in_ok-told-2.ensures (leading c.as_slice-4.result.now) c.in_ok-back.ensures.marks c.in_ok-back.ensures.within in
    let reached_part =
    subst (AreToldPart c.args.slots nodes) (sym c.in_ok-reached.ensures)
    (reached-part source c.args.nodes c.args.slots nodes c.as_slice-2.result.now (omega (arith, c.requires.slots))
    c.requires.nodes (omega (arith, c.requires.nodes))) in
    let told_part =
    subst (AreToldPart c.args.slots nodes) (sym c.in_ok-told.ensures)
    (root-part c.args.slots nodes c.as_slice-3.result.now c.in_ok-reached.reached reached_part) in
    subst (λ (ts : List Told). AreRunSpots source (map (λ t. t.spot) ts)) (sym kept)
    (subst
    (λ n. All (IsPart n nodes)
    (map (λ t. t.spot)
    (kept_of_told (leading c.as_slice-4.result.now) (spot_at (c.args.slots - 1) c.args.node ∷ []) c.in_ok-told.told)))
    c.requires.slots
    (kept-part c.args.slots nodes (leading c.as_slice-4.result.now) c.in_ok-told.told told_part
    (spot_at (c.args.slots - 1) c.args.node ∷ [])))

pub returns-clause-value : goal.returns-clause-value
returns-clause-value g c =
    let source = g.C.Causes.source c.args.causes.now in
    let run = source_slots source in
    let asked = spot_at (c.args.slots - 1) c.args.node in
    let spots = spots_back (slots_up_to run c.args.slots) in
    let origin = c.in_ok-root.root in
    let kept =
    c.in_ok-told-2.ensures (leading c.as_slice-4.result.now) c.in_ok-back.ensures.marks c.in_ok-back.ensures.within in
    let from : c.as_slice-2.result.now ≡ asked ∷ origin =
    c.as_slice-2.ensures
    ∙ (c.in_ok-add_all.ensures
    ∙ (ap (λ (x : List Spot). x ++ c.as_slice.result.now)
    (c.in_ok-push.ensures.ok ∙ ap (λ (x : List Spot). x ++ asked ∷ []) c.new-from.ensures)
    ∙ ap (λ (x : List Spot). (asked ∷ []) ++ x) c.as_slice.ensures)) in
    let told : c.in_ok-told.told ≡ with_root origin (reached run (asked ∷ origin) spots) =
    c.in_ok-told.ensures
    ∙ (ap (λ (x : List Spot). with_root x c.in_ok-reached.reached) c.as_slice-3.ensures
    ∙ ap (with_root origin) (c.in_ok-reached.ensures ∙ ap (λ (x : List Spot). reached run x spots) from)) in
    story-is c.args.script.now run c.args.node c.args.slots (c.args.slots - 1)
    (c.requires.slots ∙ sym (length-run source.list source.script source.history)) (omega (arith, c.requires.some))
    origin c.in_ok-root.ensures.value c.in_ok-told-2.told
    (kept
    ∙ (ap (λ (ts : List Told). kept_of_told (leading ts) (asked ∷ []) c.in_ok-told.told) c.as_slice-4.ensures
    ∙ ap (λ (ts : List Told). kept_of_told (leading ts) (asked ∷ []) ts) told))
