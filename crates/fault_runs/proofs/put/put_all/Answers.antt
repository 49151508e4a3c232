use Rattle.fault_runs.proofs.Words.{◌≡◌, ◌<◌, ◌+◌, ◌*◌, ◌++◌, ◌∷◌, [], List, ℕ, length, get_or, take, drop, ap, sym}
use Rattle.fault_runs.proofs.Words.{subst, ◌∙◌, append-nil, append_assoc, arith, get_or-map, length-map, map-append}
use Rattle.fault_runs.proofs.Words.{take-append-drop, take_more, LeftBy, WroteLines, Lines, Wrote-none, Wrote-join}
use Rattle.fault_runs.proofs.Words.{Event, Tried, most_tried, HasAtMost, IsTallyOf, tried_of, tried_lines}
use Rattle.std.proofs.Common.{take_all}
use Rattle.fault_runs.proofs.Endings.{leaves-after, leaves-more}
use Rattle.ttp_world.specs.declared.script.Event.TheVariants as event
use Rattle.fault_runs.proofs.put.put_all.Goals as goal

pub loop-tried-init : goal.loop-tried-init
loop-tried-init g c = (
  λ list script before faults are is.
      subst (λ (fs : List Event). IsTallyOf list script fs c.args.tally.now) (sym (append-nil before)) is,
  (let same : most_tried * c.args.slot ≡ most_tried * c.args.slot + 0 = omega arith in
      subst (λ (n : ℕ). HasAtMost n c.args.tally.now) same c.requires.few),
  Wrote-none _,
)

pub loop-tried-preserved : goal.loop-tried-preserved
loop-tried-preserved g c =
    let all = c.args.all.now in
    let i = c.loop-tried.tried-index in
    let tried = c.tried-item.result in
    let more : take i all ++ tried ∷ [] ≡ take (i + 1) all =
    ap (λ (e : Tried). take i all ++ e ∷ []) c.tried-item.is
    ∙ sym (take_more all i tried c.loop-tried-test.true) in
    let counted : most_tried * c.args.slot + i + 1 ≡ most_tried * c.args.slot + (i + 1) = omega arith in (
      λ list script before faults are is.
          let fault = get_or faults i (event.Arm 0 0) in
          let inside : i < length faults =
          omega (arith, ap length are, length-map faults (tried_of list script), c.loop-tried-test.true) in
          let told : tried ≡ tried_of list script fault =
          c.tried-item.is ∙ ap (λ (xs : List Tried). get_or xs i tried) are
          ∙ get_or-map (tried_of list script) faults i (event.Arm 0 0) tried inside in
          subst (λ (fs : List Event). IsTallyOf list script fs c.put_tried.new.tally)
          (append_assoc before (take i faults) (fault ∷ [])
          ∙ ap (λ (fs : List Event). before ++ fs) (sym (take_more faults i (event.Arm 0 0) inside)))
          (c.in_default.ensures.told list script (before ++ take i faults) fault told
          (c.loop-tried.invariant.0 list script before faults are is)),
      subst (λ (n : ℕ). HasAtMost n c.put_tried.new.tally) counted
          (c.in_default.ensures.few (most_tried * c.args.slot + i) c.loop-tried.invariant.1),
      subst (λ (lines : Lines). WroteLines (g.K.Sink.output c.args.out.now) (g.K.Sink.output c.put_tried.new.out) lines)
          (sym (map-append (λ (t : Tried). t.line) (take i all) (tried ∷ [])) ∙ ap tried_lines more)
          (Wrote-join _ _ _ (tried_lines (take i all)) (tried.line ∷ [])
          c.loop-tried.invariant.2 c.in_default.ensures.ok),
    )

pub returns-in-Err-clause-err : goal.returns-in-Err-clause-err
returns-in-Err-clause-err g c =
    let all = c.args.all.now in
    let i = c.loop-tried.tried-index in
    let tried = c.tried-item.result in
    let why = c.in-Err.why in
    let a = g.K.Sink.output c.args.out.now in
    let b = g.K.Sink.output c.loop-tried.out in
    let d = g.K.Sink.output c.put_tried.new.out in
    let line = λ (t : Tried). t.line in
    let so_far = tried_lines (take i all) in
    let rest = drop (i + 1) all in
    let more : take i all ++ tried ∷ [] ≡ take (i + 1) all =
    ap (λ (e : Tried). take i all ++ e ∷ []) c.tried-item.is
    ∙ sym (take_more all i tried c.loop-tried-test.true) in
    let whole : (so_far ++ tried.line ∷ []) ++ tried_lines rest ≡ tried_lines all =
    ap (λ (lines : Lines). lines ++ tried_lines rest) (sym (map-append line (take i all) (tried ∷ [])))
    ∙ sym (map-append line (take i all ++ tried ∷ []) rest)
    ∙ ap (λ (front : List Tried). tried_lines (front ++ rest)) more
    ∙ ap tried_lines (take-append-drop (i + 1) all) in
    subst (λ (lines : Lines). LeftBy why a d lines) whole
    (leaves-more why a d (so_far ++ tried.line ∷ []) (tried_lines rest)
    (leaves-after why a b d so_far (tried.line ∷ []) c.loop-tried.invariant.2 c.in-Err.ensures.err))

pub returns-clause-told : goal.returns-clause-told
returns-clause-told g c = λ list script before faults are is.
    let inside : length c.args.all.now ≡ length faults = ap length are ∙ length-map faults (tried_of list script) in
    let whole : take c.loop-tried.tried-index faults ≡ faults =
    take_all c.loop-tried.tried-index faults (omega (arith, inside, c.loop-tried-test.false)) in
    subst (λ (fs : List Event). IsTallyOf list script (before ++ fs) c.loop-tried.tally) whole
    (c.loop-tried.invariant.0 list script before faults are is)
