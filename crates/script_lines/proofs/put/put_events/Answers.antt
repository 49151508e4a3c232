use Rattle.std.proofs.Common.{◌≡◌, ◌+◌, List, [], ◌∷◌, ◌++◌, map, take, drop, ap, sym, ◌∙◌, subst}
use Rattle.std.proofs.lemmas.List.{map-append, take_more, take-append-drop}
use Rattle.std.proofs.lemmas.Result.{err_from_is_err_and}
use Rattle.ttp_base.specs.Outside.{WroteLines, CutShort}
use Rattle.ttp_base.specs.Text.{Lines}
use Rattle.ttp_base.proofs.Outputs.{CutShort-after, CutShort-more, Wrote-none, Wrote-join}
use Rattle.ttp_world.specs.declared.script.Event.{Event}
use Rattle.script_lines.specs.ScriptLines.{event_line}
use Rattle.script_lines.proofs.put.put_events.Goals as goal

pub loop-event-init : goal.loop-event-init
loop-event-init g c = Wrote-none _

pub loop-event-preserved : goal.loop-event-preserved
loop-event-preserved g c =
    let all = c.args.events.now in
    let i = c.loop-event.event-index in
    let e = c.event-item.result in
    let more : take i all ++ e ∷ [] ≡ take (i + 1) all =
    ap (λ (x : Event). take i all ++ x ∷ []) c.event-item.is ∙ sym (take_more all i e c.loop-event-test.true) in
    subst (λ (lines : Lines). WroteLines (g.K.Sink.output c.args.out.now) (g.K.Sink.output c.write.new.self) lines)
    (sym (map-append event_line (take i all) (e ∷ [])) ∙ ap (map event_line) more)
    (Wrote-join _ _ _ (map event_line (take i all)) (event_line e ∷ []) c.loop-event.invariant
    (rw (← c.event_line.ensures, ← c.bytes.ensures) c.in_ok-write.ensures.ok))

pub returns-in_err-write-clause-failed : goal.returns-in_err-write-clause-failed
returns-in_err-write-clause-failed g c =
    let failed = err_from_is_err_and c.from_residual.result c.from_residual.ensures.1 in
    let all = c.args.events.now in
    let i = c.loop-event.event-index in
    let e = c.event-item.result in
    let a = g.K.Sink.output c.args.out.now in
    let d = g.K.Sink.output c.write.new.self in
    let so_far = map event_line (take i all) in
    let rest = drop (i + 1) all in
    let more : take i all ++ e ∷ [] ≡ take (i + 1) all =
    ap (λ (x : Event). take i all ++ x ∷ []) c.event-item.is ∙ sym (take_more all i e c.loop-event-test.true) in
    let whole : (so_far ++ event_line e ∷ []) ++ map event_line rest ≡ map event_line all =
    ap (λ (lines : Lines). lines ++ map event_line rest) (sym (map-append event_line (take i all) (e ∷ [])))
    ∙ sym (map-append event_line (take i all ++ e ∷ []) rest)
    ∙ ap (λ (front : List Event). map event_line (front ++ rest)) more
    ∙ ap (map event_line) (take-append-drop (i + 1) all) in
    rw failed.1 (subst (λ (lines : Lines). CutShort a d lines) whole
    (CutShort-more a d (so_far ++ event_line e ∷ []) (map event_line rest)
    (CutShort-after a _ d so_far (event_line e ∷ []) c.loop-event.invariant
    (rw (← c.event_line.ensures, ← c.bytes.ensures) c.in_err-write.ensures.failed))))
