use Rattle.std.proofs.Common.{◌≡◌, ℕ, ◌+◌, ◌≤◌, ◌^◌, List, [], ◌∷◌, ◌++◌, length, refl, ap, sym}
use Rattle.std.proofs.Common.{subst, ◌∙◌, append_assoc, append-nil, length-append, arith, rules}
use Rattle.std.specs.Vec.Iter.{into_iter_items}
use Rattle.std.proofs.lemmas.List.{nil_from_length}
use Rattle.clock_margins.specs.Outcomes.{ValueTold}
use Rattle.margin_text.specs.declared.told.Told.{Told}
use Rattle.margin_text.specs.Taken.{value_told}
use Rattle.fault_runs.specs.Ends.{LeftBy}
use Rattle.margin_runs.specs.Tries.{are_told}
use Rattle.margin_runs.specs.Written.{IsPutOf, AreWritable, closed_lines}
use Rattle.margin_runs.proofs.Puts.{few-more, told-parts, told-next, left-more}
use Rattle.margin_runs.proofs.Writable.{front-writable}
use Rattle.margin_runs.proofs.put.put_tolds.Goals as goal

pub loop-told-init : goal.loop-told-init
loop-told-init g c = (
  refl,
  search rules,
  λ start tolds put.
      subst (λ (xs : List ValueTold).
      IsPutOf start (g.K.Sink.output c.args.out.now) c.args.list.now c.args.sweep xs c.args.swept.now)
      (sym (append-nil tolds)) put,
)

pub put_told-requires : goal.put_told-requires
put_told-requires g c =
    let at = c.loop-told in
    let x = c.in-Some.told in
    let all = c.args.all.items in
    let rest = into_iter_items c.next.new.self in
    let steps : into_iter_items at.told-iterator ≡ x ∷ rest = c.in-Some.ensures.steps.0 in
    let whole : all ≡ at.yielded ++ x ∷ rest =
    sym c.into_iter-told-iterator.ensures.into_iter_gives.0 ∙ sym at.invariant.0
    ∙ ap (λ (xs : List Told). at.yielded ++ xs) steps in
    let start = c.requires.put.0 in
    let tolds = c.requires.put.1 in
    let put = at.invariant.2 start tolds c.requires.put.2 in
    let parts = told-parts tolds all at.yielded x rest whole in
    let count : length (tolds ++ are_told all)
    ≡ (length (tolds ++ are_told at.yielded) + 1) + length (are_told rest) =
    ap length parts
    ∙ length-append ((tolds ++ are_told at.yielded) ++ value_told x ∷ []) (are_told rest)
    ∙ ap (λ (n : ℕ). n + length (are_told rest)) (length-append (tolds ++ are_told at.yielded) (value_told x ∷ [])) in
    let most = c.requires.put.4 in
    let less : length (tolds ++ are_told at.yielded) ≤ 2 ^ 62 = omega (arith, count, most) in
    record {
      valid = c.requires.valid;
      few = few-more (length (tolds ++ are_told at.yielded)) (2 ^ 62) at.swept less put.few;
      node = omega (arith, put.node, put.swept.fold.node);
      swept = (
        tolds ++ are_told at.yielded,
        put.swept,
        front-writable ((tolds ++ are_told at.yielded) ++ value_told x ∷ []) (are_told rest)
            (subst AreWritable parts c.requires.put.3),
      );
    }

pub loop-told-preserved : goal.loop-told-preserved
loop-told-preserved g c =
    let at = c.loop-told in
    let x = c.in-Some.told in
    let steps : into_iter_items at.told-iterator ≡ x ∷ into_iter_items c.next.new.self = c.in-Some.ensures.steps.0 in
    let was = at.invariant.1 in
    let gone = c.in-Some.ensures.steps.1 in
    let short = ap length steps in (
      append_assoc at.yielded (x ∷ []) (into_iter_items c.next.new.self)
          ∙ ap (λ (xs : List Told). at.yielded ++ xs) (sym steps) ∙ at.invariant.0,
      omega (arith, was, gone, short),
      λ start tolds put.
          subst
          (λ (xs : List ValueTold). IsPutOf start (g.K.Sink.output c.put_told.new.out) c.args.list.now c.args.sweep xs
          c.put_told.new.swept)
          (told-next tolds at.yielded x)
          (c.in_default.ensures.ok start (tolds ++ are_told at.yielded) (at.invariant.2 start tolds put)),
    )

pub returns-in-Err-clause-err : goal.returns-in-Err-clause-err
returns-in-Err-clause-err g c = λ start tolds put.
    let at = c.loop-told in
    let x = c.in-Some.told in
    let all = c.args.all.items in
    let rest = into_iter_items c.next.new.self in
    let steps : into_iter_items at.told-iterator ≡ x ∷ rest = c.in-Some.ensures.steps.0 in
    let whole : all ≡ at.yielded ++ x ∷ rest =
    sym c.into_iter-told-iterator.ensures.into_iter_gives.0 ∙ sym at.invariant.0
    ∙ ap (λ (xs : List Told). at.yielded ++ xs) steps in
    let why = c.in-Err.why in
    let now = g.K.Sink.output c.put_told.new.out in
    let front = tolds ++ are_told at.yielded in
    subst (λ (xs : List ValueTold). LeftBy why start now (closed_lines c.args.list.now c.args.sweep xs))
    (sym (told-parts tolds all at.yielded x rest whole))
    (left-more c.args.list.now c.args.sweep why start now (front ++ value_told x ∷ []) (are_told rest)
    (c.in-Err.ensures.err start front (at.invariant.2 start tolds put)))

pub returns-clause-ok : goal.returns-clause-ok
returns-clause-ok g c = λ start tolds put.
    let at = c.loop-told in
    let none = c.in-None.ensures.steps in
    let empty : into_iter_items at.told-iterator ≡ [] =
    nil_from_length (into_iter_items at.told-iterator) (sym at.invariant.1 ∙ none.0) in
    let all : at.yielded ≡ c.args.all.items =
    sym (append-nil at.yielded) ∙ ap (λ (xs : List Told). at.yielded ++ xs) (sym empty) ∙ at.invariant.0
    ∙ c.into_iter-told-iterator.ensures.into_iter_gives.0 in
    subst
    (λ (xs : List Told). IsPutOf start (g.K.Sink.output at.out) c.args.list.now
    c.args.sweep (tolds ++ are_told xs) at.swept)
    all (at.invariant.2 start tolds put)
