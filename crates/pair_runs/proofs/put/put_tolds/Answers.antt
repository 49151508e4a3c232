use Rattle.std.proofs.Common.{◌≡◌, ◌+◌, ◌<◌, ℕ, List, ◌∷◌, [], length, get_or}
use Rattle.std.proofs.Common.{take, ap, sym, subst, ◌∙◌, arith, take_all}
use Rattle.std.specs.Prelude.{map}
use Rattle.std.proofs.lemmas.List.{length-map, get_or-map, take_more}
use Rattle.fault_pairs.specs.PairText.{lines_of_told}
use Rattle.fault_pairs.specs.Sums.{PairTold}
use Rattle.pair_runs.specs.declared.tried.PairResult.{PairResult}
use Rattle.pair_runs.specs.Counted.{PutPairs}
use Rattle.pair_runs.specs.Tries.{shortened}
use Rattle.pair_runs.proofs.Counted.{few-weaker, pairs-none, pairs-join, left-in}
use Rattle.pair_runs.proofs.Told.{no_told, lines-split}
use Rattle.pair_runs.proofs.put.put_tolds.Goals as goal

pub loop-told-init : goal.loop-told-init
loop-told-init g c = record {
  few = λ distances most has. few-weaker distances most (most + 0) c.args.tally.now has (omega arith);
  put = λ pairs is at. pairs-none (g.K.Sink.output c.args.out.now) c.args.tally.now;
}

pub put_told-requires : goal.put_told-requires
put_told-requires g c =
    let i = c.loop-told.told-index in
    let most = c.requires.few.1 in
    record {
      few = (
        c.requires.few.0,
        most + i,
        c.loop-told.invariant.few c.requires.few.0 most c.requires.few.2,
        c.requires.few.3,
        omega (arith, c.requires.few.4, c.requires.count, c.loop-told-test.true),
      );
    }

-- the pair of the run that is told
one-of : (pairs : List PairTold) (all : List PairResult) (told : PairResult) (i : ℕ) → all
    ≡ map shortened pairs → told ≡ get_or all i told
    → i < length all → (i < length pairs) × (told ≡ shortened (get_or pairs i no_told))
one-of pairs all told i are is inside =
    let within : i < length pairs = omega (arith, ap length are, length-map pairs shortened, inside) in (
      within,
      is ∙ ap (λ (xs : List PairResult). get_or xs i told) are ∙ get_or-map shortened pairs i no_told told within,
    )

pub loop-told-preserved : goal.loop-told-preserved
loop-told-preserved g c =
    let i = c.loop-told.told-index in
    let told = c.told-item.result in
    let o = g.K.Sink.output c.args.out.now in
    let p = g.K.Sink.output c.loop-told.out in
    let q = g.K.Sink.output c.put_told.new.out in
    record {
      few = λ distances most has.
          few-weaker distances (most + i + 1) (most + (i + 1)) c.put_told.new.tally
          (c.in_default.ensures.few distances (most + i) (c.loop-told.invariant.few distances most has)) (omega arith);
      put = λ pairs are at.
          let one = one-of pairs c.args.all.now told i are c.told-item.is c.loop-told-test.true in
          let pair = get_or pairs i no_told in
          subst (λ (ps : List PairTold). PutPairs o q c.args.tally.now c.put_told.new.tally ps)
          (sym (take_more pairs i no_told one.0))
          (pairs-join o p q c.args.tally.now c.loop-told.tally c.put_told.new.tally (take i pairs) (pair ∷ [])
          (c.loop-told.invariant.put pairs are at) (c.in_default.ensures.ok pair one.1 (at i no_told one.0)));
    }

pub returns-in-Err-clause-err : goal.returns-in-Err-clause-err
returns-in-Err-clause-err g c = λ pairs are at.
    let i = c.loop-told.told-index in
    let told = c.told-item.result in
    let o = g.K.Sink.output c.args.out.now in
    let p = g.K.Sink.output c.loop-told.out in
    let q = g.K.Sink.output c.put_told.new.out in
    let one = one-of pairs c.args.all.now told i are c.told-item.is c.loop-told-test.true in
    let pair = get_or pairs i no_told in
    left-in c.in-Err.why o p q (lines_of_told (take i pairs)) (lines_of_told (pair ∷ [])) _ (lines_of_told pairs)
    (lines-split pairs i one.0) (c.loop-told.invariant.put pairs are at).wrote (c.in-Err.ensures.err pair one.1)

pub returns-clause-ok : goal.returns-clause-ok
returns-clause-ok g c = λ pairs are at.
    let i = c.loop-told.told-index in
    let o = g.K.Sink.output c.args.out.now in
    let p = g.K.Sink.output c.loop-told.out in
    let inside : length c.args.all.now ≡ length pairs = ap length are ∙ length-map pairs shortened in
    subst (λ (ps : List PairTold). PutPairs o p c.args.tally.now c.loop-told.tally ps)
    (take_all i pairs (omega (arith, inside, c.loop-told-test.false))) (c.loop-told.invariant.put pairs are at)
