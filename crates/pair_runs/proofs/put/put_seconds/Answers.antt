use Rattle.std.proofs.Common.{◌≡◌, ◌≤◌, ℕ, length, ap, sym, subst, ◌∙◌, refl}
use Rattle.std.specs.Prelude.{map}
use Rattle.std.proofs.lemmas.List.{length-map}
use Rattle.std.proofs.lemmas.List.Elements.{All-map}
use Rattle.std.proofs.lemmas.Simd.{map-map}
use Rattle.fault_pairs.specs.Sums.{PairTold}
use Rattle.pair_runs.specs.Counted.{most_tried, distances_of}
use Rattle.pair_runs.specs.Tries.{shortened, told_pair, pair_tried}
use Rattle.pair_runs.proofs.put.put_seconds.Goals as goal

pub put_tolds-requires-clause-count : goal.put_tolds-requires-clause-count
put_tolds-requires-clause-count g c =
    let all : c.as_slice.result.now ≡ map (pair_tried c.args.setting.now c.args.apart) c.args.faults.now =
    c.as_slice.ensures.value ∙ c.in-Ok.ensures in
    subst (λ (n : ℕ). n ≤ most_tried)
    (sym (ap length all ∙ length-map c.args.faults.now (pair_tried c.args.setting.now c.args.apart)))
    c.requires.count

pub put_tolds-requires-clause-few : goal.put_tolds-requires-clause-few
put_tolds-requires-clause-few g c =
    (distances_of c.args.setting.now.common, c.requires.few.0, c.requires.few.1, c.requires.apart, c.requires.few.2)

pub returns-clause-ok : goal.returns-clause-ok
returns-clause-ok g c =
    let told = told_pair c.args.setting.now c.args.apart in
    let faults = c.args.faults.now in
    let all = c.as_slice.ensures.value ∙ c.in-Ok.ensures ∙ sym (map-map shortened told faults) in
    c.put_tolds.ensures.ok (map told faults) all
    (All-map (λ (pair : PairTold). pair.apart ≡ c.args.apart) told faults (λ k d less. refl))

pub returns-clause-err : goal.returns-clause-err
returns-clause-err g c =
    let told = told_pair c.args.setting.now c.args.apart in
    let faults = c.args.faults.now in
    let all = c.as_slice.ensures.value ∙ c.in-Ok.ensures ∙ sym (map-map shortened told faults) in
    c.put_tolds.ensures.err (map told faults) all
    (All-map (λ (pair : PairTold). pair.apart ≡ c.args.apart) told faults (λ k d less. refl))
