use Rattle.std.proofs.Common.{◌≡◌, ◌<◌, ◌++◌, ◌∷◌, [], ℕ, Bool, cond, List, length}
use Rattle.std.proofs.Common.{get_or, ap, sym, subst, ◌∙◌, arith, not}
use Rattle.std.specs.Prelude.{OnOk, IfErr, codes, decimal}
use Rattle.std.proofs.lemmas.Bool.{eq-eqb, ne_eqb}
use Rattle.std.proofs.lemmas.List.{get_or_read}
use Rattle.ttp_base.specs.Outside.{WroteLines}
use Rattle.ttp_base.specs.Text.{Lines}
use Rattle.ttp_base.proofs.Outputs.{Wrote-none}
use Rattle.fault_runs.specs.declared.put.CampaignFault.{CampaignFault}
use Rattle.fault_runs.specs.Ends.{LeftBy, LeftFewerBy}
use Rattle.pair_runs.proofs.FromBelow.{err-weaker}
use Rattle.fault_pairs.specs.declared.pair.PairCounts.{PairCounts}
use Rattle.fault_pairs.specs.PairText.{apart_line, pair_counts_line}
use Rattle.fault_pairs.specs.Sums.{PairTold, pair_counts, told_apart}
use Rattle.pair_classes.specs.declared.sums.Sums.{Sums}
use Rattle.pair_classes.specs.Summed.{AreSumsOf}
use Rattle.pair_runs.specs.Written.{lines_at}
use Rattle.pair_runs.proofs.Firsts.{left-fewer}
use Rattle.pair_runs.proofs.Groups.{some-apart}
use Rattle.pair_runs.proofs.put.put_distance.Goals as goal

-- with pairs it has a line, and without any it has none
with-pairs : (tolds : List PairTold) (d : ℕ) → (length (told_apart d tolds) ≡ 0 → ⊥)
    → apart_line tolds d ∷ [] ≡ lines_at tolds d
with-pairs tolds d some =
    ap (λ (b : Bool). cond b (apart_line tolds d ∷ []) [])
    (sym (sym (some-apart d tolds) ∙ ap not (ne_eqb (length (told_apart d tolds)) 0 some)))

-- the counts of a distance are those of its pairs
counted-at : (sums : Sums) (distances : ℕ) (tolds : List PairTold) (d : ℕ) (counts : PairCounts)
    → AreSumsOf distances tolds sums
    → d < length sums.apart.items → counts ≡ get_or sums.apart.items d counts
    → counts ≡ pair_counts (told_apart d tolds)
counted-at sums distances tolds d counts are inside is =
    get_or_read sums.apart.items d counts inside is (pair_counts [])
    ∙ are.apart d (omega (arith, inside, are.room))

without-pairs : (tolds : List PairTold) (d : ℕ) → length (told_apart d tolds) ≡ 0 → [] ≡ lines_at tolds d
without-pairs tolds d none =
    ap (λ (b : Bool). cond b (apart_line tolds d ∷ []) [])
    (sym (sym (some-apart d tolds) ∙ ap not (eq-eqb (length (told_apart d tolds)) 0 none)))

pub returns-then-counts-eq0-clause-ok : goal.returns-then-counts-eq0-clause-ok
returns-then-counts-eq0-clause-ok g c = λ distances tolds are.
    let o = g.K.Sink.output c.args.out.now in
    let d = c.args.distance in
    let counted = counted-at c.args.sums.now distances tolds d c.index.result.now are c.requires c.index.ensures in
    let none : length (told_apart d tolds) ≡ 0 =
    sym (ap (λ (k : PairCounts). k.pairs) counted) ∙ c.if-counts-eq0.true in
    subst (λ (ls : Lines). WroteLines o o ls) (without-pairs tolds d none) (Wrote-none o)

pub returns-clause-ok : goal.returns-clause-ok
returns-clause-ok g c = λ distances tolds are.
    let o = g.K.Sink.output c.args.out.now in
    let p = g.K.Sink.output c.put_formed.new.out in
    let d = c.args.distance in
    let counts = c.index.result.now in
    let counted = counted-at c.args.sums.now distances tolds d counts are c.requires c.index.ensures in
    let some : length (told_apart d tolds) ≡ 0 → ⊥ =
    λ none. c.if-counts-eq0.false (ap (λ (k : PairCounts). k.pairs) counted ∙ none) in
    let name = codes "apart " ++ decimal d ++ codes " " in
    let same : pair_counts_line name counts ∷ [] ≡ lines_at tolds d =
    ap (λ (k : PairCounts). pair_counts_line name k ∷ []) counted ∙ with-pairs tolds d some in
    let formed = subst (λ (old : List ℕ).
    OnOk c.put_apart-formed.result (c.put_apart-formed.new.text ≡ old ++ pair_counts_line name counts))
    c.clear.ensures c.put_apart-formed.ensures in
    subst (λ (ls : Lines). OnOk c.put_formed.result (WroteLines o p ls)) same
    (c.put_formed.ensures.ok (pair_counts_line name counts) formed)

pub returns-clause-err : goal.returns-clause-err
returns-clause-err g c = λ distances tolds are.
    let o = g.K.Sink.output c.args.out.now in
    let p = g.K.Sink.output c.put_formed.new.out in
    let d = c.args.distance in
    let counts = c.index.result.now in
    let counted = counted-at c.args.sums.now distances tolds d counts are c.requires c.index.ensures in
    let some : length (told_apart d tolds) ≡ 0 → ⊥ =
    λ none. c.if-counts-eq0.false (ap (λ (k : PairCounts). k.pairs) counted ∙ none) in
    let name = codes "apart " ++ decimal d ++ codes " " in
    let same : pair_counts_line name counts ∷ [] ≡ lines_at tolds d =
    ap (λ (k : PairCounts). pair_counts_line name k ∷ []) counted ∙ with-pairs tolds d some in
    let formed = subst (λ (old : List ℕ).
    OnOk c.put_apart-formed.result (c.put_apart-formed.new.text ≡ old ++ pair_counts_line name counts))
    c.clear.ensures c.put_apart-formed.ensures in
    subst (λ (ls : Lines). IfErr c.put_formed.result (λ (why : CampaignFault). LeftBy why o p ls)) same
    (err-weaker (λ (why : CampaignFault). LeftFewerBy why o p (pair_counts_line name counts ∷ []))
    (λ (why : CampaignFault). LeftBy why o p (pair_counts_line name counts ∷ [])) c.put_formed.result
    (λ why few. left-fewer why o p (pair_counts_line name counts ∷ []) few)
    (c.put_formed.ensures.err (pair_counts_line name counts) formed))
