use Rattle.std.proofs.Common.{◌≡◌, ℕ, ◌<◌, [], ◌∷◌, ◌++◌, ap, sym, subst, ◌∙◌}
use Rattle.std.proofs.Common.{arith, get_or, length, length-set, set, not}
use Rattle.std.proofs.lemmas.List.{get_or_read}
use Rattle.fault_pairs.specs.Sums.{PairTold, pair_counts, told_apart, told_kept, told_broken}
use Rattle.pair_classes.specs.Ordered.{AreFewPairs}
use Rattle.pair_classes.proofs.Summed.{one-more_few, set_few, set_sums, told-in, told-out}
use Rattle.pair_classes.proofs.sums.Sums.count.Goals as goal

pub returns-then-yes-clause-few : goal.returns-then-yes-clause-few
returns-then-yes-clause-few c = λ most are.
    let counts = c.args.self.now.apart.items in
    let is = get_or_read counts c.args.apart c.index.result.now c.requires.room c.index.ensures (pair_counts []) in
    record {
      apart = set_few most counts c.args.apart c.with_pair.result c.requires.room are.apart
          (c.with_pair.ensures.few most (subst (AreFewPairs most) (sym is) (are.apart c.args.apart)));
      kept = c.with_pair-self.ensures.few most are.kept;
      broken = one-more_few most c.args.self.now.broken are.broken;
    }

pub returns-then-yes-clause-told : goal.returns-then-yes-clause-told
returns-then-yes-clause-told c = λ distances tolds told at says class are.
    let counts = c.args.self.now.apart.items in
    let i = c.args.apart in
    let new = c.with_pair.result in
    let is = get_or_read counts i c.index.result.now c.requires.room c.index.ensures (pair_counts []) in
    let inside : i < distances = omega (arith, c.requires.room, are.room) in
    let within : told.apart < length counts = omega (arith, at, c.requires.room) in
    let counted : new ≡ pair_counts (told_apart told.apart tolds ++ told ∷ []) =
    c.with_pair.ensures.counts (told_apart i tolds) told (is ∙ are.apart i inside) class
    ∙ ap (λ (j : ℕ). pair_counts (told_apart j tolds ++ told ∷ [])) (sym at) in
    let set_at : (d : ℕ) → d < distances
    → get_or (set counts i new) d (pair_counts []) ≡ pair_counts (told_apart d (tolds ++ told ∷ [])) =
    subst
    (λ (j : ℕ). (d : ℕ) → d < distances
    → get_or (set counts j new) d (pair_counts []) ≡ pair_counts (told_apart d (tolds ++ told ∷ [])))
    at (set_sums distances counts new tolds told within are.apart counted) in
    record {
      room = length-set counts i new ∙ are.room;
      apart = set_at;
      kept = c.with_pair-self.ensures.counts (told_kept tolds) told are.kept class
          ∙ sym (ap pair_counts (told-in (λ (t : PairTold). t.yes) tolds told (says ∙ c.if-yes.true)));
      broken = are.broken ∙ sym
          (ap pair_counts (told-out (λ (t : PairTold). not t.yes) tolds told (ap not (says ∙ c.if-yes.true))));
    }

pub returns-else-yes-clause-few : goal.returns-else-yes-clause-few
returns-else-yes-clause-few c = λ most are.
    let counts = c.args.self.now.apart.items in
    let is = get_or_read counts c.args.apart c.index.result.now c.requires.room c.index.ensures (pair_counts []) in
    record {
      apart = set_few most counts c.args.apart c.with_pair.result c.requires.room are.apart
          (c.with_pair.ensures.few most (subst (AreFewPairs most) (sym is) (are.apart c.args.apart)));
      kept = one-more_few most c.args.self.now.kept are.kept;
      broken = c.with_pair-self-else-yes.ensures.few most are.broken;
    }

pub returns-else-yes-clause-told : goal.returns-else-yes-clause-told
returns-else-yes-clause-told c = λ distances tolds told at says class are.
    let counts = c.args.self.now.apart.items in
    let i = c.args.apart in
    let new = c.with_pair.result in
    let is = get_or_read counts i c.index.result.now c.requires.room c.index.ensures (pair_counts []) in
    let inside : i < distances = omega (arith, c.requires.room, are.room) in
    let within : told.apart < length counts = omega (arith, at, c.requires.room) in
    let counted : new ≡ pair_counts (told_apart told.apart tolds ++ told ∷ []) =
    c.with_pair.ensures.counts (told_apart i tolds) told (is ∙ are.apart i inside) class
    ∙ ap (λ (j : ℕ). pair_counts (told_apart j tolds ++ told ∷ [])) (sym at) in
    let set_at : (d : ℕ) → d < distances
    → get_or (set counts i new) d (pair_counts []) ≡ pair_counts (told_apart d (tolds ++ told ∷ [])) =
    subst
    (λ (j : ℕ). (d : ℕ) → d < distances
    → get_or (set counts j new) d (pair_counts []) ≡ pair_counts (told_apart d (tolds ++ told ∷ [])))
    at (set_sums distances counts new tolds told within are.apart counted) in
    record {
      room = length-set counts i new ∙ are.room;
      apart = set_at;
      kept = are.kept ∙ sym (ap pair_counts (told-out (λ (t : PairTold). t.yes) tolds told (says ∙ c.if-yes.false)));
      broken = c.with_pair-self-else-yes.ensures.counts (told_broken tolds) told are.broken class
          ∙ sym (ap pair_counts (told-in (λ (t : PairTold). not t.yes) tolds told (ap not (says ∙ c.if-yes.false))));
    }
