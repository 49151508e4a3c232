use Rattle.hypothesis.proofs.Words.{◌≡◌, ℕ, ◌+◌, ◌-◌, ◌<◌, ◌≤◌, ◌⊎◌, inl, inr, true, false, not, ◌&&◌, length, ap, sym}
use Rattle.hypothesis.proofs.Words.{◌∙◌, below_more, rules, arith, nat_lt, cases_lt, lt-ltb, le-ltb, four_rounds}
use Rattle.hypothesis.proofs.Words.{is_near_fault, nodes-most, joined_in, and-false}
use Rattle.ttp_world.specs.Returning.{two_rounds}
use Rattle.hypothesis.proofs.LongFaulty.{joined-none, joined-some, few-zero, some-many}
use Rattle.hypothesis.proofs.arms.is_apart.Goals as goal

pub joins_in-requires-clause-come : goal.joins_in-requires-clause-come
joins_in-requires-clause-come c = omega arith

pub joins_in-requires-clause-kept : goal.joins_in-requires-clause-kept
joins_in-requires-clause-kept c = let few = nodes-most c.args.list.now c.requires.valid in omega arith

pub loop-at-init : goal.loop-at-init
loop-at-init c = λ start are t less from. absurd (omega arith)

pub loop-at-preserved : goal.loop-at-preserved
loop-at-preserved c = λ start are.
    let list = c.args.list.now in
    let script = c.args.script.now in
    below_more (λ t. c.saturating_sub-from.result ≤ t → nat_lt 0 (length (joined_in list script start t)) ≡ false)
    c.loop-at.at (c.loop-at.invariant start are) (λ from. sym (c.joins_in.ensures list script start are) ∙ search rules)

pub returns-then-joins_in : goal.returns-then-joins_in
returns-then-joins_in c = λ start are.
    let list = c.args.list.now in
    let script = c.args.script.now in
    let slot = c.args.slot in
    let t = c.loop-at.at in
    let joins : nat_lt 0 (length (joined_in list script start t)) ≡ true =
    sym (c.joins_in.ensures list script start are) ∙ search rules in
    let one : nat_lt slot (t + two_rounds list) ≡ true = lt-ltb slot (t + two_rounds list) (omega arith) in
    let two : nat_lt t (slot + four_rounds list) ≡ true = lt-ltb t (slot + four_rounds list) (omega arith) in
    sym (ap not (joined-some list script start (is_near_fault list slot) script.slots t (omega arith)
    (λ i. one i && two i) (some-many (length (joined_in list script start t)) joins)))

pub returns : goal.returns
returns c = λ start are.
    let list = c.args.list.now in
    let script = c.args.script.now in
    let slot = c.args.slot in
    let first : c.saturating_sub-from.result ≡ slot + 1 - two_rounds list = search rules in
    let early : (t : ℕ) → t + two_rounds list ≤ slot → is_near_fault list slot t ≡ false =
    λ t less. ap (λ b. b && nat_lt t (slot + four_rounds list)) (le-ltb slot (t + two_rounds list) less) in
    let late : (t : ℕ) → slot + four_rounds list ≤ t → is_near_fault list slot t ≡ false =
    λ t past. ap (λ b. nat_lt slot (t + two_rounds list) && b) (le-ltb t (slot + four_rounds list) past)
    ∙ and-false (nat_lt slot (t + two_rounds list)) in
    let each : (t : ℕ) → t < script.slots
    → (is_near_fault list slot t ≡ false) ⊎ (length (joined_in list script start t) ≡ 0) = λ t less.
    elim (cases_lt t c.saturating_sub-from.result) [
      | inl before ↦ inl (early t (omega (arith, first, before)))
      | inr since ↦ elim (cases_lt t c.loop-at.at) [
        | inl here ↦ inr (few-zero _ (c.loop-at.invariant start are t here since))
        | inr after ↦ inl (late t (omega arith))
      ]
    ] in
    sym (ap not (joined-none list script start (is_near_fault list slot) script.slots each))
