-- What is wrong with those that would start in a slot, by the first and by the first of the others.
use Rattle.std.proofs.Common.{◌≡◌, ℕ, List, [], ◌∷◌, refl, ap, sym, arith, Some, None}
use Rattle.std.specs.List.{filter}
use Rattle.std.specs.Prelude.{slice_get}
use Rattle.ttp_world.specs.declared.medl.Medl.{Medl}
use Rattle.ttp_world.specs.declared.script.Script.{Script}
use Rattle.ttp_world.specs.Hypothesis.{nodes_of}
use Rattle.broken_rules.specs.declared.start.NoStart.TheVariants as why
use Rattle.broken_rules.specs.Start.{why_at, is_late}

pub rivals : (list : Medl) (script : Script) (slot j k : ℕ) (starters rest : List ℕ)
    → ((ks : List ℕ) → starters ≡ j ∷ ks → rest ≡ ks) → slice_get starters 0 ≡ Some j → slice_get rest 0 ≡ Some k
    → why.Rivals slot j k ≡ why_at list script slot starters
rivals list script slot j k [] rest without first second = absurd (grind arith)
rivals list script slot j k (a ∷ []) rest without first second =
    let is : a ≡ j = grind arith in
    let none : rest ≡ [] = without [] (ap (λ x. x ∷ []) is) in
    absurd (grind arith)
rivals list script slot j k (a ∷ b ∷ starters) rest without first second =
    let is : a ≡ j = grind arith in
    let others : rest ≡ b ∷ starters = without (b ∷ starters) (ap (λ x. x ∷ b ∷ starters) is) in
    let next : b ≡ k = grind arith in
    rw (sym is, sym next) refl

pub alone : (list : Medl) (script : Script) (slot j : ℕ) (starters rest : List ℕ)
    → ((ks : List ℕ) → starters ≡ j ∷ ks → rest ≡ ks) → slice_get starters 0 ≡ Some j → slice_get rest 0 ≡ None
    → why.Late slot (filter (is_late script slot) (nodes_of list)) ≡ why_at list script slot starters
alone list script slot j [] rest without first second = refl
alone list script slot j (a ∷ []) rest without first second = refl
alone list script slot j (a ∷ b ∷ starters) rest without first second =
    let is : a ≡ j = grind arith in
    let others : rest ≡ b ∷ starters = without (b ∷ starters) (ap (λ x. x ∷ b ∷ starters) is) in
    absurd (grind arith)

pub nobody : (list : Medl) (script : Script) (slot : ℕ) (starters : List ℕ) → slice_get starters 0 ≡ None
    → why.Late slot (filter (is_late script slot) (nodes_of list)) ≡ why_at list script slot starters
nobody list script slot [] none = refl
nobody list script slot (a ∷ starters) none = absurd (grind arith)
