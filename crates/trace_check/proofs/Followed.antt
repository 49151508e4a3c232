-- A follower after some slots whose lines a text has.
use Rattle.trace_check.proofs.Words.{◌≡◌, ℕ, ◌+◌, List, [], ◌∷◌, ◌++◌, length, Some, refl, ap, sym, ◌∙◌, arith, Medl}
use Rattle.trace_check.proofs.Words.{Script, IsLegal, trace_head, Numbers, legal-none, after_label, Follower}
use Rattle.trace_check.proofs.Words.{BeginsWith, FollowerStandsFor, StandsAt, GoesOnTo}
use Rattle.std.proofs.Common.{append-nil}
use Rattle.trace_check.proofs.Wholes.{lines_so_far, goes_on-begins}
use Rattle.trace_check.proofs.FromBelow.{label-takes as behind-line}

pub record HasFollowed (f : Follower) (list : Medl) (script : Script) (slot : ℕ) (text rest : List ℕ) : Type 0 where
  pub numbers : Numbers
  pub count : length numbers ≡ slot
  pub legal : IsLegal list script numbers
  pub stands : FollowerStandsFor f list script numbers
  pub begins : BeginsWith text (lines_so_far list script numbers) rest

pub followed-at : (f : Follower) (list : Medl) (script : Script) (slot : ℕ) (text rest : List ℕ)
    → HasFollowed f list script slot text rest → StandsAt f list script slot
followed-at f list script slot text rest has =
    record { numbers = has.numbers; count = has.count; legal = has.legal; stands = has.stands }

-- behind the first line
pub followed-first : (f : Follower) (list : Medl) (script : Script) (text rest : List ℕ)
    → FollowerStandsFor f list script [] → after_label (trace_head list script) text ≡ Some rest
    → HasFollowed f list script 0 text rest
followed-first f list script text rest stands is = record {
  numbers = [];
  count = refl;
  legal = legal-none list script;
  stands = stands;
  begins = behind-line (trace_head list script) text rest is
      ∙ ap (λ (line : List ℕ). line ++ rest) (sym (append-nil (trace_head list script)));
}

-- behind a slot
pub followed-next : (f g : Follower) (list : Medl) (script : Script) (slot : ℕ) (text before rest : List ℕ)
    → (has : HasFollowed f list script slot text before) → GoesOnTo g list script has.numbers before rest
    → HasFollowed g list script (slot + 1) text rest
followed-next f g list script slot text before rest has on = record {
  numbers = on.goes_on.new ∷ has.numbers;
  count = omega (arith, has.count);
  legal = on.goes_on.legal;
  stands = on.stands;
  begins = goes_on-begins list script has.numbers text before rest has.begins on.goes_on;
}
