-- The rules, one by one, of a script that keeps the hypothesis.
use Rattle.safety_laws.proofs.PlanWords.{◌≡◌, ℕ, Option, Some, None, refl, Medl, Script, ClusterStart, clocks_broken}
use Rattle.safety_laws.proofs.PlanWords.{window_broken, outside_broken, start_of, keeps}
use Rattle.ttp_world.specs.declared.keep.Keep.{Keep}
use Rattle.ttp_world.specs.declared.keep.Keep.TheVariants as keep
use Rattle.ttp_world.specs.Hypothesis.{loss_broken}
use Rattle.ttp_world.specs.Hypothesis.{distance_broken, sync_broken, started_keep, unless}

pub record RulesHold (list : Medl) (script : Script) (slot : ℕ) : Type 0 where
  pub clocks : clocks_broken list script ≡ None
  pub window : window_broken list ≡ None
  pub outside : outside_broken list script ≡ None
  pub start : ClusterStart
  pub started : start_of list script ≡ Some start
  pub from : start.slot ≡ slot
  pub loss : loss_broken list script start ≡ None
  pub distance : distance_broken list script start ≡ None
  pub sync : sync_broken list script start ≡ None

unless-yes : (rule slot : ℕ) (broken : Option ℕ) (others : Keep) → unless rule broken others ≡ keep.Yes slot
    → (broken ≡ None) × (others ≡ keep.Yes slot)
unless-yes rule slot None others is = (refl, is)
unless-yes rule slot (Some t) others is = cc

yes-slot : (m n : ℕ) → keep.Yes m ≡ keep.Yes n → m ≡ n
yes-slot m n is = cc

started-yes : (list : Medl) (script : Script) (slot : ℕ) (found : Option ClusterStart)
    → started_keep list script found ≡ keep.Yes slot
    → (start : ClusterStart) × ((found ≡ Some start) × (started_keep list script (Some start) ≡ keep.Yes slot))
started-yes list script slot None is = cc
started-yes list script slot (Some start) is = (start, (refl, is))

pub rules-hold : (list : Medl) (script : Script) (slot : ℕ) → keeps list script ≡ keep.Yes slot
    → RulesHold list script slot
rules-hold list script slot is =
    let one = unless-yes 1 slot (clocks_broken list script) _ is in
    let two = unless-yes 2 slot (window_broken list) _ one.1 in
    let three = unless-yes 3 slot (outside_broken list script) _ two.1 in
    let four = started-yes list script slot (start_of list script) three.1 in
    let start = four.0 in
    let five = unless-yes 5 slot (loss_broken list script start) _ four.1.1 in
    let six = unless-yes 6 slot (distance_broken list script start) _ five.1 in
    let seven = unless-yes 7 slot (sync_broken list script start) _ six.1 in
    record {
      clocks = one.0;
      window = two.0;
      outside = three.0;
      start = start;
      started = four.1.0;
      from = yes-slot start.slot slot seven.1;
      loss = five.0;
      distance = six.0;
      sync = seven.0;
    }
