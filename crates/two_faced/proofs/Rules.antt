-- The rules, one by one, of a script in which one sender may be two-faced.
use Rattle.two_faced.proofs.Words.{◌≡◌, ℕ, Bool, true, false, cond, [], Option, Some, None, refl, Medl, Script}
use Rattle.two_faced.proofs.Words.{ClusterStart, start_of, sole_start, faced_clocks_broken, faults_broken}
use Rattle.ttp_world.specs.Hypothesis.{has_four_steady}
use Rattle.two_faced.specs.declared.faced.Faced.{Faced}
use Rattle.two_faced.specs.declared.faced.Faced.TheVariants as faced
use Rattle.two_faced.specs.Faced.{node_broken, faced_window_broken, started_faced, unless_faced}
use Rattle.two_faced.specs.Faced.{faced_of}

pub record RulesHold (list : Medl) (script : Script) (z slot : ℕ) : Type 0 where
  pub clocks : faced_clocks_broken list script z (sole_start list script) ≡ None
  pub window : faced_window_broken list ≡ None
  pub faults : faults_broken script ≡ None
  pub start : ClusterStart
  pub started : start_of list script ≡ Some start
  pub from : start.slot ≡ slot
  pub steady : has_four_steady list script [] ≡ true

unless-yes : (rule slot : ℕ) (broken : Option ℕ) (others : Faced) → unless_faced rule broken others ≡ faced.Yes slot
    → (broken ≡ None) × (others ≡ faced.Yes slot)
unless-yes rule slot None others is = (refl, is)
unless-yes rule slot (Some t) others is = cc

started-steady : (slot from : ℕ) (four : Bool) → cond four (faced.Yes from) (faced.No 5 0) ≡ faced.Yes slot
    → (four ≡ true) × (from ≡ slot)
started-steady slot from true is = (refl, cc)
started-steady slot from false is = cc

started-yes : (list : Medl) (script : Script) (slot : ℕ) (found : Option ClusterStart)
    → started_faced list script found ≡ faced.Yes slot
    → (start : ClusterStart) × ((found ≡ Some start) × (has_four_steady list script [] ≡ true) × (start.slot ≡ slot))
started-yes list script slot None is = cc
started-yes list script slot (Some start) is =
    let parts = started-steady slot start.slot (has_four_steady list script []) is in
    (start, (refl, parts.0, parts.1))

pub rules-hold : (list : Medl) (script : Script) (z slot : ℕ) → faced_of list script z ≡ faced.Yes slot
    → RulesHold list script z slot
rules-hold list script z slot is =
    let zero = unless-yes 0 slot (node_broken list z) _ is in
    let one = unless-yes 1 slot (faced_clocks_broken list script z (sole_start list script)) _ zero.1 in
    let two = unless-yes 2 slot (faced_window_broken list) _ one.1 in
    let three = unless-yes 3 slot (faults_broken script) _ two.1 in
    let four = started-yes list script slot (start_of list script) three.1 in
    record {
      clocks = one.0;
      window = two.0;
      faults = three.0;
      start = four.0;
      started = four.1.0;
      from = four.1.2;
      steady = four.1.1;
    }
