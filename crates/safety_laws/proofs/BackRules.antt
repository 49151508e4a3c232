-- The rules, one by one, of a script whose armed nodes are guaranteed their places.
use Rattle.safety_laws.proofs.BackWords.{◌≡◌, ℕ, Option, Some, None, refl, Medl, Script}
use Rattle.safety_laws.proofs.BackWords.{ClusterStart, clocks_broken, start_of}
use Rattle.safety_laws.proofs.BackWords.{back_window_broken, disturbance_broken, returns}
use Rattle.ttp_world.specs.declared.keep.Back.{Back}
use Rattle.ttp_world.specs.Returning.{back_loss_broken, back_distance_broken}
use Rattle.ttp_world.specs.Returning.{back_sync_broken, arms_broken, unless_back, started_back}
use Rattle.ttp_world.specs.declared.keep.Back.TheVariants as back

pub record BackRulesHold (list : Medl) (script : Script) (slot : ℕ) : Type 0 where
  pub clocks : clocks_broken list script ≡ None
  pub window : back_window_broken list ≡ None
  pub disturbance : disturbance_broken list script ≡ None
  pub start : ClusterStart
  pub started : start_of list script ≡ Some start
  pub from : start.slot ≡ slot
  pub loss : back_loss_broken list script start ≡ None
  pub distance : back_distance_broken list script start ≡ None
  pub sync : back_sync_broken list script start ≡ None
  pub arms : arms_broken list script start ≡ None

unless-yes : (rule slot : ℕ) (broken : Option ℕ) (others : Back) → unless_back rule broken others ≡ back.Yes slot
    → (broken ≡ None) × (others ≡ back.Yes slot)
unless-yes rule slot None others is = (refl, is)
unless-yes rule slot (Some t) others is = cc

yes-slot : (m n : ℕ) → back.Yes m ≡ back.Yes n → m ≡ n
yes-slot m n is = cc

started-yes : (list : Medl) (script : Script) (slot : ℕ) (found : Option ClusterStart)
    → started_back list script found ≡ back.Yes slot
    → (start : ClusterStart) × ((found ≡ Some start) × (started_back list script (Some start) ≡ back.Yes slot))
started-yes list script slot None is = cc
started-yes list script slot (Some start) is = (start, (refl, is))

pub back-rules-hold : (list : Medl) (script : Script) (slot : ℕ) → returns list script ≡ back.Yes slot
    → BackRulesHold list script slot
back-rules-hold list script slot is =
    let one = unless-yes 1 slot (clocks_broken list script) _ is in
    let two = unless-yes 2 slot (back_window_broken list) _ one.1 in
    let three = unless-yes 3 slot (disturbance_broken list script) _ two.1 in
    let four = started-yes list script slot (start_of list script) three.1 in
    let start = four.0 in
    let five = unless-yes 5 slot (back_loss_broken list script start) _ four.1.1 in
    let six = unless-yes 6 slot (back_distance_broken list script start) _ five.1 in
    let seven = unless-yes 7 slot (back_sync_broken list script start) _ six.1 in
    let eight = unless-yes 8 slot (arms_broken list script start) _ seven.1 in
    record {
      clocks = one.0;
      window = two.0;
      disturbance = three.0;
      start = start;
      started = four.1.0;
      from = yes-slot start.slot slot eight.1;
      loss = five.0;
      distance = six.0;
      sync = seven.0;
      arms = eight.0;
    }
