-- What a walk over the whole run says of the rules on faults.
use Rattle.hypothesis.proofs.Words.{◌≡◌, ℕ, ◌+◌, ◌-◌, ◌<◌, max, min, true, Some, None, map, reverse, ap, sym, ◌∙◌}
use Rattle.hypothesis.proofs.Words.{arith, if◌then◌else◌, below, Medl, Script, ClusterStart, first_too_early, Course}
use Rattle.hypothesis.proofs.Words.{keep_course, back_course, HasWalked, has_four_in, lacks_four_in}
use Rattle.std.specs.Prelude.{find}
use Rattle.ttp_world.specs.declared.keep.Back.{Back}
use Rattle.ttp_world.specs.declared.keep.Back.TheVariants as back
use Rattle.ttp_world.specs.declared.keep.Keep.TheVariants as keep
use Rattle.ttp_world.specs.Hypothesis.{breaks_in, distance_broken, sync_broken}
use Rattle.ttp_world.specs.Hypothesis.{slots_since_start, unless, started_keep}
use Rattle.ttp_world.specs.Returning.{breaks_back_in, back_distance_broken, back_sync_broken}
use Rattle.ttp_world.specs.Returning.{arms_broken, unless_back, started_back}
use Rattle.hypothesis.specs.declared.walk.Walk.{Walk}
use Rattle.hypothesis.specs.Walks.{two_rounds}
use Rattle.hypothesis.proofs.Firsts.{lack-since}
use Rattle.hypothesis.proofs.Ranges.{none-below, first-below}

loss-found : (list : Medl) (script : Script) (start : ClusterStart) (course : Course) (slot : ℕ) (walk : Walk)
    → slot < script.slots → HasWalked list script start course slot walk → course.breaks slot ≡ true
    → find course.breaks (below script.slots) ≡ Some slot
loss-found list script start course slot walk within walked breaks =
    first-below course.breaks script.slots slot within (λ k less. walked.whole k less (omega arith)) breaks

-- what a whole walk found
record IsWhole (list : Medl) (script : Script) (start : ClusterStart) (course : Course) (walk : Walk) : Type 0 where
  loss : find course.breaks (below script.slots) ≡ None
  early : walk.early ≡ first_too_early (two_rounds list) (start.slot + two_rounds list)
      (reverse (map (λ f. f.slot) (course.all script.slots)))
  unsteady : walk.unsteady
      ≡ (if has_four_in list script course start.slot
      then find (lacks_four_in list script course) (slots_since_start script start) else Some start.slot)

whole : (list : Medl) (script : Script) (start : ClusterStart) (course : Course) (slot : ℕ) (walk : Walk)
    → slot ≡ max script.slots start.slot → HasWalked list script start course slot walk
    → IsWhole list script start course walk
whole list script start course slot walk end walked =
    let run : min slot script.slots ≡ script.slots = omega arith in
    record {
      loss = none-below course.breaks script.slots (λ k less. walked.whole k (omega arith) less);
      early = walked.early ∙ ap (λ n. first_too_early (two_rounds list) (start.slot + two_rounds list)
          (reverse (map (λ f. f.slot) (course.all n)))) run;
      unsteady = walked.unsteady ∙ lack-since (has_four_in list script course start.slot)
          (lacks_four_in list script course) start.slot slot (script.slots - start.slot) (omega arith) (omega arith);
    }

pub broken-keep : (list : Medl) (script : Script) (start : ClusterStart) (slot : ℕ) (walk : Walk) → slot < script.slots
    → HasWalked list script start (keep_course list script start) slot walk → breaks_in list script start slot ≡ true
    → keep.No 5 slot ≡ started_keep list script (Some start)
broken-keep list script start slot walk within walked breaks =
    sym (ap (λ broken. unless 5 broken (unless 6 (distance_broken list script start)
    (unless 7 (sync_broken list script start) (keep.Yes start.slot))))
    (loss-found list script start (keep_course list script start) slot walk within walked breaks))

pub walked-keep : (list : Medl) (script : Script) (start : ClusterStart) (slot : ℕ) (walk : Walk)
    → slot ≡ max script.slots start.slot → HasWalked list script start (keep_course list script start) slot walk
    → unless 6 walk.early (unless 7 walk.unsteady (keep.Yes start.slot)) ≡ started_keep list script (Some start)
walked-keep list script start slot walk end walked =
    let found = whole list script start (keep_course list script start) slot walk end walked in
    (λ i. unless 6 (found.early i) (unless 7 (found.unsteady i) (keep.Yes start.slot)))
    ∙ sym (ap (λ broken. unless 5 broken (unless 6 (distance_broken list script start)
    (unless 7 (sync_broken list script start) (keep.Yes start.slot)))) found.loss)

pub broken-back : (list : Medl) (script : Script) (start : ClusterStart) (slot : ℕ) (walk : Walk) → slot < script.slots
    → HasWalked list script start (back_course list script start) slot walk
    → breaks_back_in list script start slot ≡ true → back.No 5 slot ≡ started_back list script (Some start)
broken-back list script start slot walk within walked breaks =
    sym (ap (λ broken. unless_back 5 broken (unless_back 6 (back_distance_broken list script start) (unless_back 7
    (back_sync_broken list script start) (unless_back 8 (arms_broken list script start) (back.Yes start.slot)))))
    (loss-found list script start (back_course list script start) slot walk within walked breaks))

pub walked-back : (list : Medl) (script : Script) (start : ClusterStart) (slot : ℕ) (walk : Walk)
    → slot ≡ max script.slots start.slot → HasWalked list script start (back_course list script start) slot walk
    → unless_back 6 walk.early
    (unless_back 7 walk.unsteady (unless_back 8 (arms_broken list script start) (back.Yes start.slot)))
    ≡ started_back list script (Some start)
walked-back list script start slot walk end walked =
    let found = whole list script start (back_course list script start) slot walk end walked in
    let rest : Back = unless_back 8 (arms_broken list script start) (back.Yes start.slot) in
    (λ i. unless_back 6 (found.early i) (unless_back 7 (found.unsteady i) rest))
    ∙ sym (ap (λ broken. unless_back 5 broken (unless_back 6 (back_distance_broken list script start)
    (unless_back 7 (back_sync_broken list script start) rest))) found.loss)
