-- The theorems of the crates below, slot by slot.
use Rattle.std.proofs.Common.{◌≡◌, ℕ, ◌<◌, ◌≤◌, true, [], length, subst, arith}
use Rattle.ttp_world.specs.declared.keep.Back.TheVariants as back
use Rattle.ttp_world.specs.declared.keep.Keep.TheVariants as keep
use Rattle.ttp_world.specs.declared.medl.Medl.{Medl}
use Rattle.ttp_world.specs.declared.script.Script.{Script}
use Rattle.ttp_world.specs.BackSafety.{IsBackSafe}
use Rattle.ttp_world.specs.Hypothesis.{keeps, is_correct_after}
use Rattle.ttp_world.specs.Legal.{IsLegal}
use Rattle.ttp_world.specs.Medl.{IsValid}
use Rattle.ttp_world.specs.Returning.{returns}
use Rattle.ttp_world.specs.Safety.{newest_slot, IsSafe}
use Rattle.ttp_world.specs.Script.{IsValidScript}
use Rattle.ttp_world.specs.World.{Numbers, world}
use Rattle.ttp_world.proofs.LegalRuns.{legal-whole, legal-none}
use Rattle.ttp_world.proofs.Worlds.{length-world}
use Rattle.safety_laws.proofs.ForAbove.{kept-safe, kept-clocks, kept-deviations, kept-alike, kept-stands_alike}
use Rattle.safety_laws.proofs.ForAbove.{returned-safe}
use Rattle.two_faced.proofs.ForAbove.{runs-active, runs-judged, runs-members, runs-clocks, rules-hold}
use Rattle.mode_change.proofs.Alike.{one-mode}
use Rattle.two_faced.specs.declared.faced.Faced.TheVariants as faced
use Rattle.two_faced.specs.Faced.{faced_of}
use Rattle.theorems.specs.FacedRun.{AreTogether, IsFacedRun}
use Rattle.theorems.specs.KeptRun.{AreClocksNear, HaveJudgedAlike, RunOneMode, IsKeptRun, IsBackRun}
use Rattle.theorems.specs.SomeRun.{SomeRun}
use Rattle.theorems.proofs.Since.{world-since}

pub some-run : (list : Medl) (script : Script) → SomeRun list script
some-run list script =
    let run = legal-whole list script [] script.slots (legal-none list script) in
    record { numbers = run.whole; legal = record { count = omega (arith, run.slots); legal = run.legal } }

-- A script that keeps the single-fault hypothesis.
module _ (list : Medl) (script : Script) (start : ℕ) (valid : IsValid list) (script_valid : IsValidScript list script)
    (kept : keeps list script ≡ keep.Yes start) where
  clocks-near : (numbers : Numbers) → IsLegal list script numbers → start < length numbers
      → length numbers ≤ script.slots → AreClocksNear list script (world list script numbers)
  clocks-near numbers legal after within =
      let count = length-world list script numbers in
      let correct : (k : ℕ) → is_correct_after list script (length (world list script numbers)) k ≡ true
      → is_correct_after list script (length numbers) k ≡ true =
      λ k. subst (λ slot. is_correct_after list script slot k ≡ true) count in
      record {
        clocks = λ more j k of_j of_k.
            kept-clocks list script start valid script_valid kept numbers legal after (omega (arith, more, count)) j k
            of_j.0 of_k.0 (correct j of_j.1) (correct k of_k.1);
        deviations = λ more r p of_r of_p.
            kept-deviations list script start valid script_valid kept numbers legal after (omega (arith, more, count))
            r p of_r.0 of_p.0 (correct r of_r.1) (correct p of_p.1);
      }

  runs-one_mode : (numbers : Numbers) → IsLegal list script numbers → start < length numbers
      → length numbers ≤ script.slots → RunOneMode list script (world list script numbers)
  runs-one_mode numbers legal after within =
      let history = world list script numbers in
      let count = length-world list script numbers in
      one-mode list script (is_correct_after list script (newest_slot history)) start history
      (omega (arith, after, count))
      (kept-alike list script start valid script_valid kept numbers legal after within)
      (kept-stands_alike list script start valid script_valid kept numbers legal after within)

  pub kept-run : (numbers : Numbers) → IsLegal list script numbers → length numbers ≤ script.slots
      → IsKeptRun list script start (world list script numbers)
  kept-run numbers legal within = record {
    safe =
        world-since list script (IsSafe list script) start (kept-safe list script start valid script_valid kept)
        numbers legal within;
    clocks = world-since list script (AreClocksNear list script) start clocks-near numbers legal within;
    frames =
        world-since list script (HaveJudgedAlike list script start) start
        (kept-alike list script start valid script_valid kept) numbers legal within;
    modes = world-since list script (RunOneMode list script) start runs-one_mode numbers legal within;
  }

pub back-run : (list : Medl) (script : Script) (start : ℕ) → IsValid list → IsValidScript list script
    → returns list script ≡ back.Yes start → (numbers : Numbers) → IsLegal list script numbers
    → length numbers ≤ script.slots → IsBackRun list script start (world list script numbers)
back-run list script start valid script_valid kept =
    world-since list script (IsBackSafe list script) start (returned-safe list script start valid script_valid kept)

-- A script with one two-faced sender.
module _ (list : Medl) (script : Script) (node start : ℕ) (valid : IsValid list)
    (script_valid : IsValidScript list script) (is : faced_of list script node ≡ faced.Yes start) where
  together : (numbers : Numbers) → IsLegal list script numbers → start < length numbers
      → length numbers ≤ script.slots → AreTogether list script (world list script numbers)
  together numbers legal after within =
      let rules = rules-hold list script node start is in
      record {
        active = λ k on.
            runs-active list script node start valid script_valid rules numbers legal after within k on.0 on.1;
        members = λ j k on_j on_k.
            runs-members list script node start valid script_valid rules numbers legal after within j k on_j.0 on_k.0
            on_j.1 on_k.1;
        clocks = λ j k on_j on_k.
            runs-clocks list script node start valid script_valid rules numbers legal after within j k on_j.0 on_k.0
            on_j.1 on_k.1;
      }

  pub faced-run : (numbers : Numbers) → IsLegal list script numbers → length numbers ≤ script.slots
      → IsFacedRun list script start (world list script numbers)
  faced-run numbers legal within = record {
    together = world-since list script (AreTogether list script) start together numbers legal within;
    correct =
        runs-judged list script node start valid script_valid (rules-hold list script node start is) numbers legal
        within;
  }
