-- The promises of `keeps` and of `precision`, from the promise of every form.
use Rattle.ttp_top.proofs.Terms.{◌≡◌, ◌⊎◌, ℕ, List, [], ◌∷◌, Option, Some, false, refl, ap, sym, subst, ◌∙◌, inl, inr}
use Rattle.ttp_top.proofs.Terms.{arith, HasRisen, Wrote, Lines, Medl, Script, IsValid, IsValidScript, medl_of-valid}
use Rattle.ttp_top.proofs.Terms.{script_of-valid, Faced, faced_of, seen_of, both_came, both_told, both_ask, AllAsk}
use Rattle.ttp_top.proofs.Terms.{end_comes, Quiet, told_shows, told_cut, both_plan, Showed, Outside, ends, Comes}
use Rattle.ttp_top.proofs.Terms.{told_ending, AreRight, AreTold, IsAmong, BenchAnswer, BenchEnding, BenchPlan, ttpbench}
use Rattle.ttp_top.proofs.Terms.{keep_ending, precision_ending, plan_of, answer_line, BenchPromise, IsPrecision, Form}
use Rattle.ttp_top.proofs.Terms.{is_run, precision, WroteSuch, CutSuch, TestPromise}
use Rattle.two_faced.specs.declared.faced.Faced.TheVariants as faced
use Rattle.ttp_top.proofs.FromBelow.{rules-hold, runs-seen, some-run, faced-run}
use Rattle.ttp_top.specs.Calls.Words.{keeps}
use Rattle.ttp_top.specs.Tests.Promise.{WroteFor, AreTestLines, KeepsPromise}
use Rattle.ttp_top.specs.Tests.Promise.{ShowsBound, IsPrecisionLine, PrecisionPromise}

-- A form whose plan asks for a list and a script, and ends with status 0 and lines of which this is so.
module _ (such : Medl → Script → Lines → Type 0) (ending_of : Medl → Script → BenchEnding)
    (zero : (medl : Medl) (right : Script) → (ending_of medl right).status ≡ 0)
    (among : (medl : Medl) (right : Script) (lines : Lines) → IsValid medl → IsValidScript medl right
    → IsAmong ttpbench (ending_of medl right).texts lines → such medl right lines)
    (form : Option Form) (list script : List ℕ) (other : is_run form ≡ false)
    (is : plan_of form ≡ both_plan list script (λ medl right. ends (ending_of medl right)))
    (before now : Outside) (answer : BenchAnswer) (p : BenchPromise form before now answer) where
  abbrev from_script : Medl → Script → BenchPlan
  from_script medl right = ends (ending_of medl right)

  lines_such : (bytes script_bytes : List ℕ) (medl : Medl) (right : Script)
      → AreRight bytes script_bytes medl right → (lines : Lines) → IsAmong ttpbench (ending_of medl right).texts lines
      → such medl right lines
  lines_such bytes script_bytes medl right are lines of_these =
      let valid = medl_of-valid bytes medl are.list in
      among medl right lines valid (script_of-valid medl script_bytes right valid are.script_size are.script) of_these

  wrote_such : (bytes script_bytes : List ℕ) (medl : Medl) (right : Script)
      → AreRight bytes script_bytes medl right
      → Showed ttpbench (ending_of medl right) before.output now.output answer
      → WroteSuch (such medl right) before.output now.output
  wrote_such bytes script_bytes medl right are showed = record {
    lines = showed.text.lines;
    is = lines_such bytes script_bytes medl right are showed.text.lines showed.text.among;
    wrote = showed.text.wrote;
  }

  wrote_for : answer.status ≡ 0 → WroteFor such list script before now
  wrote_for none =
      let held = before.files.held in
      let final = p.ended (omega (arith, none)) in
      let came = both_came held final.0 (omega (arith, none, final.2.status)) list script from_script p.loads
      (subst (λ (plan : BenchPlan). Comes held plan p.loads (ends final.0)) is final.1.comes) in
      let end = end_comes held came.loads (ending_of came.medl came.right) final.0 came.comes in
      record {
        bytes = came.bytes;
        script_bytes = came.script_bytes;
        medl = came.medl;
        right = came.right;
        list_file = came.list_file;
        script_file = came.script_file;
        are = came.are;
        text =
            wrote_such came.bytes came.script_bytes came.medl came.right came.are
            (subst (λ (e : BenchEnding). Showed ttpbench e before.output now.output answer) (sym end) final.2);
      }

  module _ (medl : Medl) (right : Script) (files : AreTold list script before now medl right) where
    both_end : told_ending before.files.held (plan_of form) ≡ Some (ending_of medl right)
    both_end =
        ap (told_ending before.files.held) is ∙ both_told list script from_script before now medl right files

    quiet : AllAsk (Quiet before now) (plan_of form)
    quiet =
        subst (AllAsk (Quiet before now)) (sym is)
        (both_ask (Quiet before now) list script from_script files.list_quiet files.script_quiet (λ medl right. tt))

    cut_such : answer.status ≡ 6 → CutSuch (such medl right) before.output now.output
    cut_such six =
        let cut = told_cut ttpbench (plan_of form) before now answer (ending_of medl right) p.call both_end quiet six
        in
        record {
          lines = cut.lines;
          is = lines_such files.bytes files.script_bytes medl right files.are cut.lines cut.among;
          cut = cut.cut;
        }

    completed : ¬ HasRisen before.output.faults now.output.faults
        → ((answer.status ≡ 0) × WroteSuch (such medl right) before.output now.output)
        ⊎ ((answer.status ≡ 7) × Wrote before.output now.output [])
    completed sink =
        elim (told_shows ttpbench (plan_of form) before now answer (ending_of medl right) p.call both_end quiet sink) [
          | inl showed ↦
              inl (
                showed.status ∙ zero medl right,
                wrote_such files.bytes files.script_bytes medl right files.are showed,
              )
          | inr seven ↦ inr (seven, p.empty seven other)
        ]

  pub test_promise : TestPromise such list script before now answer
  test_promise = record { said = wrote_for; complete = completed; cut = cut_such }

pub keeps_promise : (list script : List ℕ) (before now : Outside) (answer : BenchAnswer)
    → BenchPromise (Some (keeps list script)) before now answer → KeepsPromise list script before now answer
keeps_promise list script before now answer p =
    test_promise AreTestLines keep_ending (λ medl right. refl) (λ medl right lines valid valid_script same. same)
    (Some (keeps list script)) list script refl refl before now answer p

-- ---- the line of `precision`

shows_bound : (medl : Medl) (right : Script) (node start : ℕ) (lines : Lines) → IsValid medl
    → IsValidScript medl right → IsPrecision medl right node lines → faced_of medl right node ≡ faced.Yes start
    → ShowsBound medl node start lines
shows_bound medl right node start lines valid valid_script text is =
    let run = some-run medl right in
    let seen = seen_of medl right run.numbers node in
    record {
      seen = seen;
      line = text run.numbers run.legal ∙ ap (λ (f : Faced). answer_line medl node f seen ∷ []) is;
      within =
          runs-seen medl right node start valid valid_script (rules-hold medl right node start is) run.numbers
          run.legal.legal (omega (arith, run.legal.count));
    }

pub precision_promise : (list script : List ℕ) (node : ℕ) (before now : Outside) (answer : BenchAnswer)
    → BenchPromise (Some (precision list script node)) before now answer
    → PrecisionPromise list script node before now answer
precision_promise list script node before now answer p =
    test_promise (IsPrecisionLine node) (precision_ending node) (λ medl right. refl)
    (λ medl right lines valid valid_script text. record {
      text = text;
      run = some-run medl right;
      bound = λ start is. shows_bound medl right node start lines valid valid_script text is;
      together = λ start is numbers legal.
          faced-run medl right node start valid valid_script is numbers legal.legal (omega (arith, legal.count));
    }) (Some (precision list script node)) list script refl refl before now answer p
