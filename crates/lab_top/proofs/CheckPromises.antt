-- The promise of `check` in its own words, from the promise of every form.
use Rattle.std.proofs.Common.{◌≡◌, ◌⊎◌, ℕ, ◌<◌, ◌≤◌, List, [], ◌∷◌, length, Option}
use Rattle.std.proofs.Common.{Some, None, refl, sym, subst, inl, inr, arith}
use Rattle.ttp_base.specs.Outside.{Load, HasRisen, Output, Wrote, WroteLines, CutShort}
use Rattle.ttp_base.specs.Text.{Lines}
use Rattle.fault_runs.specs.Ends.{WroteFewer}
use Rattle.check_text.specs.Check.{Named, check_lines, check_status}
use Rattle.lab_top.proofs.FromBelow.{is_told, check_lines-some, AllAsk, end_comes, Quiet, told_shows, told_cut}
use Rattle.lab_top.proofs.FromBelow.{told_leaves}
use Rattle.commands.specs.Outcome.{Showed, ShowsEnding}
use Rattle.commands.specs.Plan.{Outside, ends, Comes, told_ending}
use Rattle.commands.specs.Promise.{IsUnfinished, Promise}
use Rattle.commands.specs.Read.{list_limit}
use Rattle.commands.specs.Texts.{WroteAmong, alone}
use Rattle.lab_top.specs.CheckPromise.{GaveFile, GaveBeside, WroteCheck, BeganCheck}
use Rattle.lab_top.specs.CheckPromise.{HoldsFile, HoldsBeside, CheckPromise}
use Rattle.lab_top.specs.Forms.{check_ending, check_plan}
use Rattle.lab_top.specs.Texts.{IsProperFront, LabEnding, LabAnswer, ttplab}
use Rattle.lab_top.proofs.LinesPromises.{fewer, none_of}

-- What the call that writes leaves, as the ending of the form has it.

pub check_shown : (file : Named) (beside : Option Named) (before now : Output) (status : ℕ) → status
    ≡ check_status file beside
    → WroteLines before now (check_lines file beside)
    → ShowsEnding ttplab (check_ending file beside) before now (alone status)
check_shown file beside before now status is wrote =
    inl (inl (record {
      status = is;
      text = record { lines = check_lines file beside; among = refl; wrote = wrote };
      kept = refl;
    }))

-- the files that were loaded, and the ending that they come to
record Came (list : List ℕ) (script : Option (List ℕ)) (before : Outside) (ending : LabEnding) : Type 0 where
  file : Named
  beside : Option Named
  list_file : GaveFile list list_limit before file
  script_file : GaveBeside script before beside
  same : check_ending file beside ≡ ending

came : (list : List ℕ) (script : Option (List ℕ)) (before : Outside) (loads : List Load) (ending : LabEnding)
    → Comes before.files.held (check_plan list script) loads (ends ending) → Came list script before ending
came list None before [] ending comes = absurd (cc)
came list None before (load ∷ loads) ending comes =
    let file : Named = record { name = list; text = comes.1.0 } in
    record {
      file = file;
      beside = None;
      list_file = record { name_is = refl; gives = comes.1.1 };
      script_file = tt;
      same = end_comes before.files.held loads (check_ending file None) ending comes.1.2;
    }
came list (Some script) before [] ending comes = absurd (cc)
came list (Some script) before (load ∷ []) ending comes = let goes_on = comes.1.2 in absurd (cc)
came list (Some script) before (load ∷ (other ∷ loads)) ending comes =
    let file : Named = record { name = list; text = comes.1.0 } in
    let beside : Named = record { name = script; text = comes.1.2.1.0 } in
    record {
      file = file;
      beside = Some beside;
      list_file = record { name_is = refl; gives = comes.1.1 };
      script_file = record { name_is = refl; gives = comes.1.2.1.1 };
      same = end_comes before.files.held loads (check_ending file (Some beside)) ending comes.1.2.1.2;
    }

-- Files that are told.

told_by : (list : List ℕ) (script : Option (List ℕ)) (before now : Outside) (file : Named) (beside : Option Named)
    → HoldsFile list list_limit before now file → HoldsBeside script before now beside
    → told_ending before.files.held (check_plan list script) ≡ Some (check_ending file beside)
told_by list None before now file None holds none = rw (holds.holds_text.file, holds.is) refl
told_by list None before now file (Some other) holds none = absurd none
told_by list (Some script) before now file None holds none = absurd none
told_by list (Some script) before now file (Some other) holds also =
    rw (holds.holds_text.file, also.holds_text.file, holds.is, also.is) refl

quiet_by : (list : List ℕ) (script : Option (List ℕ)) (before now : Outside) (file : Named) (beside : Option Named)
    → HoldsFile list list_limit before now file → HoldsBeside script before now beside
    → AllAsk (Quiet before now) (check_plan list script)
quiet_by list None before now file None holds none = (holds.holds_text.quiet, λ text. tt)
quiet_by list None before now file (Some other) holds none = absurd none
quiet_by list (Some script) before now file None holds none = absurd none
quiet_by list (Some script) before now file (Some other) holds also =
    (holds.holds_text.quiet, λ text. (also.holds_text.quiet, λ bytes. tt))

-- there is a line at least
some_front : (lines : Lines) → 0 < length lines → IsProperFront lines []
some_front [] some = absurd (omega (arith, some))
some_front (line ∷ lines) some = record { next = line; rest = lines; begins = refl }

module _ (list : List ℕ) (script : Option (List ℕ)) (before now : Outside) (answer : LabAnswer)
    (call : Promise ttplab (check_plan list script) before now answer) where
  wrote_all : answer.status ≤ 4 → WroteCheck list script before now answer.status
  wrote_all few =
      let final = call.ended few in
      let c = came list script before call.loads final.0 final.1.comes in
      let showed = subst (λ (e : LabEnding). Showed ttplab e before.output now.output answer) (sym c.same) final.2 in
      record {
        file = c.file;
        beside = c.beside;
        list_file = c.list_file;
        script_file = c.script_file;
        answered = showed.status;
        agrees = is_told c.file c.beside;
        wrote = subst (λ (text : Lines). WroteLines before.output now.output text) showed.text.among showed.text.wrote;
      }

  module _ (file : Named) (beside : Option Named) (holds : HoldsFile list list_limit before now file)
      (also : HoldsBeside script before now beside) where
    told : told_ending before.files.held (check_plan list script) ≡ Some (check_ending file beside)
    told = told_by list script before now file beside holds also

    quiet : AllAsk (Quiet before now) (check_plan list script)
    quiet = quiet_by list script before now file beside holds also

    begun_told : answer.status ≡ 7 → WroteFewer before.output now.output (check_lines file beside)
    begun_told seven =
        elim (told_leaves ttplab (check_plan list script) before now answer (check_ending file beside) call told quiet
        seven) [
          | inl none ↦
              none_of (check_lines file beside) before.output now.output
              (some_front (check_lines file beside) (check_lines-some file beside)) none
          | inr some ↦ fewer (check_lines file beside) before.output now.output some
        ]

    completed : ¬ HasRisen before.output.faults now.output.faults
        → ((answer.status ≡ check_status file beside) × WroteLines before.output now.output (check_lines file beside))
        ⊎ ((answer.status ≡ 7) × WroteFewer before.output now.output (check_lines file beside))
    completed sink =
        elim (told_shows ttplab (check_plan list script) before now answer (check_ending file beside) call told quiet
        sink) [
          | inl showed ↦
              inl (
                showed.status,
                subst (λ (text : Lines). WroteLines before.output now.output text) showed.text.among
                    showed.text.wrote,
              )
          | inr seven ↦ inr (seven, begun_told seven)
        ]

    cut_lines : answer.status ≡ 6 → CutShort before.output now.output (check_lines file beside)
    cut_lines six =
        let cut = told_cut ttplab (check_plan list script) before now answer (check_ending file beside) call told quiet
        six in
        subst (λ (text : Lines). CutShort before.output now.output text) cut.among cut.cut

  begun_by : IsUnfinished ttplab (check_plan list script) before now call.loads
      → Wrote before.output now.output [] ⊎ BeganCheck list script before now
  begun_by (inl none) = inl none
  begun_by (inr some) =
      let c = came list script before call.loads some.0 some.1.comes in
      let left = subst (λ (e : LabEnding).
      WroteAmong ttplab e.unfinished before.output now.output) (sym c.same) some.2 in
      inr (record {
        file = c.file;
        beside = c.beside;
        list_file = c.list_file;
        script_file = c.script_file;
        wrote = fewer (check_lines c.file c.beside) before.output now.output left;
      })

pub check_promise : (list : List ℕ) (script : Option (List ℕ)) (before now : Outside) (answer : LabAnswer)
    → Promise ttplab (check_plan list script) before now answer → CheckPromise list script before now answer.status
check_promise list script before now answer call = record {
  told = wrote_all list script before now answer call;
  complete = completed list script before now answer call;
  cut = cut_lines list script before now answer call;
  begun = λ seven. begun_by list script before now answer call (call.refused seven).1;
}
