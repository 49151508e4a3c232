-- The promise of a form that writes lines of a list and a script in its own words, from the promise of every form.
use Rattle.std.proofs.Common.{◌≡◌, ◌⊎◌, ℕ, ◌≤◌, List, [], Some, refl, sym, subst}
use Rattle.std.proofs.Common.{inl, inr, arith}
use Rattle.ttp_base.specs.Outside.{Held, HasRisen, Output, Wrote, WroteLines, CutShort}
use Rattle.ttp_base.specs.Text.{Lines}
use Rattle.ttp_world.specs.declared.medl.Medl.{Medl}
use Rattle.ttp_world.specs.declared.script.Script.{Script}
use Rattle.lab_top.proofs.FromBelow.{medl_of-valid, script_of-valid, CameBoth, both_came, both_told, both_ask, AllAsk}
use Rattle.lab_top.proofs.FromBelow.{all_come, both_every, end_comes, wrote_nothing, Quiet, told_shows, told_cut}
use Rattle.lab_top.proofs.FromBelow.{told_leaves}
use Rattle.fault_runs.specs.Ends.{WroteFewer}
use Rattle.commands.specs.Outcome.{Showed, ShowsEnding}
use Rattle.commands.specs.Plan.{Outside, ends, Comes, told_ending}
use Rattle.commands.specs.Promise.{IsUnfinished, Promise}
use Rattle.commands.specs.Right.{AreTold}
use Rattle.commands.specs.Texts.{Texts, those, no_texts, WroteAmong, alone}
use Rattle.lab_top.specs.Forms.{lines_ending, lines_plan}
use Rattle.lab_top.specs.LinesPromise.{MayBeBoth, WroteAll, WroteSome, LinesPromise}
use Rattle.lab_top.specs.Texts.{IsProperFront, begun, LabSets, LabEnding, LabPlan, LabAnswer, ttplab}
use Rattle.lab_top.proofs.RefusedFiles.{RefusesNone, list_refused, script_refused, list_due, script_due}

-- first lines that were written, as the call that writes them leaves them
pub fewer : (text : Lines) (before now : Output) → WroteAmong ttplab (those (begun text)) before now
    → WroteFewer before now text
fewer text before now some = record {
  whole = some.lines;
  next = some.among.next;
  rest = some.among.rest;
  text = some.among.begins;
  wrote = some.wrote;
}

-- what that call leaves, as the ending of the form has it

pub shows_all : (text : Lines) (before now : Output) → WroteLines before now text
    → ShowsEnding ttplab (lines_ending text) before now (alone 0)
shows_all text before now wrote =
    inl (inl (record { status = refl; text = record { lines = text; among = refl; wrote = wrote }; kept = refl }))

pub shows_cut : (text : Lines) (before now : Output) → CutShort before now text
    → ShowsEnding ttplab (lines_ending text) before now (alone 6)
shows_cut text before now cut =
    inl (inr (record { status = refl; text = record { lines = text; among = refl; cut = cut }; none = refl }))

-- Of a text that has a line, no lines at all are fewer than all.
pub none_of : (text : Lines) (before now : Output) → IsProperFront text [] → Wrote before now []
    → WroteFewer before now text
none_of text before now one none =
    record { whole = []; next = one.next; rest = one.rest; text = one.begins; wrote = none }

module _ (lines : Medl → Script → Lines) (list script : List ℕ) (before now : Outside) (answer : LabAnswer)
    (call : Promise ttplab (lines_plan lines list script) before now answer) where
  abbrev held : List ℕ → Held
  held = before.files.held

  abbrev from_script : Medl → Script → LabPlan
  from_script medl right = ends (lines_ending (lines medl right))

  abbrev CameTo : LabEnding → Type 0
  CameTo ending = CameBoth held list script from_script ending

  may_be_both : (ending : LabEnding) (came : CameTo ending) → MayBeBoth list script before came.medl came.right
  may_be_both ending came =
      let valid = medl_of-valid came.bytes came.medl came.are.list in record {
        bytes = came.bytes;
        script_bytes = came.script_bytes;
        list_file = came.list_file;
        script_file = came.script_file;
        are = came.are;
        valid = valid;
        valid_script =
            script_of-valid came.medl came.script_bytes came.right valid came.are.script_size came.are.script;
      }

  same_as : (ending : LabEnding) (came : CameTo ending) → lines_ending (lines came.medl came.right) ≡ ending
  same_as ending came = end_comes held came.loads (lines_ending (lines came.medl came.right)) ending came.comes

  wrote_all : answer.status ≡ 0 → WroteAll lines list script before now
  wrote_all zero =
      let final = call.ended (omega (arith, zero)) in
      let came = both_came held final.0 (omega (arith, zero, final.2.status)) list script from_script call.loads
      final.1.comes in
      let showed = subst (λ (e : LabEnding). Showed ttplab e before.output now.output answer)
      (sym (same_as final.0 came)) final.2 in
      record {
        medl = came.medl;
        right = came.right;
        files = may_be_both final.0 came;
        wrote =
            subst (λ (text : Lines). WroteLines before.output now.output text) showed.text.among showed.text.wrote;
      }

  -- right files that are told
  module _ (one : (medl : Medl) (right : Script) → IsProperFront (lines medl right) []) (medl : Medl) (right : Script)
      (files : AreTold list script before now medl right) where
    told : told_ending held (lines_plan lines list script) ≡ Some (lines_ending (lines medl right))
    told = both_told list script from_script before now medl right files

    quiet : AllAsk (Quiet before now) (lines_plan lines list script)
    quiet =
        both_ask (Quiet before now) list script from_script files.list_quiet files.script_quiet (λ m r. tt)

    begun_told : answer.status ≡ 7
        → WroteFewer before.output now.output (lines medl right)
    begun_told seven =
        elim (told_leaves ttplab (lines_plan lines list script) before now answer
        (lines_ending (lines medl right)) call told quiet seven) [
          | inl none ↦ none_of (lines medl right) before.output now.output (one medl right) none
          | inr some ↦ fewer (lines medl right) before.output now.output some
        ]

    completed : ¬ HasRisen before.output.faults now.output.faults
        → ((answer.status ≡ 0) × WroteLines before.output now.output (lines medl right))
        ⊎ ((answer.status ≡ 7) × WroteFewer before.output now.output (lines medl right))
    completed sink =
        elim (told_shows ttplab (lines_plan lines list script) before now answer
        (lines_ending (lines medl right)) call told quiet sink) [
          | inl showed ↦
              inl (
                showed.status,
                subst (λ (text : Lines). WroteLines before.output now.output text) showed.text.among
                    showed.text.wrote,
              )
          | inr seven ↦ inr (seven, begun_told seven)
        ]

    cut_lines : answer.status ≡ 6
        → CutShort before.output now.output (lines medl right)
    cut_lines six =
        let cut = told_cut ttplab (lines_plan lines list script) before now answer
        (lines_ending (lines medl right)) call told quiet six in
        subst (λ (text : Lines). CutShort before.output now.output text) cut.among cut.cut

  -- Memory was refused: nothing stands, or first lines of those that were due.
  begun_by : IsUnfinished ttplab (lines_plan lines list script) before now call.loads
      → Wrote before.output now.output [] ⊎ WroteSome lines list script before now
  begun_by (inl none) = inl none
  begun_by (inr some) = by_status some.0 some.1.comes some.2 (few_or_refused some.0 some.1.comes)
    where
      few_or_refused : (ending : LabEnding) → Comes held (lines_plan lines list script) call.loads (ends ending)
          → (ending.status ≤ 2) ⊎ (ending.unfinished ≡ no_texts)
      few_or_refused ending comes =
          all_come (λ (e : LabEnding). (e.status ≤ 2) ⊎ (e.unfinished ≡ no_texts)) (λ file. Unit {0}) held
          (lines_plan lines list script) call.loads ending
          (both_every (λ (e : LabEnding). (e.status ≤ 2) ⊎ (e.unfinished ≡ no_texts)) (λ file. Unit {0}) list script
          from_script tt tt (λ fault. inr refl) (λ fault. inr refl) (λ medl right. inl (omega arith))) comes

      by_status : (ending : LabEnding) → Comes held (lines_plan lines list script) call.loads (ends ending)
          → WroteAmong ttplab ending.unfinished before.output now.output
          → (ending.status ≤ 2) ⊎ (ending.unfinished ≡ no_texts)
          → Wrote before.output now.output [] ⊎ WroteSome lines list script before now
      by_status ending comes wrote (inl few) =
          let came = both_came held ending few list script from_script call.loads comes in
          let same = subst (λ (e : LabEnding). WroteAmong ttplab e.unfinished before.output now.output)
          (sym (same_as ending came)) wrote in
          inr (record {
            medl = came.medl;
            right = came.right;
            files = may_be_both ending came;
            wrote = fewer (lines came.medl came.right) before.output now.output same;
          })
      by_status ending comes wrote (inr none) =
          inl (wrote_nothing ttplab before.output now.output
          (subst (λ (texts : Texts LabSets). WroteAmong ttplab texts before.output now.output) none wrote))

pub lines_promise : (lines : Medl → Script → Lines)
    → ((medl : Medl) (right : Script) → IsProperFront (lines medl right) []) → (list script : List ℕ)
    → (before now : Outside) (answer : LabAnswer) → Promise ttplab (lines_plan lines list script) before now answer
    → LinesPromise lines list script before now answer.status
lines_promise lines one list script before now answer call =
    let next : Medl → List ℕ → Script → LabPlan = λ medl bytes right. ends (lines_ending (lines medl right)) in
    let none : (medl : Medl) (bytes : List ℕ) (right : Script) → RefusesNone (next medl bytes right) =
    λ medl bytes right. omega arith in
    record {
      shown = wrote_all lines list script before now answer call;
      no_list = list_refused list script next before now answer call none;
      no_script = script_refused list script next before now answer call none;
      complete = completed lines list script before now answer call one;
      list_told = list_due list script next before now answer call;
      script_told = script_due list script next before now answer call;
      cut = cut_lines lines list script before now answer call one;
      begun = λ seven. begun_by lines list script before now answer call (call.refused seven).1;
    }
