-- The promise of `schedule`, from the promise of every form.
use Rattle.ttp_top.proofs.Terms.{◌≡◌, ◌⊎◌, ℕ, List, [], Some, refl, sym, subst, inl, inr, arith, HasRisen, Output}
use Rattle.ttp_top.proofs.Terms.{Wrote, WroteLines, CutShort, Lines, Medl, slot_table, list_from-front, list_came}
use Rattle.ttp_top.proofs.Terms.{AllAsk, list_every, end_comes, list_from-right, Quiet, told_shows, told_cut, Showed}
use Rattle.ttp_top.proofs.Terms.{Outside, ends, told_ending, BenchAnswer, BenchEnding, BenchPlan, ttpbench}
use Rattle.ttp_top.proofs.Terms.{table_ending, plan_of, BenchPromise, schedule, HoldsRightList}
use Rattle.ttp_top.specs.Lists.Promise.{WroteTable, SchedulePromise}

-- the plan from a list on
abbrev from_list : Medl → BenchPlan
from_list medl = ends (table_ending medl)

showed_table : (medl : Medl) (before now : Output) (answer : BenchAnswer)
    → Showed ttpbench (table_ending medl) before now answer → WroteLines before now (slot_table medl)
showed_table medl before now answer showed =
    subst (λ (lines : Lines). WroteLines before now lines) showed.text.among showed.text.wrote

module _ (list : List ℕ) (before now : Outside) (answer : BenchAnswer)
    (p : BenchPromise (Some (schedule list)) before now answer) where
  wrote_table : answer.status ≡ 0 → WroteTable list before now
  wrote_table zero =
      let held = before.files.held in
      let final = p.ended (omega (arith, zero)) in
      let came = list_came held final.0 (omega (arith, zero, final.2.status)) list from_list p.loads final.1.comes in
      let is = end_comes held came.loads (table_ending came.medl) final.0 came.comes in
      record {
        bytes = came.bytes;
        medl = came.medl;
        list_file = came.list_file;
        size = came.right.size;
        right = came.right.list;
        wrote =
            showed_table came.medl before.output now.output answer
            (subst (λ (e : BenchEnding). Showed ttpbench e before.output now.output answer) (sym is) final.2);
      }

  -- a right list
  module _ (medl : Medl) (file : HoldsRightList list before now medl) where
    table_told : told_ending before.files.held (plan_of (Some (schedule list))) ≡ Some (table_ending medl)
    table_told =
        rw (file.list_file, list_from-front file.bytes, list_from-right file.bytes medl file.size file.right) refl

    quiet : AllAsk (Quiet before now) (plan_of (Some (schedule list)))
    quiet =
        list_every (λ ending. Unit {0}) (λ f. Quiet before now f.name) list from_list file.quiet (λ fault. tt)
        (λ medl. tt)

    cut_table : answer.status ≡ 6 → CutShort before.output now.output (slot_table medl)
    cut_table six =
        let cut = told_cut ttpbench (plan_of (Some (schedule list))) before now answer (table_ending medl) p.call
        table_told quiet six in
        subst (λ (lines : Lines). CutShort before.output now.output lines) cut.among cut.cut

    completed : ¬ HasRisen before.output.faults now.output.faults
        → ((answer.status ≡ 0) × WroteLines before.output now.output (slot_table medl))
        ⊎ ((answer.status ≡ 7) × Wrote before.output now.output [])
    completed sink =
        elim (told_shows ttpbench (plan_of (Some (schedule list))) before now answer (table_ending medl) p.call
        table_told quiet sink) [
          | inl showed ↦ inl (showed.status, showed_table medl before.output now.output answer showed)
          | inr seven ↦ inr (seven, p.empty seven refl)
        ]

pub schedule_promise : (list : List ℕ) (before now : Outside) (answer : BenchAnswer)
    → BenchPromise (Some (schedule list)) before now answer → SchedulePromise list before now answer
schedule_promise list before now answer p = record {
  table = wrote_table list before now answer p;
  complete = completed list before now answer p;
  cut = cut_table list before now answer p;
}
