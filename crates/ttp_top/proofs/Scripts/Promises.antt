-- The promise of `run`, from the promise of every form.
use Rattle.ttp_top.proofs.Terms.{◌≡◌, ◌⊎◌, ℕ, List, [], Some, refl, ap, sym, subst, ◌∙◌, inl, inr, arith, HasRisen}
use Rattle.ttp_top.proofs.Terms.{Output, Lines, Medl, Script, IsLegalRun, trace_lines, Numbers, world, numbers_in-trace}
use Rattle.ttp_top.proofs.Terms.{both_came, both_told, both_ask, end_comes, AllAsk, Quiet, told_shows, told_cut, Showed}
use Rattle.ttp_top.proofs.Terms.{Outside, ends, told_ending, AreTold, BenchAnswer, BenchEnding, BenchPlan, WroteOf}
use Rattle.ttp_top.proofs.Terms.{CutOf, ttpbench, trace_ending, plan_of, BenchPromise, traces, fronts, IsTrace, run}
use Rattle.ttp_top.proofs.Terms.{WroteTraceOf, RunPromise}
use Rattle.ttp_world.specs.TraceNumbers.{numbers_in}
use Rattle.theorems.specs.KeptRun.{IsKeptRun, IsBackRun}
use Rattle.ttp_top.proofs.FromBelow.{kept-run, back-run, told_leaves}
use Rattle.ttp_top.specs.Scripts.Promise.{WroteTrace}

-- the plan of a run, from a script on
abbrev from_script : Medl → Script → BenchPlan
from_script medl right = ends (trace_ending medl right)

-- ---- the numbers of a trace

-- a trace names the numbers that it was made with
own_numbers : (medl : Medl) (right : Script) (lines : Lines) → (t : IsTrace medl right lines)
    → numbers_in medl right lines ≡ t.numbers
own_numbers medl right lines t =
    ap (numbers_in medl right) t.text
    ∙ numbers_in-trace medl right t.numbers t.valid t.valid_script t.legal.count t.legal.legal

wrote_trace_of : (medl : Medl) (right : Script) (before now : Output) (answer : BenchAnswer)
    → Showed ttpbench (trace_ending medl right) before now answer → WroteTraceOf medl right before now answer.kept
wrote_trace_of medl right before now answer showed =
    let w = showed.text in
    let t = w.among in
    let own = own_numbers medl right w.lines t in
    record {
      lines = w.lines;
      wrote = w.wrote;
      text = t.text ∙ ap (trace_lines medl right) (sym own);
      valid = t.valid;
      valid_script = t.valid_script;
      legal = subst (IsLegalRun medl right) (sym own) t.legal;
      keeping = λ start kept.
          let run = kept-run medl right start t.valid t.valid_script kept t.numbers t.legal.legal
          (omega (arith, t.legal.count)) in
          subst (λ (numbers : Numbers). IsKeptRun medl right start (world medl right numbers)) (sym own) run;
      returning = λ start kept.
          let run = back-run medl right start t.valid t.valid_script kept t.numbers t.legal.legal
          (omega (arith, t.legal.count)) in
          subst (λ (numbers : Numbers). IsBackRun medl right start (world medl right numbers)) (sym own) run;
      ran = showed.kept;
    }

wrote_trace : (list script : List ℕ) (before now : Outside) (answer : BenchAnswer)
    → BenchPromise (Some (run list script)) before now answer → answer.status ≡ 0
    → WroteTrace list script before now answer.kept
wrote_trace list script before now answer p zero =
    let held = before.files.held in
    let final = p.ended (omega (arith, zero)) in
    let came = both_came held final.0 (omega (arith, zero, final.2.status)) list script from_script p.loads
    final.1.comes in
    let is = end_comes held came.loads (trace_ending came.medl came.right) final.0 came.comes in
    record {
      bytes = came.bytes;
      script_bytes = came.script_bytes;
      medl = came.medl;
      right = came.right;
      list_file = came.list_file;
      script_file = came.script_file;
      are = came.are;
      text =
          wrote_trace_of came.medl came.right before.output now.output answer
          (subst (λ (e : BenchEnding). Showed ttpbench e before.output now.output answer) (sym is) final.2);
    }

-- ---- right files

module _ (list script : List ℕ) (before now : Outside) (answer : BenchAnswer)
    (p : BenchPromise (Some (run list script)) before now answer) (medl : Medl) (right : Script)
    (files : AreTold list script before now medl right) where
  -- they come to the traces of their list and their script
  run_told : told_ending before.files.held (plan_of (Some (run list script))) ≡ Some (trace_ending medl right)
  run_told = both_told list script from_script before now medl right files

  -- A run asks for no name whose count of failures rises.
  quiet : AllAsk (Quiet before now) (plan_of (Some (run list script)))
  quiet =
      both_ask (Quiet before now) list script from_script files.list_quiet files.script_quiet (λ medl right. tt)

  cut : answer.status ≡ 6 → CutOf (traces medl right) before.output now.output
  cut six =
      told_cut ttpbench (plan_of (Some (run list script))) before now answer (trace_ending medl right) p.call run_told
      quiet six

  -- what was written when memory was refused begins one of them
  begun : answer.status ≡ 7 → WroteOf (fronts medl right) before.output now.output
  begun seven =
      elim (told_leaves ttpbench (plan_of (Some (run list script))) before now answer (trace_ending medl right) p.call
      run_told quiet seven) [ inl none ↦ record { lines = []; among = inl refl; wrote = none } | inr some ↦ some ]

  complete : ¬ HasRisen before.output.faults now.output.faults
      → ((answer.status ≡ 0) × WroteTraceOf medl right before.output now.output answer.kept)
      ⊎ ((answer.status ≡ 7) × WroteOf (fronts medl right) before.output now.output)
  complete sink =
      elim (told_shows ttpbench (plan_of (Some (run list script))) before now answer (trace_ending medl right) p.call
      run_told quiet sink) [
        | inl showed ↦ inl (showed.status, wrote_trace_of medl right before.output now.output answer showed)
        | inr seven ↦ inr (seven, begun seven)
      ]

pub run_promise : (list script : List ℕ) (before now : Outside) (answer : BenchAnswer)
    → BenchPromise (Some (run list script)) before now answer → RunPromise list script before now answer
run_promise list script before now answer p = record {
  trace = wrote_trace list script before now answer p;
  complete = complete list script before now answer p;
  cut = cut list script before now answer p;
  begun = begun list script before now answer p;
}
