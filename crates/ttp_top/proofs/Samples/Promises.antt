-- The promise of `sample`, from the promise of every form.
use Rattle.ttp_top.proofs.Terms.{◌≡◌, ◌⊎◌, ℕ, List, [], Some, refl, sym, subst, inl, inr, arith, HasRisen, Output}
use Rattle.ttp_top.proofs.Terms.{Wrote, Medl, list_from-front, list_came, list_every, end_comes, list_from-right, Quiet}
use Rattle.ttp_top.proofs.Terms.{told_shows, Showed, Outside, ends, told_ending, BenchAnswer, BenchEnding, BenchPlan}
use Rattle.ttp_top.proofs.Terms.{ttpbench, sample_ending, plan_of, BenchPromise, sample, HoldsRightList}
use Rattle.ttp_top.specs.Samples.Promise.{WroteSampleOf, WroteSample, SamplePromise}

-- the plan from a list on
abbrev from_list : ℕ → ℕ → Medl → BenchPlan
from_list slots number medl = ends (sample_ending slots number medl)

wrote_sample_of : (medl : Medl) (slots number : ℕ) (before now : Output) (answer : BenchAnswer)
    → Showed ttpbench (sample_ending slots number medl) before now answer
    → WroteSampleOf medl slots number before now answer.kept
wrote_sample_of medl slots number before now answer showed = record {
  lines = showed.text.lines;
  wrote = showed.text.wrote;
  text = showed.text.among;
  ran = showed.kept;
}

wrote_sample : (list : List ℕ) (slots number : ℕ) (before now : Outside) (answer : BenchAnswer)
    → BenchPromise (Some (sample list slots number)) before now answer → answer.status ≡ 0
    → WroteSample list slots number before now answer.kept
wrote_sample list slots number before now answer p zero =
    let held = before.files.held in
    let final = p.ended (omega (arith, zero)) in
    let came = list_came held final.0 (omega (arith, zero, final.2.status)) list (from_list slots number) p.loads
    final.1.comes in
    let is = end_comes held came.loads (sample_ending slots number came.medl) final.0 came.comes in
    record {
      bytes = came.bytes;
      medl = came.medl;
      list_file = came.list_file;
      size = came.right.size;
      right = came.right.list;
      text =
          wrote_sample_of came.medl slots number before.output now.output answer
          (subst (λ (e : BenchEnding). Showed ttpbench e before.output now.output answer) (sym is) final.2);
    }

-- A right list.

sample_told : (list : List ℕ) (slots number : ℕ) (before now : Outside) (medl : Medl)
    → (file : HoldsRightList list before now medl)
    → told_ending before.files.held (plan_of (Some (sample list slots number)))
    ≡ Some (sample_ending slots number medl)
sample_told list slots number before now medl file =
    rw (file.list_file, list_from-front file.bytes, list_from-right file.bytes medl file.size file.right) refl

completed : (list : List ℕ) (slots number : ℕ) (before now : Outside) (answer : BenchAnswer) (medl : Medl)
    → BenchPromise (Some (sample list slots number)) before now answer → HoldsRightList list before now medl
    → ¬ HasRisen before.output.faults now.output.faults
    → ((answer.status ≡ 0) × WroteSampleOf medl slots number before.output now.output answer.kept)
    ⊎ ((answer.status ≡ 7) × Wrote before.output now.output [])
completed list slots number before now answer medl p file sink =
    let quiet = list_every (λ ending. Unit {0}) (λ f. Quiet before now f.name) list (from_list slots number) file.quiet
    (λ fault. tt) (λ medl. tt) in
    elim (told_shows ttpbench (plan_of (Some (sample list slots number))) before now answer
    (sample_ending slots number medl) p.call (sample_told list slots number before now medl file) quiet sink) [
      | inl showed ↦
          inl (showed.status, wrote_sample_of medl slots number before.output now.output answer showed)
      | inr seven ↦ inr (seven, p.empty seven refl)
    ]

pub sample_promise : (list : List ℕ) (slots number : ℕ) (before now : Outside) (answer : BenchAnswer)
    → BenchPromise (Some (sample list slots number)) before now answer
    → SamplePromise list slots number before now answer
sample_promise list slots number before now answer p = record {
  sample = wrote_sample list slots number before now answer p;
  complete = λ medl file sink. completed list slots number before now answer medl p file sink;
}
