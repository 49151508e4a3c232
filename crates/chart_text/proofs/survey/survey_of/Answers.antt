use Rattle.chart_text.proofs.Words.{◌≡◌, ◌∙◌, ℕ, ◌^◌, List, [], refl, sym, arith, subst, Option, Some, None, FaultTold}
use Rattle.chart_text.proofs.Words.{Size, counter_of, IsSurvey, AreTallies, ten_with, ap}
use Rattle.chart_text.proofs.Tallied.{room-whole, room-each, tallies-whole}
use Rattle.std.specs.Prelude.{max, fold}
use Rattle.std.specs.Option.{option_or}
use Rattle.chart_text.specs.declared.survey.Survey.{Survey}
use Rattle.chart_text.proofs.Counting.{counted-all, counted-few}
use Rattle.chart_text.proofs.survey.survey_of.Goals as goal

-- at the end none is left
of-all : (size : Size) (survey : Survey) (left all : List FaultTold) → left ≡ [] → IsSurvey size survey left all
    → IsSurvey size survey [] all
of-all size survey left all none is = subst (λ (ys : List FaultTold). IsSurvey size survey ys all) none is

max-none : (n : ℕ) → n ≡ max n 0
max-none n = omega arith

or-none : (slot : Option ℕ) → slot ≡ option_or slot None
or-none None = refl
or-none (Some t) = refl

pub note-requires : goal.note-requires
note-requires c = record {
  few =
      counted-few (λ fault. counter_of c.args.size fault.shown) c.loop-fault.survey.counts c.loop-fault.left
      c.args.faults (2 ^ 63) c.requires.few c.loop-fault.invariant.survey.counted;
}

pub note-requires-in-Some-clause-all : goal.note-requires-in-Some-clause-all
note-requires-in-Some-clause-all c =
    room-whole c.args.size c.loop-fault.tallies c.loop-fault.left c.args.faults c.requires.few
    c.loop-fault.invariant.tallies

pub note-requires-in-Some-clause-each : goal.note-requires-in-Some-clause-each
note-requires-in-Some-clause-each c =
    room-each c.args.size c.loop-fault.tallies c.loop-fault.left c.args.faults c.requires.few
    c.loop-fault.invariant.tallies

pub loop-fault-init : goal.loop-fault-init
loop-fault-init c = record {
  survey = c.new-survey.ensures c.args.faults;
  tallies = c.new-tallies.ensures c.args.faults;
  worst = ap (λ (w : List FaultTold). fold (ten_with c.args.size) w c.args.faults) c.requires.none;
}

pub loop-fault-preserved : goal.loop-fault-preserved
loop-fault-preserved c =
    let all = c.args.faults in
    let left = c.next_fault.new.self in
    let size = c.args.size in
    let is = c.in-Some.ensures.some in
    record {
      survey =
          c.note.ensures left all
          (subst (λ (ys : List FaultTold). IsSurvey size c.loop-fault.survey ys all) is c.loop-fault.invariant.survey);
      tallies =
          c.note-in-Some.ensures left all
          (subst (λ (ys : List FaultTold). AreTallies size c.loop-fault.tallies ys all) is
          c.loop-fault.invariant.tallies);
      worst =
          ap (λ (w : List FaultTold). fold (ten_with size) w left) c.note-in-Some-2.ensures
          ∙ ap (fold (ten_with size) c.loop-fault.worst) (sym is) ∙ c.loop-fault.invariant.worst;
    }

pub returns-clause-counts : goal.returns-clause-counts
returns-clause-counts c =
    let all = of-all c.args.size c.loop-fault.survey c.loop-fault.left c.args.faults (c.in_default.ensures.none refl)
    c.loop-fault.invariant.survey in
    counted-all (λ fault. counter_of c.args.size fault.shown) 252 c.loop-fault.survey.counts c.args.faults all.long
    all.counted

pub returns-clause-longest : goal.returns-clause-longest
returns-clause-longest c =
    let all = of-all c.args.size c.loop-fault.survey c.loop-fault.left c.args.faults (c.in_default.ensures.none refl)
    c.loop-fault.invariant.survey in
    max-none c.loop-fault.survey.longest ∙ all.longest

pub returns-clause-harm : goal.returns-clause-harm
returns-clause-harm c =
    let all = of-all c.args.size c.loop-fault.survey c.loop-fault.left c.args.faults (c.in_default.ensures.none refl)
    c.loop-fault.invariant.survey in
    or-none c.loop-fault.survey.harm ∙ all.harm

pub returns-clause-most : goal.returns-clause-most
returns-clause-most c =
    let all = of-all c.args.size c.loop-fault.survey c.loop-fault.left c.args.faults (c.in_default.ensures.none refl)
    c.loop-fault.invariant.survey in
    max-none c.loop-fault.survey.most ∙ all.most

pub returns-clause-tallies : goal.returns-clause-tallies
returns-clause-tallies c =
    tallies-whole c.args.size c.loop-fault.tallies c.loop-fault.left c.args.faults (c.in_default.ensures.none refl)
    c.loop-fault.invariant.tallies

pub returns-clause-worst : goal.returns-clause-worst
returns-clause-worst c =
    ap (fold (ten_with c.args.size) c.loop-fault.worst) (sym (c.in_default.ensures.none refl))
    ∙ c.loop-fault.invariant.worst
