-- What holds of each ending of a form: what its texts are made of, and what its status and the form tell of each other.
use Rattle.ttp_top.proofs.Terms.{◌≡◌, ◌≢◌, ℕ, Bool, true, false, ◌&&◌, Option, Some, None, refl, ap, sym, subst, ◌∙◌}
use Rattle.ttp_top.proofs.Terms.{arith, List, [], ◌∷◌, inl, inr, ◌==◌, is_some, if◌then◌else◌, Lines, lines_of, Medl}
use Rattle.ttp_top.proofs.Terms.{Script, test_lines, trace_lines-each, slot_table, ClusterView, is_trace, mode_lines}
use Rattle.ttp_top.proofs.Terms.{refused_list, both_plan, trace_plan, AreLines, ends, whole_ending, line_ending, one}
use Rattle.ttp_top.proofs.Terms.{those, IsFinal, SaysLine, list_every, BenchEnding, BenchPlan, ttpbench, same_line}
use Rattle.ttp_top.proofs.Terms.{usage_line, table_ending, trace_ending, keep_ending, verify_ending, precision_ending}
use Rattle.ttp_top.proofs.Terms.{sample_ending, modes_ending, plan_of, fronts, differences, Form, schedule, run, verify}
use Rattle.ttp_top.proofs.Terms.{precision, sample, modes, is_run, runs_cluster}
use Rattle.std.specs.Prelude.{IsSomeAnd}
use Rattle.std.proofs.lemmas.Bool.{ne_eqb}
use Rattle.ttp_world.specs.TraceNumbers.{numbers_in}
use Rattle.ttp_world.proofs.TraceLines.{test_lines-each}
use Rattle.ttp_top.proofs.FromBelow.{slot_table-each, mode_lines-each, AreOfLines, one_text, lines_front, text_final}
use Rattle.ttp_top.proofs.FromBelow.{line_final, refused_list-final, refused_script-final, Every, both_every}
use Rattle.commands.specs.declared.read.FileFault.{FileFault}
use Rattle.commands.specs.Files.{refused_script, list_plan}
use Rattle.commands.specs.Plan.{said_ending}
use Rattle.commands.specs.Texts.{no_texts, IsKeptBeside}
use Rattle.ttp_top.specs.Calls.Words.{keeps}
use Rattle.ttp_top.specs.Calls.Words.{takes_trace}
use Rattle.ttp_top.proofs.Calls.Differences.{differences-each}
use Rattle.ttp_top.proofs.Calls.Precision.{precisions-each}
use Rattle.ttp_top.proofs.Samples.Lines.{samples-each}
use Rattle.std.proofs.Math.Bool.{and-false as and_false}

-- an ending that a form may come to
pub record IsOfForm (form : Option Form) (ending : BenchEnding) : Type 0 where
  pub final : IsFinal ttpbench ending
  -- the usage line answers words of no form alone
  pub usage : ending.status ≡ 2 → form ≡ None
  -- only the forms that take a trace answer status 1
  pub differs : ending.status ≡ 1 → takes_trace form ≡ true
  -- where memory is refused, nothing stands, unless the form is `run`
  pub lets : is_run form ≡ false → ending.unfinished ≡ no_texts
  -- what is kept beside a text tells whether a cluster ran
  pub keeps : (lines : Lines) (kept : Option ClusterView) → IsKeptBeside ttpbench ending.texts lines kept
      → is_some kept ≡ (runs_cluster form && (ending.status == 0))

-- where no cluster is kept, the status is not 0
pub none_kept : (form : Option Form) (status : ℕ) (kept : Option ClusterView) → kept ≡ None → status ≢ 0
    → is_some kept ≡ (runs_cluster form && (status == 0))
none_kept form status kept none not_0 =
    ap is_some none
    ∙ sym (ap (λ b. runs_cluster form && b) (ne_eqb status 0 not_0) ∙ and_false (runs_cluster form))

is_some-and : {X : Type 0} (P : X → Type 0) (x : Option X) → IsSomeAnd x P → is_some x ≡ true
is_some-and P None is = absurd is
is_some-and P (Some x) is = refl

-- the endings of a list or a script that is refused are of any form

pub no_list : (form : Option Form) (fault : FileFault) → IsOfForm form (said_ending (refused_list fault))
no_list form fault = record {
  final = refused_list-final ttpbench fault;
  usage = λ two. absurd (omega (arith, two));
  differs = λ one. absurd (omega (arith, one));
  lets = λ other. refl;
  keeps = λ lines kept none. none_kept form 3 kept none (omega arith);
}

pub no_script : (form : Option Form) (fault : FileFault) → IsOfForm form (said_ending (refused_script fault))
no_script form fault = record {
  final = refused_script-final ttpbench fault;
  usage = λ two. absurd (omega (arith, two));
  differs = λ one. absurd (omega (arith, one));
  lets = λ other. refl;
  keeps = λ lines kept none. none_kept form 4 kept none (omega arith);
}

-- each ending with status 0 is of a form that runs no cluster and keeps nothing
done : (form : Option Form) (ending : BenchEnding) → runs_cluster form ≡ false → ending.status ≡ 0
    → ending.unfinished ≡ no_texts → IsFinal ttpbench ending
    → ((lines : Lines) (kept : Option ClusterView) → IsKeptBeside ttpbench ending.texts lines kept → kept ≡ None)
    → IsOfForm form ending
done form ending none zero whole final nothing_kept = record {
  final = final;
  usage = λ two. absurd (omega (arith, zero, two));
  differs = λ one. absurd (omega (arith, zero, one));
  lets = λ other. whole;
  keeps = λ lines kept beside.
      ap is_some (nothing_kept lines kept beside) ∙ sym (ap (λ b. b && (ending.status == 0)) none);
}

-- a text that is no trace is answered by status 1
differing : (form : Option Form) (list : Medl) (script : Script) (text : List ℕ) → takes_trace form ≡ true
    → IsOfForm form (whole_ending 1 (those (differences list script text)))
differing form list script text takes = record {
  final = record {
    status = omega arith;
    texts = differences-each list script text;
    unfinished = one_text ttpbench [] tt;
  };
  usage = λ two. absurd (omega (arith, two));
  differs = λ one. takes;
  lets = λ other. refl;
  keeps = λ lines kept none. none_kept form 1 kept none (omega arith);
}

-- of two endings one
one_of : (form : Option Form) (same : Bool) (ending other : BenchEnding) → IsOfForm form ending → IsOfForm form other
    → IsOfForm form (if same then ending else other)
one_of form true ending other p q = p
one_of form false ending other p q = q

-- The traces and their first lines are made of lines.

fronts-each : (list : Medl) (script : Script) → AreOfLines ttpbench (those (fronts list script))
fronts-each list script lines (inl none) = subst AreLines (sym none) tt
fronts-each list script lines (inr front) =
    lines_front lines (front.next ∷ front.rest)
    (subst AreLines (sym front.trace.text ∙ front.text) (trace_lines-each list script front.trace.numbers))

trace_final : (list : Medl) (script : Script) → IsFinal ttpbench (trace_ending list script)
trace_final list script = record {
  status = omega arith;
  texts = λ lines among. subst AreLines (sym among.text) (trace_lines-each list script among.numbers);
  unfinished = fronts-each list script;
}

-- each ending of a form is one of it, and each file that is missing is told in a line

of_list : (form : Option Form) (list : List ℕ) (ending : Medl → BenchEnding)
    → ((medl : Medl) → IsOfForm form (ending medl))
    → Every (IsOfForm form) SaysLine (list_plan list (λ medl. ends (ending medl)))
of_list form list ending all =
    list_every (IsOfForm form) SaysLine list (λ medl. ends (ending medl)) refl (no_list form) all

of_both : (form : Option Form) (list script : List ℕ) (next : Medl → Script → BenchPlan)
    → ((medl : Medl) (right : Script) → Every (IsOfForm form) SaysLine (next medl right))
    → Every (IsOfForm form) SaysLine (both_plan list script next)
of_both form list script next all =
    both_every (IsOfForm form) SaysLine list script next refl refl (no_list form) (no_script form) all

pub forms : (form : Option Form) → Every (IsOfForm form) SaysLine (plan_of form)
forms None = record {
  final = line_final ttpbench 2 usage_line (omega arith) refl;
  usage = λ two. refl;
  differs = λ one. absurd (omega (arith, one));
  lets = λ other. refl;
  keeps = λ lines kept none. ap is_some none;
}
forms (Some (schedule list)) =
    of_list (Some (schedule list)) list table_ending
    (λ medl.
    done (Some (schedule list)) (table_ending medl) refl refl refl
    (text_final ttpbench 0 (slot_table medl) (omega arith) (slot_table-each medl)) (λ lines kept none. none))
forms (Some (run list script)) =
    of_both (Some (run list script)) list script (λ medl right. ends (trace_ending medl right))
    (λ medl right. record {
      final = trace_final medl right;
      usage = λ two. absurd (omega (arith, two));
      differs = λ one. absurd (omega (arith, one));
      lets = λ other. absurd (cc);
      keeps = λ lines kept is. is_some-and _ kept is;
    })
forms (Some (keeps list script)) =
    of_both (Some (keeps list script)) list script (λ medl right. ends (keep_ending medl right))
    (λ medl right.
    done (Some (keeps list script)) (keep_ending medl right) refl refl refl
    (text_final ttpbench 0 (test_lines medl right) (omega arith) (test_lines-each medl right))
    (λ lines kept none. none))
forms (Some (verify list script trace)) =
    let form = Some (verify list script trace) in
    of_both form list script (λ medl right. trace_plan trace (λ text. ends (verify_ending medl right text)))
    (λ medl right. (
      refl,
      λ text.
          one_of form (is_trace medl right text) _ _
          (done form (line_ending 0 same_line) refl refl refl (line_final ttpbench 0 same_line (omega arith) refl)
          (λ lines kept none. none)) (differing form medl right text refl),
    ))
forms (Some (precision list script node)) =
    of_both (Some (precision list script node)) list script (λ medl right. ends (precision_ending node medl right))
    (λ medl right.
    done (Some (precision list script node)) (precision_ending node medl right) refl refl refl
    (record { status = omega arith; texts = precisions-each medl right node; unfinished = one_text ttpbench [] tt })
    (λ lines kept none. none))
forms (Some (sample list slots number)) =
    of_list (Some (sample list slots number)) list (sample_ending slots number)
    (λ medl. record {
      final = record {
        status = omega arith;
        texts = samples-each medl slots number;
        unfinished = one_text ttpbench [] tt;
      };
      usage = λ two. absurd (omega (arith, two));
      differs = λ one. absurd (omega (arith, one));
      lets = λ other. refl;
      keeps = λ lines kept is. is_some-and _ kept is;
    })
forms (Some (modes list script trace)) =
    let form = Some (modes list script trace) in
    of_both form list script (λ medl right. trace_plan trace (λ text. ends (modes_ending medl right text)))
    (λ medl right. (
      refl,
      λ text.
          let said = mode_lines medl right (numbers_in medl right (lines_of text)) in
          one_of form (is_trace medl right text) _ _
          (done form (whole_ending 0 (one said)) refl refl refl
          (text_final ttpbench 0 said (omega arith)
          (mode_lines-each medl right (numbers_in medl right (lines_of text)))) (λ lines kept none. none))
          (differing form medl right text refl),
    ))
