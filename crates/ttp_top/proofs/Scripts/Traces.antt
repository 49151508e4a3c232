-- A trace: the lines of a run, and then those of the tests.
use Rattle.ttp_top.proofs.Terms.{◌≡◌, ℕ, refl, sym, subst, ◌∙◌, inl, inr, Output, WroteLines, CutShort, Wrote-join}
use Rattle.ttp_top.proofs.Terms.{CutShort-after, Medl, Script, IsLegal, IsLegalRun, IsValid, IsValidScript, run_lines}
use Rattle.ttp_top.proofs.Terms.{test_lines, trace_lines, Numbers, numbers_in-trace, ClusterView, Says, ShowsEnding}
use Rattle.ttp_top.proofs.Terms.{answer, alone, ttpbench, trace_ending, keep_ending, HasWritten}
use Rattle.ttp_world.specs.TraceNumbers.{numbers_in}
use Rattle.ttp_top.specs.Calls.Answer.{HasRun, kept_after}
use Rattle.ttp_top.proofs.Scripts.Fronts.{is_trace}

-- a run was written whole, and its cluster has its list and its script
pub record HasWrittenAll (list : Medl) (script : Script) (before now : Output) (c : ClusterView) : Type 0 where
  pub numbers : Numbers
  pub legal : IsLegalRun list script numbers
  pub lines : WroteLines before now (run_lines list script numbers)
  pub run : HasRun list script numbers c

pub all_written : (list : Medl) (script : Script) (before now : Output) (c : ClusterView) → c.list ≡ list
    → c.script ≡ script → c.done ≡ script.slots → IsValid list → IsValidScript list script → HasWritten before now c
    → HasWrittenAll list script before now c
all_written list script before now c list_is script_is done valid valid_script w = record {
  numbers = w.numbers;
  legal = record {
    count = sym w.stands.done ∙ done;
    legal = subst (λ (s : Script). IsLegal list s w.numbers) script_is
        (subst (λ (l : Medl). IsLegal l c.script w.numbers) list_is w.legal);
  };
  lines = subst (λ (s : Script). WroteLines before now (run_lines list s w.numbers)) script_is
      (subst (λ (l : Medl). WroteLines before now (run_lines l c.script w.numbers)) list_is w.lines);
  run = record {
    valid = valid;
    valid_script = valid_script;
    list_is = list_is;
    script_is = script_is;
    done = done;
    stands = w.stands;
  };
}

-- a trace names the numbers that it was made with
run_named : (list : Medl) (script : Script) (numbers : Numbers) (c : ClusterView) → IsValid list
    → IsValidScript list script → IsLegalRun list script numbers → HasRun list script numbers c
    → HasRun list script (numbers_in list script (trace_lines list script numbers)) c
run_named list script numbers c valid valid_script legal run =
    subst (λ (ns : Numbers). HasRun list script ns c)
    (sym (numbers_in-trace list script numbers valid valid_script legal.count legal.legal)) run

-- the last lines were said after a run, and the cluster is kept after status 0
pub trace_shown : (list : Medl) (script : Script) (a b d : Output) (c : ClusterView) (status : ℕ) → IsValid list
    → IsValidScript list script → HasWrittenAll list script a b c
    → Says ttpbench (keep_ending list script) b d (alone status)
    → ShowsEnding ttpbench (trace_ending list script) a d (answer status (kept_after status c))
trace_shown list script a b d c status valid valid_script w (inl showed) =
    let last = test_lines list script in
    let wrote : WroteLines b d last = subst (WroteLines b d) showed.text.among showed.text.wrote in
    subst (λ n. ShowsEnding ttpbench (trace_ending list script) a d (answer n (kept_after n c))) (sym showed.status)
    (inl (inl (record {
      status = refl;
      text = record {
        lines = trace_lines list script w.numbers;
        among = is_trace list script valid valid_script w.numbers w.legal;
        wrote = Wrote-join a b d (run_lines list script w.numbers) last w.lines wrote;
      };
      kept = run_named list script w.numbers c valid valid_script w.legal w.run;
    })))
trace_shown list script a b d c status valid valid_script w (inr stopped) =
    let last = test_lines list script in
    let cut : CutShort b d last = subst (CutShort b d) stopped.text.among stopped.text.cut in
    subst (λ n. ShowsEnding ttpbench (trace_ending list script) a d (answer n (kept_after n c))) (sym stopped.status)
    (inl (inr (record {
      status = refl;
      text = record {
        lines = trace_lines list script w.numbers;
        among = is_trace list script valid valid_script w.numbers w.legal;
        cut = CutShort-after a b d (run_lines list script w.numbers) last w.lines cut;
      };
      none = refl;
    })))
