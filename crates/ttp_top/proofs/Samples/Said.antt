-- The lines on a generated run, once all of its slots are counted.
use Rattle.ttp_top.proofs.Terms.{◌≡◌, ℕ, [], Some, refl, ap, sym, subst, ◌∙◌, inl, inr, Output, WroteLines, CutShort}
use Rattle.ttp_top.proofs.Terms.{Lines, Medl, Script, IsLegal, IsValid, IsValidScript, world, generated}
use Rattle.ttp_top.proofs.Terms.{ClusterView, ShowsEnding, answer, alone, Totals, ttpbench, sample_ending, IsSample}
use Rattle.ttp_top.proofs.Terms.{HasCounted, summary_lines, totals_of}
use Rattle.ttp_top.specs.Calls.Answer.{HasRunLegally}
use Rattle.ttp_top.proofs.Samples.Alike.{totals-legal}

-- a cluster has done all slots of the generated script, and these are the totals of the run
pub record HasCountedAll (list : Medl) (script : Script) (c : ClusterView) (totals : Totals) : Type 0 where
  pub valid : IsValidScript list script
  pub ran : HasRunLegally list script c
  pub totals_are : totals ≡ totals_of list script (world list script ran.numbers)

pub all_counted : (list : Medl) (script : Script) (c : ClusterView) (totals : Totals) → IsValid list
    → IsValidScript list script → c.list ≡ list → c.script ≡ script → c.done ≡ script.slots → HasCounted c totals
    → HasCountedAll list script c totals
all_counted list script c totals valid_list valid list_is script_is done w = record {
  valid = valid;
  ran = record {
    numbers = w.numbers;
    legal = record {
      count = sym w.stands.done ∙ done;
      legal = subst (λ (s : Script). IsLegal list s w.numbers) script_is
          (subst (λ (l : Medl). IsLegal l c.script w.numbers) list_is w.legal);
    };
    run = record {
      valid = valid_list;
      valid_script = valid;
      list_is = list_is;
      script_is = script_is;
      done = done;
      stands = w.stands;
    };
  };
  totals_are = w.totals_are ∙ (λ i. totals_of (list_is i) (script_is i) (world (list_is i) (script_is i) w.numbers));
}

-- what is written of it
abbrev pub summary : Medl → ℕ → ℕ → Totals → Lines
summary list slots number totals =
    summary_lines list (generated list slots number) slots number totals

-- they are the same for all legal numbers
summary-is : (list : Medl) (slots number : ℕ) (c : ClusterView) (totals : Totals)
    → HasCountedAll list (generated list slots number) c totals
    → IsSample list slots number (summary list slots number totals)
summary-is list slots number c totals w = λ numbers legal.
    let script = generated list slots number in
    ap (summary_lines list script slots number)
    (w.totals_are ∙ totals-legal list script w.ran.numbers numbers w.valid w.ran.legal legal)

-- they were written, and the cluster kept
pub sample_said : (list : Medl) (slots number : ℕ) (before now : Output) (c : ClusterView) (totals : Totals)
    → HasCountedAll list (generated list slots number) c totals
    → WroteLines before now (summary list slots number totals)
    → ShowsEnding ttpbench (sample_ending slots number list) before now (answer 0 (Some c))
sample_said list slots number before now c totals w wrote =
    inl (inl (record {
      status = refl;
      text = record {
        lines = summary list slots number totals;
        among = summary-is list slots number c totals w;
        wrote = wrote;
      };
      kept = w.ran;
    }))

-- they were cut short, and none is
pub sample_stopped : (list : Medl) (slots number : ℕ) (before now : Output) (c : ClusterView) (totals : Totals)
    → HasCountedAll list (generated list slots number) c totals
    → CutShort before now (summary list slots number totals)
    → ShowsEnding ttpbench (sample_ending slots number list) before now (alone 6)
sample_stopped list slots number before now c totals w cut =
    inl (inr (record {
      status = refl;
      text = record {
        lines = summary list slots number totals;
        among = summary-is list slots number c totals w;
        cut = cut;
      };
      none = refl;
    }))
