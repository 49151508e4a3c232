-- The lines of the tests: that of the hypothesis, and the one on armed nodes where a node is armed.
use Rattle.ttp_top.proofs.Terms.{ℕ, [], ◌∷◌, refl, subst, inl, inr, Output, WroteLines}
use Rattle.ttp_top.proofs.Terms.{CutShort, Wrote-join, CutShort-after, CutShort-more, Medl, Script}
use Rattle.ttp_top.proofs.Terms.{keep_line, back_lines, test_lines, Says, whole_ending, alone, one, BenchEnding}
use Rattle.ttp_top.proofs.Terms.{ttpbench, keep_ending}
use Rattle.ttp_world.specs.Hypothesis.{keeps}

-- the ending with the line on armed nodes alone, where a node is armed
abbrev pub back_ending : Medl → Script → BenchEnding
back_ending list script = whole_ending 0 (one (back_lines list script))

-- the line of the hypothesis test was written, and then this was said
pub keep_said : (list : Medl) (script : Script) (a b c : Output) (status : ℕ)
    → WroteLines a b (keep_line (keeps list script) ∷ []) → Says ttpbench (back_ending list script) b c (alone status)
    → Says ttpbench (keep_ending list script) a c (alone status)
keep_said list script a b c status wrote (inl showed) =
    let back : WroteLines b c (back_lines list script) = subst (WroteLines b c) showed.text.among showed.text.wrote in
    inl (record {
      status = showed.status;
      text = record {
        lines = test_lines list script;
        among = refl;
        wrote = Wrote-join a b c (keep_line (keeps list script) ∷ []) (back_lines list script) wrote back;
      };
      kept = refl;
    })
keep_said list script a b c status wrote (inr stopped) =
    let back : CutShort b c (back_lines list script) = subst (CutShort b c) stopped.text.among stopped.text.cut in
    inr (record {
      status = stopped.status;
      text = record {
        lines = test_lines list script;
        among = refl;
        cut = CutShort-after a b c (keep_line (keeps list script) ∷ []) (back_lines list script) wrote back;
      };
      none = refl;
    })

-- The line of `keeps` was cut short.
pub keep_cut : (list : Medl) (script : Script) (a b : Output) → CutShort a b (keep_line (keeps list script) ∷ [])
    → Says ttpbench (keep_ending list script) a b (alone 6)
keep_cut list script a b cut =
    inr (record {
      status = refl;
      text = record {
        lines = test_lines list script;
        among = refl;
        cut = CutShort-more a b (keep_line (keeps list script) ∷ []) (back_lines list script) cut;
      };
      none = refl;
    })
