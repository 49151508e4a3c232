use Rattle.std.proofs.Common.{◌≡◌, ℕ, zero, suc, ◌+◌, ◌<◌, ◌≤◌, Bool, true, false, List, [], ◌∷◌, length, inl, inr}
use Rattle.std.proofs.Common.{refl, sym, ◌∙◌, arith}
use Rattle.std.specs.Prelude.{IsTrue}
use Rattle.std.proofs.lemmas.Bool.{false≢true, true≢false}
use Rattle.ttp_base.specs.NodeSet.{members_in, with_node}
use Rattle.ttp_world.specs.declared.node.Entry.{Entry}
use Rattle.ttp_world.specs.Clock.{notes_of}
use Rattle.ttp_world.specs.Diary.{History, ends_round, place_of, diary_of, entry_of, continues_stint}
use Rattle.precision.specs.Together.{IsIn, TellsOf, Nothing, OneFrame, EndsLaterRound, newest_notes}
use Rattle.precision.specs.Company.{RanAsCompany}
use Rattle.precision.specs.WorkedCompany.{five_nodes, coming_late, first_four, waiting, starting_row, joining}
use Rattle.precision.specs.WorkedCompany.{run_of_four, run_of_coming}
use Rattle.precision.specs.WorkedRun.{every_node}
use Rattle.precision.proofs.Frames.{told_goes}
use Rattle.precision.proofs.worked_run.a_node_comes.Goals as goal

-- what is so of each of the five, and of each of the first four
of_five : (P : ℕ → Type 0) → P 0 → P 1 → P 2 → P 3 → P 4 → (k : ℕ) → IsIn five_nodes every_node k → P k
of_five P a b c d e zero p = a
of_five P a b c d e (suc zero) p = b
of_five P a b c d e (suc (suc zero)) p = c
of_five P a b c d e (suc (suc (suc zero))) p = d
of_five P a b c d e (suc (suc (suc (suc zero)))) p = e
of_five P a b c d e (suc (suc (suc (suc (suc k))))) p = absurd (omega (arith, p.0))

of_four : (P : ℕ → Type 0) → P 0 → P 1 → P 2 → P 3 → (k : ℕ) → IsIn five_nodes first_four k → P k
of_four P a b c d zero p = a
of_four P a b c d (suc zero) p = b
of_four P a b c d (suc (suc zero)) p = c
of_four P a b c d (suc (suc (suc zero))) p = d
of_four P a b c d (suc (suc (suc (suc zero)))) p = absurd (false≢true p.1)
of_four P a b c d (suc (suc (suc (suc (suc k))))) p = absurd (omega (arith, p.0))

-- the nodes whose round ends there, which began after the newest entry, noted four deviations in it
data NotedFour (group : ℕ → Bool) (newest : ℕ) (row : List Entry) (history : History) : Type 0 where
  NoneLater : length history < newest + 5 → NotedFour group newest row history
  NoneEnds : ((k : ℕ) → IsIn five_nodes group k
      → ends_round five_nodes (place_of five_nodes k (diary_of (row ∷ history) k)) ≡ false)
      → NotedFour group newest row history
  EachNoted : ((k : ℕ) → IsIn five_nodes group k → length (notes_of five_nodes k (diary_of (row ∷ history) k)) ≡ 4)
      → NotedFour group newest row history

noted_four : (group : ℕ → Bool) (newest : ℕ) (row : List Entry) (history : History)
    → NotedFour group newest row history
    → (k : ℕ) → IsIn five_nodes group k → EndsLaterRound five_nodes newest k row history
    → 4 ≤ length (notes_of five_nodes k (diary_of (row ∷ history) k))
noted_four group newest row history (NoneLater soon) k is ends = absurd (omega (arith, soon, ends.1))
noted_four group newest row history (NoneEnds inside) k is ends = absurd (false≢true (sym (inside k is) ∙ ends.0))
noted_four group newest row history (EachNoted each) k is ends = omega (arith, each k is)

-- a slot in which all of a group tell of a frame of one of them
told : (group : ℕ → Bool) (newest p : ℕ) (row : List Entry) (history : History)
    → IsIn five_nodes group p
    → ((k : ℕ) → IsIn five_nodes group k → TellsOf five_nodes coming_late history p k (entry_of row k))
    → NotedFour group newest row history
    → RanAsCompany five_nodes coming_late true group newest history
    → RanAsCompany five_nodes coming_late true group newest (row ∷ history)
told group newest p row history member tells enough ran = (
  λ k q. refl,
  inr (inl (
    group,
    (
      ran,
      record {
        less = λ k is. is.1;
        together = record {
          active = λ k is. told_goes five_nodes coming_late history p k (entry_of row k) (tells k is);
          noted = OneFrame p tells;
          enough = noted_four _ _ row history enough;
        };
        noted = λ grows. (member, refl);
      },
    ),
  )),
)

-- one in which the first four find nothing
silent : (row : List Entry) (history : History)
    → ((k : ℕ) → IsIn five_nodes first_four k → IsTrue (continues_stint (entry_of row k)))
    → ((k : ℕ) → IsIn five_nodes first_four k → newest_notes five_nodes k (diary_of (row ∷ history) k) ≡ [])
    → NotedFour first_four 10 row history
    → RanAsCompany five_nodes coming_late true first_four 10 history
    → RanAsCompany five_nodes coming_late true first_four 10 (row ∷ history)
silent row history active none enough ran = (
  λ k q. refl,
  inr (inl (
    first_four,
    (
      ran,
      record {
        less = λ k is. is.1;
        together = record { active = active; noted = Nothing none; enough = noted_four _ _ row history enough };
        noted = λ grows. tt;
      },
    ),
  )),
)

-- the slot of the start
four_begun : RanAsCompany five_nodes coming_late true first_four 10 (starting_row ∷ waiting)
four_begun = (
  λ k p. refl,
  inl (
    refl,
    record {
      sender = 0;
      place = record { time = 0; round = 0; slot = 0 };
      inside = omega arith;
      begins = of_four _ (refl, refl) (refl, refl) (refl, refl) (refl, refl);
    },
  ),
)

-- up to slot 21
four_ran : RanAsCompany five_nodes coming_late true first_four 10 run_of_four
unfolding members_in with_node
four_ran =
    told _ _ 1 _ _ (omega arith, refl) (of_four _ (refl, refl) refl (refl, refl) (refl, refl))
    (NoneEnds (of_four _ refl refl refl refl))
    (told _ _ 0 _ _ (omega arith, refl) (of_four _ refl (refl, refl) (refl, refl) (refl, refl))
    (NoneEnds (of_four _ refl refl refl refl))
    (silent _ _ (of_four _ refl refl refl refl) (of_four _ refl refl refl refl)
    (EachNoted (of_four _ refl refl refl refl))
    (told _ _ 3 _ _ (omega arith, refl) (of_four _ (refl, refl) (refl, refl) (refl, refl) refl)
    (NoneEnds (of_four _ refl refl refl refl))
    (told _ _ 2 _ _ (omega arith, refl) (of_four _ (refl, refl) (refl, refl) refl (refl, refl))
    (NoneEnds (of_four _ refl refl refl refl))
    (told _ _ 1 _ _ (omega arith, refl) (of_four _ (refl, refl) refl (refl, refl) (refl, refl))
    (NoneEnds (of_four _ refl refl refl refl))
    (told _ _ 0 _ _ (omega arith, refl) (of_four _ refl (refl, refl) (refl, refl) (refl, refl))
    (NoneEnds (of_four _ refl refl refl refl))
    (silent _ _ (of_four _ refl refl refl refl) (of_four _ refl refl refl refl) (NoneLater (omega arith))
    (told _ _ 3 _ _ (omega arith, refl) (of_four _ (refl, refl) (refl, refl) (refl, refl) refl)
    (NoneLater (omega arith))
    (told _ _ 2 _ _ (omega arith, refl) (of_four _ (refl, refl) (refl, refl) refl (refl, refl))
    (NoneLater (omega arith))
    (told _ _ 1 _ _ (omega arith, refl) (of_four _ (refl, refl) refl (refl, refl) (refl, refl))
    (NoneLater (omega arith)) four_begun))))))))))

-- the slot in which node 4 joins
grown : RanAsCompany five_nodes coming_late true every_node 22 (joining ∷ run_of_four)
unfolding members_in with_node
grown = (
  λ k p. refl,
  inr (inr (
    refl,
    (
      refl,
      (
        first_four,
        (
          10,
          (
            four_ran,
            record {
              later = omega arith;
              sender = 2;
              member = ((omega arith, refl), refl);
              tells = of_five _ (λ there. (refl, refl)) (λ there. (refl, refl)) (λ there. refl) (λ there. (refl, refl))
                  (λ there. absurd (false≢true there));
              begins = of_five _ (λ away. absurd (true≢false away)) (λ away. absurd (true≢false away))
                  (λ away. absurd (true≢false away)) (λ away. absurd (true≢false away)) (λ away. (refl, refl));
            },
          ),
        ),
      ),
    ),
  )),
)

-- up to slot 28
five_ran : RanAsCompany five_nodes coming_late true every_node 22 run_of_coming
unfolding members_in with_node
five_ran =
    told _ _ 3 _ _ (omega arith, refl) (of_five _ (refl, refl) (refl, refl) (refl, refl) refl (refl, refl))
    (NoneEnds (of_five _ refl refl refl refl refl))
    (told _ _ 2 _ _ (omega arith, refl) (of_five _ (refl, refl) (refl, refl) refl (refl, refl) (refl, refl))
    (NoneEnds (of_five _ refl refl refl refl refl))
    (told _ _ 1 _ _ (omega arith, refl) (of_five _ (refl, refl) refl (refl, refl) (refl, refl) (refl, refl))
    (NoneLater (omega arith))
    (told _ _ 0 _ _ (omega arith, refl) (of_five _ refl (refl, refl) (refl, refl) (refl, refl) (refl, refl))
    (NoneLater (omega arith))
    (told _ _ 4 _ _ (omega arith, refl) (of_five _ (refl, refl) (refl, refl) (refl, refl) (refl, refl) refl)
    (NoneLater (omega arith))
    (told _ _ 3 _ _ (omega arith, refl) (of_five _ (refl, refl) (refl, refl) (refl, refl) refl (refl, refl))
    (NoneLater (omega arith)) grown)))))

pub returns-clause-world : goal.returns-clause-world
unfolding members_in with_node
returns-clause-world c = refl

pub returns-clause-company : goal.returns-clause-company
returns-clause-company c =
    record { bounds = refl; within = omega arith; calm = λ k p. refl; together = five_ran }
