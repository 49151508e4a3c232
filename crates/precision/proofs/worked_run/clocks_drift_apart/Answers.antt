use Rattle.std.proofs.Common.{ℕ, zero, suc, List, inl, inr, refl, arith}
use Rattle.std.specs.Prelude.{IsTrue}
use Rattle.std.proofs.lemmas.Bool.{false≢true}
use Rattle.ttp_base.specs.NodeSet.{members_in, with_node}
use Rattle.ttp_world.specs.declared.node.Entry.{Entry}
use Rattle.ttp_world.specs.Diary.{History, continues_stint, entry_of}
use Rattle.precision.specs.Together.{IsIn, TellsOf, OneFrame, EndsLaterRound, StayedTogether}
use Rattle.precision.specs.WorkedRun.{four_nodes, drifting, every_node}
use Rattle.precision.proofs.worked_run.clocks_drift_apart.Goals as goal

-- what is so of each of the four
each : (P : ℕ → Type 0) → P 0 → P 1 → P 2 → P 3 → (k : ℕ) → IsIn four_nodes every_node k → P k
each P a b c d zero p = a
each P a b c d (suc zero) p = b
each P a b c d (suc (suc zero)) p = c
each P a b c d (suc (suc (suc zero))) p = d
each P a b c d (suc (suc (suc (suc k)))) p = absurd (omega (arith, p.0))

-- a slot in which all tell of a frame of one node, and no later round ends
goes_on : (p : ℕ) (row : List Entry) (history : History)
    → ((k : ℕ) → IsIn four_nodes every_node k → IsTrue (continues_stint (entry_of row k)))
    → ((k : ℕ) → IsIn four_nodes every_node k → TellsOf four_nodes drifting history p k (entry_of row k))
    → ((k : ℕ) → IsIn four_nodes every_node k → EndsLaterRound four_nodes 8 k row history → ⊥)
    → StayedTogether four_nodes drifting every_node 8 row history
goes_on p row history active tells never =
    record { active = active; noted = OneFrame p tells; enough = λ k is ends. absurd (never k is ends) }

pub returns-clause-world : goal.returns-clause-world
unfolding members_in with_node
returns-clause-world c = refl

pub returns-clause-together : goal.returns-clause-together
returns-clause-together c =
    record {
      bounds = refl;
      within = omega arith;
      jumps = λ k slot is from to. refl;
      together = inr (
        inr (
          inr (
            inr (
              inr (
                inr (
                  inl (
                    refl,
                    record {
                      sender = 0;
                      place = record { time = 0; round = 0; slot = 0 };
                      inside = omega arith;
                      begins = each _ (refl, refl) (refl, refl) (refl, refl) (refl, refl);
                    },
                  ),
                  goes_on 1 _ _ (each _ refl refl refl refl) (each _ (refl, refl) refl (refl, refl) (refl, refl))
                      (λ k is ends. omega (arith, ends.1)),
                ),
                goes_on 2 _ _ (each _ refl refl refl refl) (each _ (refl, refl) (refl, refl) refl (refl, refl))
                    (λ k is ends. omega (arith, ends.1)),
              ),
              goes_on 3 _ _ (each _ refl refl refl refl) (each _ (refl, refl) (refl, refl) (refl, refl) refl)
                  (λ k is ends. omega (arith, ends.1)),
            ),
            goes_on 0 _ _ (each _ refl refl refl refl) (each _ refl (refl, refl) (refl, refl) (refl, refl))
                (each _ (λ ends. false≢true ends.0) (λ ends. false≢true ends.0) (λ ends. false≢true ends.0)
                (λ ends. false≢true ends.0)),
          ),
          goes_on 1 _ _ (each _ refl refl refl refl) (each _ (refl, refl) refl (refl, refl) (refl, refl))
              (each _ (λ ends. false≢true ends.0) (λ ends. false≢true ends.0) (λ ends. false≢true ends.0)
              (λ ends. false≢true ends.0)),
        ),
        goes_on 2 _ _ (each _ refl refl refl refl) (each _ (refl, refl) (refl, refl) refl (refl, refl))
            (each _ (λ ends. false≢true ends.0) (λ ends. false≢true ends.0) (λ ends. false≢true ends.0)
            (λ ends. false≢true ends.0)),
      );
    }
