-- A line whose test says yes tells of nobody hurt and of no split.
use Rattle.std.proofs.Common.{◌≡◌, ℕ, ◌<◌, Bool, true, false, ◌||◌, List, [], ◌∷◌, ◌++◌, map, length, get_or}
use Rattle.std.proofs.Common.{codes, decimal, refl, ap, sym, ◌∙◌, append_assoc, arith}
use Rattle.std.specs.Prelude.{All, ◌==◌, is_some}
use Rattle.std.proofs.lemmas.Bool.{false≢true}
use Rattle.std.proofs.lemmas.Fmt.{decimal_digit}
use Rattle.std.proofs.lemmas.List.Elements.{All-nil, All-cons, All-head, All-tail, All-append}
use Rattle.std.proofs.lemmas.List.Folds.{list_any-append}
use Rattle.ttp_base.specs.Text.{newline, gather}
use Rattle.ttp_base.proofs.Gathered.{gather-behind}
use Rattle.ttp_base.proofs.Numerals.{has}
use Rattle.ttp_world.specs.declared.medl.Medl.{Medl}
use Rattle.ttp_world.specs.declared.script.Event.{Event}
use Rattle.ttp_world.specs.declared.script.Script.{Script}
use Rattle.ttp_world.specs.declared.script.TheConstants.{EVENT_LIMIT}
use Rattle.ttp_world.specs.Medl.{IsValid}
use Rattle.ttp_world.specs.Script.{IsValidScript}
use Rattle.single_faults.specs.Tried.{MayStand}
use Rattle.campaign_laws.proofs.FromBelow.{faults_from-stand, with_fault-valid}
use Rattle.campaign.specs.declared.cost.Cost.{Cost}
use Rattle.campaign.specs.declared.cost.Counts.{Counts}
use Rattle.campaign.specs.Cost.{says_yes}
use Rattle.campaign.specs.CostText.{test_words, listed, leave_word, span_words, members_word, cost_words, fault_words}
use Rattle.campaign.specs.Lines.{summary, summary_with, has_hurt, head_line, own_line}
use Rattle.campaign.specs.Lines.{fault_line, run_line, counts_line}
use Rattle.campaign.specs.Lines.{place_words, kept_counts, broken_counts, lines_with, campaign_lines}
use Rattle.campaign.specs.Tried.{with_fault, faults_from}
use Rattle.ttp_world.specs.ZerosWorld.{zeros_world}
use Rattle.campaign_laws.specs.SafeLines.{StandIn, IsSafeLine}
use Rattle.campaign_laws.proofs.Kept.{unharmed-unhurt, unharmed-unsplit, none-counted}
use Rattle.campaign_laws.proofs.NoYes.{Yless, test-yless, cost-yless, fault-yless}
use Rattle.campaign_laws.proofs.NoYes.{place-yless, head-yless, counts-yless}
use Rattle.campaign_laws.proofs.Yes.{IsUnharmed, yes-line}

-- where there is no y, there is no yes

found : (text rest : List ℕ) → has 121 (text ++ codes " yes start " ++ rest) ≡ true
found [] rest = refl
found (b ∷ text) rest = go (b == 121) (found text rest)
  where
    go : (it : Bool) → has 121 (text ++ codes " yes start " ++ rest) ≡ true
        → (it || has 121 (text ++ codes " yes start " ++ rest)) ≡ true
    go true is = refl
    go false is = is

no_yes : (line : List ℕ) → Yless line → StandIn (codes " yes start ") line → ⊥
no_yes line none stand = false≢true (sym none ∙ ap (has 121) stand.whole ∙ found stand.front stand.rest)

-- a line that begins with another letter is not that of kept runs
not_kept : (line : List ℕ) (b : ℕ) → get_or line 0 0 ≡ b → (b ≡ 107 → ⊥)
    → (rest : List ℕ) → line ≡ codes "kept " ++ rest
    → ⊥
not_kept line b first other rest is = other (sym first ∙ ap (λ (text : List ℕ). get_or text 0 0) is)

silent : (line : List ℕ) (b : ℕ) → get_or line 0 0 ≡ b → (b ≡ 107 → ⊥) → Yless line → IsSafeLine line
silent line b first other none = record {
  yes = λ stand. absurd (no_yes line none stand);
  kept = λ rest is. absurd (not_kept line b first other rest is);
}

-- The line of a run.

unharmed-stands : (list : Medl) (cost : Cost) (before test tail : List ℕ) → IsUnharmed cost
    → StandIn (codes " hurt - split - - end ")
    (before ++ (test ++ codes " " ++ cost_words list cost ++ codes " fault ") ++ tail ++ newline)
unharmed-stands list cost before test tail unharmed =
    let left = listed (map leave_word cost.left) in
    let end = listed (map (members_word list) cost.end) in
    record {
      front = before ++ test ++ codes " " ++ codes "left " ++ left;
      rest = end ++ codes " fault " ++ tail ++ newline;
      whole =
          (λ i. before ++ (test ++ codes " " ++ (codes "left " ++ left
          ++ codes " hurt " ++ listed (map decimal (unharmed.hurt i))
          ++ codes " split " ++ span_words (unharmed.split i) ++ codes " end " ++ end) ++ codes " fault ") ++ tail
          ++ newline)
          ∙ simp append_assoc;
    }

told-by : (before test cost tail : List ℕ) → Yless before → Yless test → Yless cost → Yless tail
    → Yless (before ++ (test ++ codes " " ++ cost ++ codes " fault ") ++ tail ++ newline)
told-by before test cost tail p q r s = simp (list_any-append (λ c. c == 121), p, q, r, s)

module _ (list : Medl) (valid : IsValid list) where
  -- by what its test says
  run-yes : (script : Script) (before tail : List ℕ) → IsValidScript list script → Yless before → Yless tail
      → StandIn (codes " yes start ")
      (before ++ (test_words list script ++ codes " " ++ cost_words list (summary list script).cost ++ codes " fault ")
      ++ tail ++ newline)
      → StandIn (codes " hurt - split - - end ")
      (before ++ (test_words list script ++ codes " " ++ cost_words list (summary list script).cost ++ codes " fault ")
      ++ tail ++ newline)
  run-yes script before tail script_valid p q stand = by (says_yes list script) refl
    where
      by : (b : Bool) → says_yes list script ≡ b
          → StandIn (codes " hurt - split - - end ")
          (before ++ (test_words list script ++ codes " "
          ++ cost_words list (summary list script).cost ++ codes " fault ")
          ++ tail ++ newline)
      by true says =
          unharmed-stands list (summary list script).cost before (test_words list script) tail
          (yes-line list script valid script_valid says)
      by false unsaid =
          absurd (no_yes _ (told-by before (test_words list script) (cost_words list (summary list script).cost) tail p
          (test-yless list script unsaid) (cost-yless list (summary list script).cost) q) stand)

  own-safe : (script : Script) → IsValidScript list script → IsSafeLine (own_line list (summary list script))
  own-safe script script_valid = record {
    yes = run-yes script (codes "slot - node - ") (codes "-") script_valid refl refl;
    kept = λ rest is. absurd (not_kept _ 115 refl (λ same. omega (arith, same)) rest is);
  }

  fault-safe : (more : Script) (e : Event) → IsValidScript list more
      → IsSafeLine (fault_line list e (summary list more))
  fault-safe more e script_valid = record {
    yes = run-yes more (place_words e) (fault_words e) script_valid (place-yless e) (fault-yless e);
    kept = λ rest is. absurd (not_kept _ 115 refl (λ same. omega (arith, same)) rest is);
  }

  module _ (script : Script) (script_valid : IsValidScript list script)
      (room : length script.events < EVENT_LIMIT) where
    runs-safe : (faults : List Event) → All (MayStand list script) faults
        → All IsSafeLine (map (run_line list script) faults)
    runs-safe [] stand = All-nil IsSafeLine
    runs-safe (e ∷ faults) stand =
        All-cons IsSafeLine (run_line list script e) (map (run_line list script) faults)
        (fault-safe (with_fault script e) e
        (with_fault-valid list script e script_valid (All-head (MayStand list script) e faults stand) room))
        (runs-safe faults (All-tail (MayStand list script) e faults stand))

    -- The line of counts.

    zero-word : (n : ℕ) → n ≡ 0 → decimal n ≡ codes "0"
    zero-word n none = ap decimal none ∙ decimal_digit 0 (omega arith)

    kept-stands : (counts : Counts) → counts.hurt ≡ 0 → counts.split ≡ 0
        → StandIn (codes " hurt 0 split 0 torn ") (counts_line (codes "kept ") counts)
    kept-stands counts hurt split =
        let no_hurt = zero-word counts.hurt hurt in
        let no_split = zero-word counts.split split in
        let begun = codes "kept " ++ decimal counts.runs ++ codes " same " ++ decimal counts.same in
        let others = decimal counts.torn ∷ codes " dead " ∷ decimal counts.dead ∷ newline ∷ [] in
        record {
          front = begun;
          rest = decimal counts.torn ++ codes " dead " ++ decimal counts.dead ++ newline;
          whole =
              (λ i. codes "kept " ++ decimal counts.runs ++ codes " same " ++ decimal counts.same
              ++ codes " hurt " ++ no_hurt i ++ codes " split " ++ no_split i
              ++ codes " torn " ++ decimal counts.torn ++ codes " dead " ++ decimal counts.dead ++ newline)
              ∙ ap (λ (l : List ℕ). gather l others)
              (sym (gather-behind begun (codes " hurt " ∷ codes "0" ∷ codes " split " ∷ codes "0" ∷ codes " torn "
              ∷ [])))
              ∙ sym (gather-behind (begun ++ codes " hurt 0 split 0 torn ") others);
        }

    kept-safe : (own : Cost) (faults : List Event) → All (MayStand list script) faults
        → IsSafeLine (counts_line (codes "kept ") (kept_counts list own (map (summary_with list script) faults)))
    kept-safe own faults stand =
        let counts = kept_counts list own (map (summary_with list script) faults) in
        record {
          yes = λ yes. absurd (no_yes _ (counts-yless (codes "kept ") counts refl) yes);
          kept = λ rest is.
              kept-stands counts
              (none-counted list script valid script_valid room has_hurt unharmed-unhurt faults stand)
              (none-counted list script valid script_valid room
              (λ cost. is_some cost.split) unharmed-unsplit faults stand);
        }

    broken-safe : (counts : Counts) → IsSafeLine (counts_line (codes "broken ") counts)
    broken-safe counts =
        silent (counts_line (codes "broken ") counts) 98 refl (λ same. omega (arith, same))
        (counts-yless (codes "broken ") counts refl)

    -- All of them.

    with-safe : (first last : ℕ) (faults : List Event) → All (MayStand list script) faults
        → All IsSafeLine (lines_with list script first last (summary list script) faults)
    with-safe first last faults stand =
        let own = summary list script in
        let told = map (summary_with list script) faults in
        let head = head_line list script first last in
        let runs = map (run_line list script) faults in
        let kept = counts_line (codes "kept ") (kept_counts list own.cost told) in
        let counts = broken_counts list own.cost told in
        let broken = counts_line (codes "broken ") counts in
        All-cons IsSafeLine head (own_line list own ∷ runs ++ kept ∷ broken ∷ [])
        (silent head 116 refl (λ same. omega (arith, same)) (head-yless list script first last))
        (All-cons IsSafeLine (own_line list own) (runs ++ kept ∷ broken ∷ []) (own-safe script script_valid)
        (All-append IsSafeLine runs (kept ∷ broken ∷ []) (runs-safe faults stand)
        (All-cons IsSafeLine kept (broken ∷ []) (kept-safe own.cost faults stand)
        (All-cons IsSafeLine broken [] (broken-safe counts) (All-nil IsSafeLine)))))

    pub campaign_lines-safe : (first last : ℕ) → All IsSafeLine (campaign_lines list script first last)
    campaign_lines-safe first last =
        with-safe first last (faults_from list script (zeros_world list script script.slots) first last)
        (faults_from-stand list script (zeros_world list script script.slots) first last valid)
