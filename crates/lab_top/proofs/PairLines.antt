-- Each line of pairs is one line: its one line feed is its last byte.
use Rattle.std.proofs.Common.{◌≡◌, ℕ, Bool, true, false, cond, List, [], ◌∷◌, ◌++◌, map, length, refl, codes, decimal}
use Rattle.std.specs.Prelude.{filter, flat_map, ◌==◌}
use Rattle.std.proofs.lemmas.List.Folds.{list_any-append}
use Rattle.ttp_base.specs.Text.{newline, is_line}
use Rattle.ttp_base.proofs.Lines.{is_line-append}
use Rattle.ttp_world.specs.declared.medl.Medl.{Medl}
use Rattle.ttp_world.specs.declared.script.Event.{Event}
use Rattle.ttp_world.specs.declared.script.Script.{Script}
use Rattle.ttp_world.proofs.LineLists.{each-append}
use Rattle.campaign.specs.CostText.{test_words, cost_words, fault_words, listed}
use Rattle.campaign.specs.Lines.{summary, fault_slot, fault_node}
use Rattle.campaign.specs.Tried.{with_fault}
use Rattle.ttp_world.specs.ZerosWorld.{zeros_world}
use Rattle.fault_pairs.specs.declared.pair.Harm.{Harm}
use Rattle.fault_pairs.specs.declared.pair.PairClass.{PairClass}
use Rattle.fault_pairs.specs.declared.pair.PairClass.TheVariants as class
use Rattle.fault_pairs.specs.declared.pair.PairCounts.{PairCounts}
use Rattle.fault_pairs.specs.Classes.{harm_of, third_nodes, has_line}
use Rattle.fault_pairs.specs.Pairs.{FirstFault, SecondFault, firsts_from, seconds_of}
use Rattle.fault_pairs.specs.PairText.{class_word, counts_words, pairs_head_line, test_and_cost}
use Rattle.fault_pairs.specs.PairText.{newly_left, pair_place, pair_harms}
use Rattle.fault_pairs.specs.PairText.{pair_faults, pair_line, first_fault_line, pair_counts_line}
use Rattle.fault_pairs.specs.PairText.{apart_line, told_of_pair}
use Rattle.fault_pairs.specs.PairText.{pair_tolds, lines_of_told, first_fault_lines, sum_lines, pairs_lines}
use Rattle.fault_pairs.specs.Sums.{PairTold, pair_counts, told_kept, told_broken, distances}
use Rattle.lab_top.proofs.FromBelow.{HasNone, none-append, none-decimal}
use Rattle.commands.specs.Lines.{AreLines}
use Rattle.lab_top.proofs.CampaignLines.{ended, test-none, cost-none, fault-none, listed-none, own-is_line}

-- Words.

class-none : (k : PairClass) → HasNone (class_word k)
class-none class.Sum = refl
class-none k = refl

module _ (a b c d e f g h : List ℕ) where
  counts-by : HasNone a → HasNone b → HasNone c → HasNone d → HasNone e → HasNone f → HasNone g → HasNone h
      → HasNone (codes "pairs " ++ a ++ codes " sum " ++ b ++ codes " less " ++ c ++ codes " own " ++ d
      ++ codes " divided " ++ e ++ codes " third " ++ f ++ codes " torn " ++ g ++ codes " dead " ++ h)
  counts-by p q r s t u v w = simp (list_any-append (λ x. x == 10), p, q, r, s, t, u, v, w)

counts-none : (counts : PairCounts) → HasNone (counts_words counts)
counts-none counts =
    counts-by (decimal counts.pairs) (decimal counts.sum) (decimal counts.less)
    (decimal counts.own) (decimal counts.divided)
    (decimal counts.third) (decimal counts.torn) (decimal counts.dead)
    (none-decimal counts.pairs) (none-decimal counts.sum)
    (none-decimal counts.less) (none-decimal counts.own) (none-decimal counts.divided) (none-decimal counts.third)
    (none-decimal counts.torn) (none-decimal counts.dead)

run-by : (test cost : List ℕ) → HasNone test → HasNone cost → HasNone (test ++ codes " " ++ cost)
run-by test cost p q = simp (list_any-append (λ x. x == 10), p, q)

run-none : (list : Medl) (script : Script) → HasNone (test_and_cost list (summary list script))
run-none list script =
    run-by (test_words list script) (cost_words list (summary list script).cost) (test-none list script)
    (cost-none list (summary list script).cost)

place-by : (a b c d e : List ℕ) → HasNone a → HasNone b → HasNone c → HasNone d → HasNone e
    → HasNone (codes "pair " ++ a ++ codes " slot " ++ b ++ codes " apart " ++ c
    ++ codes " nodes " ++ d ++ codes " " ++ e)
place-by a b c d e p q r s t = simp (list_any-append (λ x. x == 10), p, q, r, s, t)

place-none : (k : PairClass) (slot apart : ℕ) (one two : Event) → HasNone (pair_place k slot apart one two)
place-none k slot apart one two =
    place-by (class_word k) (decimal slot) (decimal apart) (decimal (fault_node one))
    (decimal (fault_node two)) (class-none k)
    (none-decimal slot) (none-decimal apart) (none-decimal (fault_node one)) (none-decimal (fault_node two))

harms-by : (a b c : List ℕ) → HasNone a → HasNone b → HasNone c
    → HasNone (codes " alone " ++ a ++ codes " " ++ b ++ codes " third " ++ c ++ codes " ")
harms-by a b c p q r = simp (list_any-append (λ x. x == 10), p, q, r)

harms-none : (one two : ℕ) (third : List ℕ) → HasNone (pair_harms one two third)
harms-none one two third =
    harms-by (decimal one) (decimal two) (listed (map decimal third)) (none-decimal one) (none-decimal two)
    (listed-none decimal none-decimal third)

-- Lines.

head-by : (a b c d e : List ℕ) → HasNone a → HasNone b → HasNone c → HasNone d → HasNone e
    → is_line (codes "ttplab pairs 1 nodes " ++ a ++ codes " slots " ++ b ++ codes " from " ++ c ++ codes " to " ++ d
    ++ codes " within " ++ e ++ newline) ≡ true
head-by a b c d e p q r s t =
    ended (codes "ttplab pairs 1 nodes " ++ a ++ codes " slots " ++ b ++ codes " from " ++ c ++ codes " to " ++ d
    ++ codes " within " ++ e) (simp (list_any-append (λ x. x == 10), p, q, r, s, t))

head-is_line : (list : Medl) (script : Script) (first last within : ℕ)
    → is_line (pairs_head_line list script first last within) ≡ true
head-is_line list script first last within =
    head-by (decimal (length list.slots)) (decimal script.slots) (decimal first) (decimal last) (decimal within)
    (none-decimal (length list.slots)) (none-decimal script.slots) (none-decimal first)
    (none-decimal last) (none-decimal within)

faults-by : (a b : List ℕ) → HasNone a → HasNone b
    → is_line (codes " fault " ++ a ++ codes " and " ++ b ++ newline) ≡ true
faults-by a b p q = ended (codes " fault " ++ a ++ codes " and " ++ b) (simp (list_any-append (λ x. x == 10), p, q))

pair-is_line : (list : Medl) (k : PairClass) (one : FirstFault) (two : SecondFault)
    (own first second : Harm) (both : Script)
    → is_line (pair_line list k one two own first second (summary list both)) ≡ true
pair-is_line list k one two own first second both =
    let s = summary list both in
    let third = third_nodes (fault_node one.fault) (fault_node two.fault) (harm_of s.cost) first second in
    let place = pair_place k one.slot two.apart one.fault two.fault in
    let harms = pair_harms (newly_left own first) (newly_left own second) third in
    let run = test_and_cost list s in
    is_line-append (place ++ harms ++ run) (pair_faults one.fault two.fault)
    (none-append (place ++ harms) run
    (none-append place harms (place-none k one.slot two.apart one.fault two.fault)
    (harms-none (newly_left own first) (newly_left own second) third)) (run-none list both))
    (faults-by (fault_words one.fault) (fault_words two.fault) (fault-none one.fault) (fault-none two.fault))

first-by : (slot node run counts words : List ℕ) → HasNone slot → HasNone node
    → HasNone run → HasNone counts → HasNone words
    → is_line ((codes "slot " ++ slot ++ codes " node " ++ node ++ codes " ") ++ run ++ codes " " ++ counts
    ++ codes " fault " ++ words ++ newline) ≡ true
first-by slot node run counts words p q r s t =
    ended ((codes "slot " ++ slot ++ codes " node " ++ node ++ codes " ") ++ run
    ++ codes " " ++ counts ++ codes " fault " ++ words)
    (simp (list_any-append (λ x. x == 10), p, q, r, s, t))

first-is_line : (list : Medl) (one : FirstFault) (more : Script) (counts : PairCounts)
    → is_line (first_fault_line list one (summary list more) counts) ≡ true
first-is_line list one more counts =
    first-by (decimal (fault_slot one.fault)) (decimal (fault_node one.fault)) (test_and_cost list (summary list more))
    (counts_words counts) (fault_words one.fault)
    (none-decimal (fault_slot one.fault)) (none-decimal (fault_node one.fault))
    (run-none list more) (counts-none counts) (fault-none one.fault)

sum-is_line : (name : List ℕ) (counts : PairCounts) → HasNone name → is_line (pair_counts_line name counts) ≡ true
sum-is_line name counts none =
    ended (name ++ counts_words counts) (none-append name (counts_words counts) none (counts-none counts))

apart-by : (d : List ℕ) → HasNone d → HasNone (codes "apart " ++ d ++ codes " ")
apart-by d p = simp (list_any-append (λ x. x == 10), p)

-- All of them.

abbrev IsLine : List ℕ → Type 0
IsLine line = is_line line ≡ true

told-each : (list : Medl) (script : Script) (own : Harm) (one : FirstFault) (first : Harm) (seconds : List SecondFault)
    → AreLines (lines_of_told (map (told_of_pair list script own one first) seconds))
told-each list script own one first [] = tt
told-each list script own one first (two ∷ seconds) =
    by (has_line (told_of_pair list script own one first two).class) (told-each list script own one first seconds)
  where
    others : List PairTold
    others =
        filter (λ (told : PairTold). has_line told.class) (map (told_of_pair list script own one first) seconds)

    by : (b : Bool) → AreLines (map (λ (told : PairTold). told.line) others)
        → AreLines (map (λ (told : PairTold). told.line)
        (cond b (told_of_pair list script own one first two ∷ others) others))
    by true rest = (
      pair-is_line list (told_of_pair list script own one first two).class one two own first
          (harm_of (summary list (with_fault script two.fault)).cost)
          (with_fault (with_fault script one.fault) two.fault),
      rest,
    )
    by false rest = rest

firsts-each : (list : Medl) (script : Script) (within : ℕ) (own : Harm) (firsts : List FirstFault)
    → AreLines (flat_map (first_fault_lines list script within own) firsts)
firsts-each list script within own [] = tt
firsts-each list script within own (one ∷ firsts) =
    each-append IsLine (first_fault_lines list script within own one)
    (flat_map (first_fault_lines list script within own) firsts)
    (each-append IsLine (lines_of_told (pair_tolds list script within own one)) _
    (told-each list script own one
    (harm_of (summary list (with_fault script one.fault)).cost) (seconds_of list script within one))
    (first-is_line list one (with_fault script one.fault) (pair_counts (pair_tolds list script within own one)), tt))
    (firsts-each list script within own firsts)

distances-each : (tolds : List PairTold) (ds : List ℕ) → AreLines (map (apart_line tolds) ds)
distances-each tolds [] = tt
distances-each tolds (d ∷ ds) = (
  sum-is_line (codes "apart " ++ decimal d ++ codes " ") _
      (apart-by (decimal d) (none-decimal d)),
  distances-each tolds ds,
)

sums-each : (script : Script) (within : ℕ) (tolds : List PairTold) → AreLines (sum_lines script within tolds)
sums-each script within tolds =
    each-append IsLine (map (apart_line tolds) (distances script within tolds)) _
    (distances-each tolds (distances script within tolds)) (
      sum-is_line (codes "kept ") (pair_counts (told_kept tolds)) refl,
      (sum-is_line (codes "broken ") (pair_counts (told_broken tolds)) refl, tt),
    )

pub pairs_lines-each : (list : Medl) (script : Script) (first last within : ℕ)
    → AreLines (pairs_lines list script first last within)
pairs_lines-each list script first last within =
    let own = harm_of (summary list script).cost in
    let firsts = firsts_from list script (zeros_world list script script.slots) first last in (
      head-is_line list script first last within,
      (
        own-is_line list script,
        each-append IsLine (flat_map (first_fault_lines list script within own) firsts) _
            (firsts-each list script within own firsts)
            (sums-each script within (flat_map (pair_tolds list script within own) firsts)),
      ),
    )
