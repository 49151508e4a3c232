-- The lines of a campaign are read: the head, the script's own line, and the line of each fault.
use Rattle.lab_laws.proofs.Words.{◌≡◌, ℕ, ◌^◌, ◌<◌, ◌≤◌, Bool, true, false, List, [], ◌∷◌, ◌++◌, length, Option}
use Rattle.lab_laws.proofs.Words.{Some, refl, sym, ap, ◌∙◌, arith, codes, decimal, subst, ◌==◌}
use Rattle.lab_laws.proofs.Words.{◌>>=◌, le-leb, lt-ltb, list_any-append, newline, has, has-decimal, Medl, Event}
use Rattle.lab_laws.proofs.Words.{Script, IsValid, has_arm, IsValidScript, nodes-most, label-again}
use Rattle.lab_laws.proofs.Words.{numeral-again, slot_digits, unended, cost_words, fault_words, Summary, summary}
use Rattle.lab_laws.proofs.Words.{own_line, fault_slot, fault_node, head_line, zeros_world, CampaignHead, Doing}
use Rattle.lab_laws.proofs.Words.{FaultShown, Piece, Spot, node_digits, RunWords, run_words_in, is_same_test}
use Rattle.lab_laws.proofs.Words.{cost_in, campaign_head_in, doing_in, place_behind, fault_words_in, is_spot_due}
use Rattle.lab_laws.proofs.Words.{fault_line_in, own_in, Common, HasSlots, test_said_if, test_said}
use Rattle.std.proofs.Common.{bytes_eq}
use Rattle.std.proofs.lemmas.List.{append-nil}
use Rattle.ttp_base.proofs.Gathered.{gathered, gather-behind}
use Rattle.ttp_world.specs.declared.keep.Back.{Back}
use Rattle.ttp_world.specs.declared.keep.Back.TheVariants as back
use Rattle.ttp_world.specs.declared.keep.Keep.{Keep}
use Rattle.ttp_world.specs.declared.keep.Keep.TheVariants as keep
use Rattle.ttp_world.specs.Hypothesis.{keeps}
use Rattle.ttp_world.specs.Returning.{returns}
use Rattle.line_form.specs.Kinds.{given}
use Rattle.line_form.specs.Forms.{Values, spelled, fit}
use Rattle.line_text.specs.Labels.{after_label}
use Rattle.line_reader.specs.declared.trace_line.TraceLine.TheVariants as line
use Rattle.line_reader.specs.Reading.{line_in}
use Rattle.line_reader.specs.TraceLines.{keep_text, back_text}
use Rattle.lab_laws.proofs.FromBelow.{keep-value, back-value, line-again, no_feed, spelled-gathered}
use Rattle.whole_trace.specs.Due.{is_keep, is_back}
use Rattle.campaign.specs.Cost.{says_yes_if}
use Rattle.campaign.specs.CostText.{test_words_if}
use Rattle.campaign.specs.Lines.{fault_line}
use Rattle.ttp_world.proofs.ZerosWorlds.{length-zeros_world}
use Rattle.whole_campaign.specs.declared.cost.CostShown.{CostShown}
use Rattle.whole_campaign.specs.declared.shown.Test.{Test}
use Rattle.whole_campaign.specs.declared.shown.Test.TheVariants as test
use Rattle.whole_campaign.specs.Runs.{test_in, test_says_yes}
use Rattle.whole_campaign.specs.Runs.{campaign_form, campaign_said, is_campaign_head}
use Rattle.whole_campaign.specs.Faults.{FaultWords}
use Rattle.whole_campaign.specs.Faults.{spot_in, shown_at}
use Rattle.lab_laws.proofs.TestBounds.{keeps-fits, returns-fits}
use Rattle.lab_laws.proofs.WordsCut.{said-again, IsOfWords, feed-again, word-behind, one-word, more-words, run-again}
use Rattle.lab_laws.proofs.CostsRead.{IsCostIn, cost-words, cost-again, cost-no_feed}
use Rattle.lab_laws.proofs.CostsOfRuns.{cost-in}
use Rattle.lab_laws.proofs.FaultsRead.{spot_at}

-- The head.

-- a line, its text, and that this has no line feed
pub record IsEnded (line text : List ℕ) : Type 0 where
  pub ends : line ≡ text ++ newline
  pub feed : has 10 text ≡ false

abbrev head_values : Medl → Script → ℕ → ℕ → Values campaign_form
head_values list script first last = (length list.slots, (script.slots, (first, (last, tt))))

abbrev pub head_text : Medl → Script → ℕ → ℕ → List ℕ
head_text list script first last = spelled campaign_form (head_values list script first last)

module _ (list : Medl) (script : Script) (first last : ℕ) (valid : IsValid list)
    (valid_script : IsValidScript list script) (order : first ≤ last) (digits : last < 10 ^ 9) where
  head-fits : fit campaign_form (head_values list script first last) ≡ true
  head-fits =
      rw (
        lt-ltb (length list.slots) 256 (omega (arith, nodes-most list valid)),
        lt-ltb script.slots 100000 (omega (arith, valid_script.slots)),
        lt-ltb first 1000000000 (omega (arith, order, digits)),
        lt-ltb last 1000000000 (omega (arith, digits)),
      ) refl

  pub head-ended : IsEnded (head_line list script first last) (head_text list script first last)
  head-ended =
      let vs = head_values list script first last in record {
        ends = ap (λ (w : List ℕ). w ++ newline) (sym (spelled-gathered campaign_form vs));
        feed = no_feed campaign_form vs refl head-fits;
      }

  pub head-again : campaign_head_in (head_text list script first last)
      ≡ Some (record { nodes = length list.slots; slots = script.slots; first = first; last = last })
  unfolding campaign_head_in
  head-again =
      let vs = head_values list script first last in
      let is : is_campaign_head (campaign_said vs) ≡ true =
      rw (
        le-leb 4 (length list.slots) valid.count.0,
        le-leb (length list.slots) 24 (nodes-most list valid),
        le-leb 1 script.slots valid_script.slots.0,
        le-leb script.slots 20000 valid_script.slots.1,
        le-leb first last order,
      ) refl in
      ap (λ (o : Option CampaignHead). o >>= λ h. given (is_campaign_head h) h)
      (said-again campaign_form campaign_said vs refl head-fits)
      ∙ ap (λ (b : Bool). given b (campaign_said vs)) is

-- The test.

-- what a test's four words say
record IsTestRead (text : List ℕ) (t : Test) : Type 0 where
  said : test_in text ≡ Some t
  words : IsOfWords 4 text
  feed : has 10 text ≡ false

-- a numeral has neither a space nor a line feed
bare : (n : ℕ) → (has 32 (decimal n) ≡ false) × (has 10 (decimal n) ≡ false)
bare n = (has-decimal 32 n (omega arith), has-decimal 10 n (omega arith))

yes-words : (word : List ℕ) (start : ℕ) → has 32 word ≡ false
    → IsOfWords 4 (word ++ (codes " yes start " ++ decimal start))
yes-words word start none =
    more-words 2 word (codes "yes start " ++ decimal start) none
    (more-words 1 (codes "yes") (codes "start " ++ decimal start) refl
    (more-words 0 (codes "start") (decimal start) refl (one-word (decimal start) (bare start).0)))

no-words : (word : List ℕ) (letter rule slot : ℕ) → has 32 word ≡ false → (letter == 32) ≡ false
    → IsOfWords 4 (word ++ (codes " no " ++ ((letter ∷ decimal rule) ++ (codes " " ++ decimal slot))))
no-words word letter rule slot none other =
    more-words 2 word (codes "no " ++ ((letter ∷ decimal rule) ++ (codes " " ++ decimal slot))) none
    (more-words 1 (codes "no") ((letter ∷ decimal rule) ++ (codes " " ++ decimal slot)) refl
    (more-words 0 (letter ∷ decimal rule) (decimal slot) (rw other (bare rule).0)
    (one-word (decimal slot) (bare slot).0)))

no-bare : (label rule slot : List ℕ) → has 10 label ≡ false → has 10 rule ≡ false → has 10 slot ≡ false
    → has 10 (label ++ rule ++ codes " " ++ slot) ≡ false
no-bare label rule slot p q r = simp (list_any-append (λ c. c == 10), p, q, r)

keep-words : (k : Keep) → IsOfWords 4 (keep_text k)
keep-words (keep.Yes start) = yes-words (codes "keeps") start refl
keep-words (keep.No rule slot) =
    subst (IsOfWords 4) (sym (gathered (codes "keeps no H") (decimal rule ∷ codes " " ∷ decimal slot ∷ [])
    ∙ ap (λ (w : List ℕ). codes "keeps no H" ++ (decimal rule ++ (codes " " ++ w))) (append-nil (decimal slot))))
    (no-words (codes "keeps") 72 rule slot refl refl)

keep-feed : (k : Keep) → has 10 (keep_text k) ≡ false
keep-feed (keep.Yes start) = (bare start).1
keep-feed (keep.No rule slot) =
    no-bare (codes "keeps no H") (decimal rule) (decimal slot) refl (bare rule).1 (bare slot).1

back-words : (b : Back) → IsOfWords 4 (back_text b)
back-words (back.Yes start) = yes-words (codes "returns") start refl
back-words (back.No rule slot) =
    subst (IsOfWords 4) (sym (gathered (codes "returns no Q") (decimal rule ∷ codes " " ∷ decimal slot ∷ [])
    ∙ ap (λ (w : List ℕ). codes "returns no Q" ++ (decimal rule ++ (codes " " ++ w))) (append-nil (decimal slot))))
    (no-words (codes "returns") 81 rule slot refl refl)

back-feed : (b : Back) → has 10 (back_text b) ≡ false
back-feed (back.Yes start) = (bare start).1
back-feed (back.No rule slot) =
    no-bare (codes "returns no Q") (decimal rule) (decimal slot) refl (bare rule).1 (bare slot).1

keep-said : (k : Keep) → is_keep k ≡ true → line_in (keep_text k) ≡ Some (line.Keep k)
    → test_in (keep_text k) ≡ Some (test.Keep k)
unfolding test_in
keep-said k is read = rw (read, is) refl

back-said : (b : Back) → is_back b ≡ true → line_in (back_text b) ≡ Some (line.Back b)
    → test_in (back_text b) ≡ Some (test.Back b)
unfolding test_in
back-said b is read = rw (read, is) refl

test-if : (list : Medl) (script : Script) (arms : Bool) → IsValid list → HasSlots list script
    → IsTestRead (test_words_if list script arms) (test_said_if list script arms)
test-if list script true valid slots =
    let b = returns list script in
    let fits = returns-fits list script valid slots in
    subst (λ words. IsTestRead words (test.Back b))
    (sym (ap unended (back-value b) ∙ (feed-again (back_text b)).1)) (record {
      said = back-said b fits.is (line-again (line.Back b) fits.fits);
      words = back-words b;
      feed = back-feed b;
    })
test-if list script false valid slots =
    let k = keeps list script in
    let fits = keeps-fits list script valid slots in
    subst (λ words. IsTestRead words (test.Keep k))
    (sym (ap unended (keep-value k) ∙ (feed-again (keep_text k)).1)) (record {
      said = keep-said k fits.is (line-again (line.Keep k) fits.fits);
      words = keep-words k;
      feed = keep-feed k;
    })

test-yes : (list : Medl) (script : Script) (arms : Bool)
    → test_says_yes (test_said_if list script arms) ≡ says_yes_if list script arms
test-yes list script true = refl
test-yes list script false = refl

-- Runs.

-- the words of a run's line between its place and its fault
pub record IsRunRead (list : Medl) (script : Script) (s : Summary) (t : Test) : Type 0 where
  pub said : test_in s.test ≡ Some t
  pub test_words : IsOfWords 4 s.test
  pub test_feed : has 10 s.test ≡ false
  pub yes : test_says_yes t ≡ s.yes
  pub cost : IsCostIn list (length list.slots) script.slots s.cost

pub run-read : (list : Medl) (script : Script) → IsValid list → HasSlots list script
    → IsRunRead list script (summary list script) (test_said list script)
run-read list script valid slots =
    let told = test-if list script (has_arm script) valid slots in
    let history = zeros_world list script script.slots in
    record {
      said = told.said;
      test_words = told.words;
      test_feed = told.feed;
      yes = test-yes list script (has_arm script);
      cost = cost-in list script history script.slots valid slots.slots.1 (length-zeros_world list script script.slots);
    }

-- The script's own line.

abbrev pub own_text : Medl → Summary → List ℕ
own_text list s =
    codes "slot - node - " ++ (s.test ++ (codes " " ++ (cost_words list s.cost ++ (codes " fault " ++ codes "-"))))

run-bare : (front test cost fault : List ℕ) → has 10 front ≡ false → has 10 test ≡ false → has 10 cost ≡ false
    → has 10 fault ≡ false
    → has 10 (front ++ (test ++ (codes " " ++ (cost ++ (codes " fault " ++ fault))))) ≡ false
run-bare front test cost fault p q r s = simp (list_any-append (λ c. c == 10), p, q, r, s)

pub own-ended : (list : Medl) (script : Script) (s : Summary) (t : Test) → IsRunRead list script s t
    → IsEnded (own_line list s) (own_text list s)
own-ended list script s t read = record {
  ends = ap (λ (w : List ℕ). codes "slot - node - " ++ w ++ newline)
      (gathered s.test (codes " " ∷ cost_words list s.cost ∷ codes " fault " ∷ codes "-" ∷ []));
  feed = run-bare (codes "slot - node - ") s.test (cost_words list s.cost) (codes "-") refl read.test_feed
      (cost-no_feed list s.cost) refl;
}

own-in-read : (n slots : ℕ) (text rest : List ℕ) (run : RunWords) (t : Test) (cost : CostShown)
    → text ≡ codes "slot - node -" ++ rest → run_words_in rest ≡ Some run → test_in run.test ≡ Some t
    → cost_in n slots run.cost ≡ Some cost → run.fault ≡ codes "-"
    → own_in n slots text ≡ Some (record { text = text; test_text = run.test; cost = run.cost; test = t })
unfolding own_in
own-in-read n slots text rest run t cost is words said costs none =
    let begins : after_label (codes "slot - node -") text ≡ Some rest =
    ap (after_label (codes "slot - node -")) is ∙ label-again (codes "slot - node -") rest in
    rw (begins, words, said, costs, none) refl

pub own-again : (list : Medl) (script : Script) (s : Summary) (t : Test)
    → script.slots ≤ 20000 → IsRunRead list script s t
    → own_in (length list.slots) script.slots (own_text list s)
    ≡ Some (record { text = own_text list s; test_text = s.test; cost = cost_words list s.cost; test = t })
own-again list script s t few read =
    own-in-read (length list.slots) script.slots (own_text list s)
    (codes " " ++ (s.test ++ (codes " " ++ (cost_words list s.cost ++ (codes " fault " ++ codes "-")))))
    (record { test = s.test; cost = cost_words list s.cost; fault = codes "-" }) t _ refl
    (run-again s.test (cost_words list s.cost) (codes "-") read.test_words (cost-words list s.cost)) read.said
    (cost-again list (length list.slots) script.slots s.cost few read.cost) refl

-- The line of a fault.

abbrev pub fault_text : Medl → Event → Summary → List ℕ
fault_text list fault s =
    codes "slot " ++ (decimal (fault_slot fault) ++ (codes " node " ++ (decimal (fault_node fault) ++ (codes " "
    ++ (s.test ++ (codes " " ++ (cost_words list s.cost ++ (codes " fault " ++ fault_words fault))))))))

place-bare : (slot node rest : List ℕ) → has 10 slot ≡ false → has 10 node ≡ false → has 10 rest ≡ false
    → has 10 (codes "slot " ++ (slot ++ (codes " node " ++ (node ++ rest)))) ≡ false
place-bare slot node rest p q r = simp (list_any-append (λ c. c == 10), p, q, r)

pub fault-ended : (list : Medl) (script : Script) (fault : Event) (s : Summary) (t : Test) → IsRunRead list script s t
    → has 10 (fault_words fault) ≡ false → IsEnded (fault_line list fault s) (fault_text list fault s)
fault-ended list script fault s t read none = record {
  ends =
      ap (λ (w : List ℕ). w ++ fault_words fault ++ newline)
      (gather-behind (codes "slot " ++ decimal (fault_slot fault) ++ codes " node " ++ decimal (fault_node fault)
      ++ codes " ") (s.test ∷ codes " " ∷ cost_words list s.cost ∷ codes " fault " ∷ []))
      ∙ ap (λ (w : List ℕ). w ++ newline)
      (gathered [] (codes "slot " ∷ decimal (fault_slot fault) ∷ codes " node " ∷ decimal (fault_node fault) ∷ codes " "
      ∷ s.test ∷ codes " " ∷ cost_words list s.cost ∷ codes " fault " ∷ fault_words fault ∷ [])
      ∙ ap (λ (w : List ℕ). codes "slot " ++ (decimal (fault_slot fault) ++ (codes " node "
      ++ (decimal (fault_node fault) ++ (codes " " ++ (s.test ++ (codes " " ++ (cost_words list s.cost
      ++ (codes " fault " ++ w))))))))) (append-nil (fault_words fault)));
  feed = place-bare (decimal (fault_slot fault)) (decimal (fault_node fault))
      (codes " " ++ (s.test ++ (codes " " ++ (cost_words list s.cost ++ (codes " fault " ++ fault_words fault)))))
      (bare (fault_slot fault)).1 (bare (fault_node fault)).1
      (run-bare (codes " ") s.test (cost_words list s.cost) (fault_words fault) refl read.test_feed
      (cost-no_feed list s.cost) none);
}

pub fault-words-read : (slot node : ℕ) (rest : List ℕ) (run : RunWords) → slot < 100000 → node < 100
    → run_words_in (codes " " ++ rest) ≡ Some run
    → fault_words_in (codes "slot " ++ (decimal slot ++ (codes " node " ++ (decimal node ++ (codes " " ++ rest)))))
    ≡ Some (record { slot = slot; node = node; run = run })
unfolding fault_words_in
fault-words-read slot node rest run small few words =
    rw (
      word-behind 32 (codes "slot ") (decimal slot)
          (codes "node " ++ (decimal node ++ (codes " " ++ rest))) (bare slot).0,
      word-behind 32 (codes " node ") (decimal node) rest (bare node).0,
      words,
      numeral-again slot_digits slot (omega arith) (omega arith) (omega (arith, small)),
      numeral-again node_digits node (omega arith) (omega arith) (omega (arith, few)),
    ) refl

-- where the spot is due, and all is read
pub in-read : (frame : Common) (piece : Piece) (before : Option Spot) (text : List ℕ) (words : FaultWords) (s : Spot)
    (shown : FaultShown) → fault_words_in text ≡ Some words → spot_in before words ≡ Some s
    → shown_at frame s words.run ≡ Some shown → is_spot_due frame piece before s words.run.fault ≡ true
    → fault_line_in frame piece before text ≡ Some shown
unfolding fault_line_in
in-read frame piece before text words s shown read at tells due = rw (read, at, tells, due) refl

pub spot-read : (before : Option Spot) (slot node place : ℕ) (d : Doing) (run : RunWords) → doing_in run.fault ≡ Some d
    → place_behind before d ≡ place
    → spot_in before (record { slot = slot; node = node; run = run }) ≡ Some (spot_at slot node d place)
unfolding spot_in
spot-read before slot node place d run first is = rw (first, is) refl

pub shown-read : (frame : Common) (s : Spot) (run : RunWords) (t : Test) (cost : CostShown) → test_in run.test ≡ Some t
    → cost_in frame.nodes frame.slots run.cost ≡ Some cost → is_same_test frame.own.test t ≡ true
    → shown_at frame s run
    ≡ Some (record {
      slot = s.slot;
      node = s.node;
      doing = s.doing;
      place = s.place;
      yes = test_says_yes t;
      same = bytes_eq run.cost frame.own.cost;
      hurt = cost.hurt;
      split = cost.split;
      memberships = cost.memberships;
      company = cost.company;
    })
unfolding shown_at
shown-read frame s run t cost said costs same = rw (said, costs, same) refl
