-- What the line of a run says between its place and its fault: the test, and what the run cost.
use Rattle.std.specs.Prelude.{ℕ, nat_le, Bool, true, false, ◌&&◌, List, [], ◌∷◌, Option, Some, None, codes}
use Rattle.std.specs.Prelude.{if◌then◌else◌}
use Rattle.line_text.specs.Labels.{after_label}
use Rattle.line_form.specs.Kinds.{number, given}
use Rattle.line_form.specs.Forms.{◌▸◌, LineForm, Values}
use Rattle.line_reader.specs.declared.trace_line.TraceLine.{TraceLine}
use Rattle.line_reader.specs.declared.trace_line.TraceLine.TheVariants as line
use Rattle.line_reader.specs.Reading.{◌>>=◌, line_in}
use Rattle.campaign.specs.Cost.{is_kept, is_owed}
use Rattle.whole_trace.specs.Due.{lies_within, is_keep, is_back}
use Rattle.whole_campaign.specs.declared.cost.CostShown.{CostShown}
use Rattle.whole_campaign.specs.declared.shown.Test.{Test}
use Rattle.whole_campaign.specs.declared.shown.Test.TheVariants as test
use Rattle.whole_campaign.specs.declared.head.CampaignHead.{CampaignHead}
use Rattle.whole_campaign.specs.declared.run_words.RunWords.{RunWords as CutRun}
use Rattle.whole_campaign.specs.Words.{without_feed, line_said, word_behind, words_behind}
use Rattle.whole_campaign.specs.Words.{nodes_listed, sets_listed, split_in}
use Rattle.whole_campaign.specs.declared.listed.Kind.TheVariants as kind

-- The first line of a piece.

-- its words
abbrev pub campaign_form : LineForm
campaign_form =
    codes "ttplab campaign 1 nodes " ▸ number 256 ∷ codes " slots " ▸ number 100000
    ∷ codes " from " ▸ number 1000000000 ∷ codes " to " ▸ number 1000000000 ∷ []

-- what they say
abbrev pub campaign_said : Values campaign_form → CampaignHead
campaign_said (nodes, (slots, (first, (last, end)))) =
    record { nodes = nodes; slots = slots; first = first; last = last }

-- 4 to 24 nodes, 1 to 20000 slots, and a range
abbrev pub is_campaign_head : CampaignHead → Bool
is_campaign_head h = lies_within 4 24 h.nodes && lies_within 1 20000 h.slots && nat_le h.first h.last

-- what a line says, without its line feed, where it is the first one of a piece
unfoldable pub campaign_head_in : List ℕ → Option CampaignHead
campaign_head_in bytes = line_said campaign_form campaign_said bytes >>= λ h. given (is_campaign_head h) h

-- the same of a line with its line feed
unfoldable pub head_of_line : List ℕ → Option CampaignHead
head_of_line line = without_feed line >>= campaign_head_in

-- The words of a run.

-- the four words of the test, the nine of the cost, and the fault
pub record RunWords : Type 0 where
  pub test : List ℕ
  pub cost : List ℕ
  pub fault : List ℕ

-- the same that code cut off a line
abbrev pub run_words_of : CutRun → RunWords
run_words_of run = record { test = run.test.now; cost = run.cost.now; fault = run.fault.now }

-- these words, of what stands behind a place
unfoldable pub run_words_in : List ℕ → Option RunWords
run_words_in bytes = do
  test ← words_behind 4 bytes
  cost ← words_behind 9 test.rest
  fault ← after_label (codes " fault ") cost.rest
  Some (record { test = test.front; cost = cost.front; fault = fault })

-- the answer of a test, by a rule that there is
abbrev pub test_of : TraceLine → Option Test
test_of (line.Keep k) = if is_keep k then Some (test.Keep k) else None
test_of (line.Back b) = if is_back b then Some (test.Back b) else None
test_of _ = None

-- the answer that four words are, which are those of a line at the end of a trace
unfoldable pub test_in : List ℕ → Option Test
test_in words = line_in words >>= test_of

-- whether an answer is yes
abbrev pub test_says_yes : Test → Bool
test_says_yes (test.Keep k) = is_kept k
test_says_yes (test.Back b) = is_owed b

-- whether two answers are of one test, `keeps` or `returns`
abbrev pub is_same_test : Test → Test → Bool
is_same_test (test.Keep j) (test.Keep k) = true
is_same_test (test.Back j) (test.Back k) = true
is_same_test _ _ = false

-- what nine words say that a run cost, in a cluster of so many nodes, in so many slots
unfoldable pub cost_in : ℕ → ℕ → List ℕ → Option CostShown
cost_in n slots words = do
  left ← word_behind 32 (codes "left ") words
  hurt ← word_behind 32 (codes " hurt ") left.rest
  first ← word_behind 32 (codes " split ") hurt.rest
  last ← word_behind 32 (codes " ") first.rest
  end ← after_label (codes " end ") last.rest
  leaving ← nodes_listed (kind.Leaving slots) n left.front
  count ← nodes_listed kind.Hurt n hurt.front
  split ← split_in slots first.front last.front
  sets ← sets_listed n end
  Some (record { hurt = count; split = split; memberships = sets.count; company = sets.company })
