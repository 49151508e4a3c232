-- The line of the script's own run.
use Rattle.std.specs.Prelude.{ℕ, List, Option, Some, None, codes, if◌then◌else◌}
use Rattle.std.specs.Str.{bytes_eq}
use Rattle.line_text.specs.Labels.{after_label}
use Rattle.line_reader.specs.Reading.{◌>>=◌}
use Rattle.whole_campaign.specs.declared.own.Frame.{Frame}
use Rattle.whole_campaign.specs.declared.own.OwnLine.{OwnLine}
use Rattle.whole_campaign.specs.declared.shown.Test.{Test}
use Rattle.whole_campaign.specs.Words.{without_feed}
use Rattle.whole_campaign.specs.Runs.{run_words_in, test_in, cost_in}

-- the line without its line feed, the four words of its test, the nine of its cost, and what the test says
pub record OwnShown : Type 0 where
  pub text : List ℕ
  pub test_text : List ℕ
  pub cost : List ℕ
  pub test : Test

-- the line of the script's own run that code found in a text
abbrev pub own_of : OwnLine → OwnShown
own_of own = record { text = own.text.now; test_text = own.test_text.now; cost = own.cost.now; test = own.test }

-- what a line says, without its line feed, in a cluster of so many nodes and in so many slots
unfoldable pub own_in : ℕ → ℕ → List ℕ → Option OwnShown
own_in n slots bytes = do
  rest ← after_label (codes "slot - node -") bytes
  run ← run_words_in rest
  answer ← test_in run.test
  cost ← cost_in n slots run.cost
  let own : OwnShown = record { text = bytes; test_text = run.test; cost = run.cost; test = answer }
  if bytes_eq run.fault (codes "-") then Some own else None

-- what a line says, with its line feed
unfoldable pub own_of_line : ℕ → ℕ → List ℕ → Option OwnShown
own_of_line n slots line = without_feed line >>= own_in n slots

-- what all lines of a campaign have in common: the numbers of nodes and slots, and the line of the script's own run
pub record Common : Type 0 where
  pub nodes : ℕ
  pub slots : ℕ
  pub own : OwnShown

-- the same of what code keeps of a text
abbrev pub common_of : Frame → Common
common_of frame = record { nodes = frame.nodes; slots = frame.slots; own = own_of frame.own }
