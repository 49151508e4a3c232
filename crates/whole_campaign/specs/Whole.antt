-- A campaign as a whole: the line of the script's own run, the pieces with their counts, and the faults.
use Rattle.std.specs.Prelude.{ℕ, ◌+◌, List, [], ◌∷◌, Option, Some, None, option_map}
use Rattle.std.specs.Prelude.{Result, Ok, Err, if◌then◌else◌}
use Rattle.ttp_base.specs.Text.{Lines, lines_of}
use Rattle.campaign.specs.CostText.{unended}
use Rattle.whole_campaign.specs.declared.due.Due.{Due}
use Rattle.whole_campaign.specs.declared.due.Due.TheVariants as due
use Rattle.whole_campaign.specs.declared.head.CampaignHead.{CampaignHead}
use Rattle.whole_campaign.specs.declared.shown.FaultShown.{FaultShown}
use Rattle.whole_campaign.specs.declared.shown.Piece.{Piece}
use Rattle.whole_campaign.specs.Runs.{head_of_line}
use Rattle.whole_campaign.specs.Due.{piece_begun, fault_told, due_in_campaign, may_end}
use Rattle.whole_campaign.specs.Own.{OwnShown, Common, own_of_line}

-- The first line that is not due.

-- the same line, counted from one line before
abbrev pub one_further : Option ℕ → Option ℕ
one_further wrong = option_map (λ n. n + 1) wrong

-- the wrong line where this is due behind a line, if that is due itself
abbrev pub wrong_behind : (Due → Option ℕ) → Option Due → Option ℕ
wrong_behind others None = Some 1
wrong_behind others (Some d) = one_further (others d)

-- the first of some lines that is not due or is missing, counted from 1, if there is one
abbrev pub wrong_line : Common → Due → Lines → Option ℕ
wrong_line frame d [] = if may_end d then None else Some 1
wrong_line frame d (line ∷ lines) = wrong_behind (λ next. wrong_line frame next lines) (due_in_campaign frame d line)

-- The faults.

-- a line of a fault without its line feed, and what it says
pub record FaultTold : Type 0 where
  pub shown : FaultShown
  pub text : List ℕ

-- what is told behind a line, where that is due
abbrev pub items_behind : {A : Type 0} → (Due → List A) → Option Due → List A
items_behind others None = []
items_behind others (Some d) = others d

-- an item, if there is one, before others
abbrev pub onto : {A : Type 0} → Option A → List A → List A
onto None items = items
onto (Some item) items = item ∷ items

-- the fault that a line tells, with its text
abbrev pub told_at : Common → Due → List ℕ → Option FaultTold
told_at frame d line = option_map (λ f. record { shown = f; text = unended line }) (fault_told frame d line)

-- the faults that some lines tell, which are due
abbrev pub faults_told : Common → Due → Lines → List FaultTold
faults_told frame d [] = []
faults_told frame d (line ∷ lines) =
    onto (told_at frame d line) (items_behind (λ next. faults_told frame next lines) (due_in_campaign frame d line))

-- The pieces.

-- the piece that ends with a line which is due
abbrev pub piece_ended : Due → Option Piece
piece_ended (due.Broken piece) = Some piece
piece_ended _ = None

-- the pieces that end in some lines, which are due
abbrev pub pieces_from : Common → Due → Lines → List Piece
pieces_from frame d [] = []
pieces_from frame d (line ∷ lines) =
    onto (piece_ended d) (items_behind (λ next. pieces_from frame next lines) (due_in_campaign frame d line))

-- The whole.

-- the script's own run, the ranges and counts of the pieces, and all faults, each in the order of the text
pub record WholeCampaign : Type 0 where
  pub nodes : ℕ
  pub slots : ℕ
  pub own : OwnShown
  pub pieces : List Piece
  pub faults : List FaultTold

-- what lines tell behind the first two
abbrev pub campaign_from : Common → Due → Lines → WholeCampaign
campaign_from frame d lines = record {
  nodes = frame.nodes;
  slots = frame.slots;
  own = frame.own;
  pieces = pieces_from frame d lines;
  faults = faults_told frame d lines;
}

-- a campaign, or a line of it that is wrong
abbrev pub or_wrong : WholeCampaign → Option ℕ → Result WholeCampaign ℕ
or_wrong whole None = Ok whole
or_wrong whole (Some line) = Err line

-- behind the second line, which says this if it is the line of a script's own run
abbrev pub behind_own : CampaignHead → Lines → Option OwnShown → Result WholeCampaign ℕ
behind_own h lines None = Err 2
behind_own h lines (Some own) =
    let frame : Common = record { nodes = h.nodes; slots = h.slots; own = own } in
    let begun = piece_begun h.first h.last in
    or_wrong (campaign_from frame begun lines) (one_further (one_further (wrong_line frame begun lines)))

-- behind the first line, which says this if it is the first line of a piece
abbrev pub behind_first : Lines → Option CampaignHead → Result WholeCampaign ℕ
behind_first lines None = Err 1
behind_first [] (Some h) = Err 2
behind_first (line ∷ lines) (Some h) = behind_own h lines (own_of_line h.nodes h.slots line)

-- of all lines of a text
abbrev pub whole_of : Lines → Result WholeCampaign ℕ
whole_of [] = Err 1
whole_of (line ∷ lines) = behind_first lines (head_of_line line)

-- the campaign that a text is, or the first of its lines that is not due or is missing, counted from 1
abbrev pub campaign_in : List ℕ → Result WholeCampaign ℕ
campaign_in text = whole_of (lines_of text)
