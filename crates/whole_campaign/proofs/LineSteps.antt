-- Steps over the lines of a campaign.
use Rattle.std.proofs.Common.{◌≡◌, ℕ, ◌+◌, ◌<◌, List, [], ◌∷◌, ◌++◌, length, get_or}
use Rattle.std.proofs.Common.{drop, Option, Some, None, option_map, ap, sym, ◌∙◌}
use Rattle.std.proofs.Common.{arith, length-append}
use Rattle.std.specs.List.{concat}
use Rattle.ttp_base.specs.Text.{Lines, lines_of}
use Rattle.line_form.specs.Forms.{LineForm, Values, closed_line}
use Rattle.whole_campaign.proofs.FromBelow.{ReadAs, map_closed, concat-lines_of, Bound, bound, cut-front}
use Rattle.whole_campaign.specs.declared.due.Due.{Due}
use Rattle.whole_campaign.specs.declared.head.CampaignHead.{CampaignHead}
use Rattle.whole_campaign.specs.Own.{Common, OwnShown, own_in, own_of_line}
use Rattle.whole_campaign.specs.Runs.{campaign_head_in, head_of_line}
use Rattle.whole_campaign.specs.Words.{without_feed, line_said}
use Rattle.whole_campaign.specs.Due.{due_in_campaign}
use Rattle.whole_campaign.specs.Whole.{wrong_behind, wrong_line}

-- what a reader made of the values of a line is what they say
pub closes_said : {A : Type 0} (form : LineForm) (said : Values form → A) (bytes : List ℕ) (left : Option (List ℕ))
    (vs : Values form) (result : Option A) → result ≡ closed_line left (said vs) → ReadAs form (Some bytes) left vs
    → result ≡ line_said form said bytes
unfolding line_said
closes_said form said bytes left vs result is read =
    is ∙ sym (map_closed said left vs) ∙ (λ i. option_map said (closed_line (read.left_is i) (read.values_are i)))

-- a line that is cut off the front of a text has some bytes
pub line_has_bytes : (text line rest : List ℕ) → lines_of text ≡ line ∷ lines_of rest → 0 < length line
line_has_bytes text [] rest cut =
    let same : text ≡ rest = sym (concat-lines_of text) ∙ ap concat cut ∙ concat-lines_of rest in
    let longer : lines_of rest ≡ [] ∷ lines_of rest = sym (ap lines_of same) ∙ cut in
    absurd (omega (arith, ap length longer))
line_has_bytes text (b ∷ line) rest cut = omega arith

pub rest_is_shorter : (text line rest : List ℕ) → lines_of text ≡ line ∷ lines_of rest → length rest < length text
rest_is_shorter text line rest cut =
    let whole : text ≡ line ++ rest =
    sym (concat-lines_of text) ∙ ap concat cut ∙ ap (λ (bytes : List ℕ). line ++ bytes) (concat-lines_of rest) in
    omega (arith, ap length whole, length-append line rest, line_has_bytes text line rest cut)

pub wrong_here : (frame : Common) (d : Due) (text line : List ℕ) (others : Lines) → lines_of text ≡ line ∷ others
    → due_in_campaign frame d line ≡ None → wrong_line frame d (lines_of text) ≡ Some 1
wrong_here frame d text line others cut wrong =
    ap (wrong_line frame d) cut ∙ ap (wrong_behind (λ next. wrong_line frame next others)) wrong

-- Many lines later.

abbrev pub lines_further : ℕ → Option ℕ → Option ℕ
lines_further n None = None
lines_further n (Some line) = Some (n + line)

-- The first two lines.

some-length : (text line : List ℕ) → get_or (lines_of text) 0 [] ≡ line → 0 < length line → 0 < length text
some-length [] line first some = absurd (omega (arith, ap length first, some))
some-length (b ∷ text) line first some = omega arith

feed-bytes : (line bytes : List ℕ) → without_feed line ≡ Some bytes → 0 < length line
unfolding without_feed
feed-bytes [] bytes is = cc
feed-bytes (b ∷ line) bytes is = omega arith

-- a text whose first line has a line feed is that line and the others
pub ended_line : (text line rest bytes : List ℕ) → get_or (lines_of text) 0 [] ≡ line
    → drop 1 (lines_of text) ≡ lines_of rest
    → without_feed line ≡ Some bytes → lines_of text ≡ line ∷ lines_of rest
ended_line text line rest bytes first others is =
    cut-front text line rest first others (some-length text line first (feed-bytes line bytes is))

pub head_ended : (line : List ℕ) (h : CampaignHead) → head_of_line line ≡ Some h
    → Bound (without_feed line) campaign_head_in h
unfolding head_of_line
head_ended line h is = bound (without_feed line) campaign_head_in h is

pub own_ended : (n t : ℕ) (line : List ℕ) (own : OwnShown) → own_of_line n t line ≡ Some own
    → Bound (without_feed line) (own_in n t) own
unfolding own_of_line
own_ended n t line own is = bound (without_feed line) (own_in n t) own is
