-- A campaign of four nodes without faults, of which a line is another or is missing.
use Rattle.std.specs.Prelude.{ℕ, List, ◌++◌, Option, Some, None, codes, Result, Ok, Err}
use Rattle.ttp_base.specs.Text.{newline}
use Rattle.whole_campaign.specs.Whole.{WholeCampaign, campaign_in}
use Rattle.lab_rows.specs.SmallCampaign.{own_text}

-- which line of a text is the first that is not due, if there is one
abbrev pub line_of : Result WholeCampaign ℕ → Option ℕ
line_of (Ok campaign) = None
line_of (Err line) = Some line

abbrev pub wrong_in : List ℕ → Option ℕ
wrong_in text = line_of (campaign_in text)

-- its lines
abbrev pub bare_head : List ℕ
bare_head = codes "ttplab campaign 1 nodes 4 slots 30 from 8 to 9\n"

abbrev pub bare_own : List ℕ
bare_own = own_text ++ newline

abbrev pub bare_kept : List ℕ
bare_kept = codes "kept 0 same 0 hurt 0 split 0 torn 0 dead 0\n"

abbrev pub bare_broken : List ℕ
bare_broken = codes "broken 0 same 0 hurt 0 split 0 torn 0 dead 0\n"

-- with another first line, or another line of the script's own run
abbrev pub with_head : List ℕ → List ℕ
with_head head = head ++ bare_own ++ bare_kept ++ bare_broken

abbrev pub with_own : List ℕ → List ℕ
with_own own = bare_head ++ own ++ bare_kept ++ bare_broken

-- two pieces, of which the second has this first line and this one of the script's own run
abbrev pub with_piece : List ℕ → List ℕ → List ℕ
with_piece head own = with_own bare_own ++ head ++ own ++ bare_kept ++ bare_broken
