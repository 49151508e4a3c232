-- The lines of the faults of a text that is a campaign, among its lines.
use Rattle.std.proofs.Common.{◌≡◌, ℕ, zero, suc, ◌-◌, Bool, true, false, cond}
use Rattle.std.proofs.Common.{◌&&◌, not, List, [], ◌∷◌, ◌++◌, length, take}
use Rattle.std.proofs.Common.{drop, get_or, map, filter, Option, Some, None, fold, refl, sym, ap, ◌∙◌, codes, bytes_eq}
use Rattle.std.specs.Prelude.{◌==◌, Ok, is_some, nat_le}
use Rattle.std.specs.List.{list_all}
use Rattle.std.proofs.lemmas.Bool.{and_parts}
use Rattle.ttp_base.specs.Text.{Lines, lines_of}
use Rattle.ttp_world.specs.TraceNumbers.{is_digit, append_digit, number_named}
use Rattle.line_text.specs.Labels.{after_label}
use Rattle.line_text.specs.Numerals.{has_leading_zero, numeral_in}
use Rattle.view_laws.proofs.FromBelow.{label-takes, guarded, some_same, bound}
use Rattle.line_reader.specs.TraceLines.{slot_digits}
use Rattle.campaign.specs.CostText.{unended}
use Rattle.campaign.specs.Lines.{counts_line}
use Rattle.whole_campaign.specs.declared.due.Due.{Due}
use Rattle.whole_campaign.specs.declared.due.Due.TheVariants as due
use Rattle.whole_campaign.specs.declared.head.CampaignHead.{CampaignHead}
use Rattle.whole_campaign.specs.declared.shown.FaultShown.{FaultShown}
use Rattle.whole_campaign.specs.declared.shown.Piece.{Piece}
use Rattle.whole_campaign.specs.declared.spot.Spot.{Spot}
use Rattle.line_form.specs.Forms.{Values, spelled as spelled_of}
use Rattle.whole_campaign.specs.Words.{without_feed, line_said, word_behind}
use Rattle.whole_campaign.specs.Runs.{run_words_in, test_in, cost_in, campaign_form, campaign_said}
use Rattle.whole_campaign.specs.Runs.{campaign_head_in, head_of_line}
use Rattle.whole_campaign.specs.Faults.{FaultWords, fault_words_in, fault_line_in}
use Rattle.whole_campaign.specs.Due.{piece_begun, fault_told, is_between_groups, behind_fault}
use Rattle.whole_campaign.specs.Due.{behind_piece, behind_head, due_in_campaign}
use Rattle.whole_campaign.specs.Own.{OwnShown, own_in, own_of_line, Common}
use Rattle.whole_campaign.specs.Whole.{FaultTold, WholeCampaign, wrong_behind, wrong_line, told_at, faults_told, onto}
use Rattle.whole_campaign.specs.Whole.{items_behind, campaign_from, behind_own, behind_first, whole_of, campaign_in}
use Rattle.view_laws.specs.Titles.{texts_of_lines}
use Rattle.view_laws.specs.Marks.{is_fault_line}
use Rattle.view_laws.proofs.PlainLines.{said-takes, word-cut}
use Rattle.view_laws.proofs.ReadLines.{fed-is, told_of_line, right-behind}
use Rattle.view_laws.proofs.CampaignsRead.{or-drawn}
use Rattle.ttp_world.proofs.SmallTests.{spelled}

-- A numeral begins with a digit.

digits-first : (word rest : List ℕ) → (list_all is_digit word && not (length word == 0)) ≡ true
    → is_digit (get_or (word ++ rest) 0 0) ≡ true
digits-first [] rest e = cc
digits-first (c ∷ word) rest e =
    let tests = and_parts (list_all is_digit (c ∷ word)) (not (length (c ∷ word) == 0)) e in
    (and_parts (is_digit c) (list_all is_digit word) tests.0).0

numeral-first : (most : ℕ) (word rest : List ℕ) (n : ℕ) → numeral_in most word ≡ Some n
    → is_digit (get_or (word ++ rest) 0 0) ≡ true
unfolding numeral_in
numeral-first most word rest n e =
    let named = guarded (nat_le (length word) most && not (has_leading_zero word)) (number_named word) n e in
    let tests = guarded (list_all is_digit word && not (length word == 0))
    (Some (fold append_digit 0 word)) n named.1 in
    digits-first word rest tests.0

-- The line of a fault, and other lines.

slot-fault : (rest : List ℕ) → is_digit (get_or rest 0 0) ≡ true → is_fault_line (codes "slot " ++ rest) ≡ true
slot-fault rest e = e

words-fault : (bytes : List ℕ) (words : FaultWords) → fault_words_in bytes ≡ Some words → is_fault_line bytes ≡ true
unfolding fault_words_in
words-fault bytes words e =
    let s = bound (word_behind 32 (codes "slot ") bytes) _ words e in
    let k = bound (word_behind 32 (codes " node ") s.value.rest) _ words s.gives in
    let run = bound (run_words_in k.value.rest) _ words k.gives in
    let slot = bound (numeral_in slot_digits s.value.front) _ words run.gives in
    ap is_fault_line (word-cut 32 (codes "slot ") bytes s.value s.read)
    ∙ slot-fault (s.value.front ++ s.value.rest)
    (numeral-first slot_digits s.value.front s.value.rest slot.value slot.read)

line-fault : (frame : Common) (piece : Piece) (before : Option Spot) (bytes : List ℕ) (f : FaultShown)
    → fault_line_in frame piece before bytes ≡ Some f → is_fault_line bytes ≡ true
unfolding fault_line_in
line-fault frame piece before bytes f e =
    let words = bound (fault_words_in bytes) _ f e in words-fault bytes words.value words.read

told-fault : (frame : Common) (piece : Piece) (before : Option Spot) (line : List ℕ) (f : FaultShown)
    → fault_told frame (due.Fault piece before) line ≡ Some f → is_fault_line (unended line) ≡ true
unfolding fault_told
told-fault frame piece before line f e =
    let bytes = bound (without_feed line) (fault_line_in frame piece before) f e in
    ap is_fault_line (fed-is line bytes.value bytes.read) ∙ line-fault frame piece before bytes.value f bytes.gives

-- a line that begins with another byte
no-fault : (n b : ℕ) (rest : List ℕ) → (115 == b) ≡ false → is_fault_line (take n (b ∷ rest)) ≡ false
no-fault zero b rest other = refl
no-fault (suc n) b rest other = rw other refl

kept-other : (line : List ℕ) (piece : Piece) → bytes_eq line (counts_line (codes "kept ") piece.kept) ≡ true
    → is_fault_line (unended line) ≡ false
kept-other line piece same =
    let counts = counts_line (codes "kept ") piece.kept in
    ap (λ (l : List ℕ). is_fault_line (unended l)) (spelled line counts same)
    ∙ no-fault (length counts - 1) 107 (drop 1 counts) refl

broken-other : (line : List ℕ) (piece : Piece) → bytes_eq line (counts_line (codes "broken ") piece.broken) ≡ true
    → is_fault_line (unended line) ≡ false
broken-other line piece same =
    let counts = counts_line (codes "broken ") piece.broken in
    ap (λ (l : List ℕ). is_fault_line (unended l)) (spelled line counts same)
    ∙ no-fault (length counts - 1) 98 (drop 1 counts) refl

head-text : (vs : Values campaign_form) → is_fault_line (spelled_of campaign_form vs) ≡ false
head-text (nodes, (slots, (first, (last, end)))) = refl

head-other : (bytes : List ℕ) (h : CampaignHead) → campaign_head_in bytes ≡ Some h → is_fault_line bytes ≡ false
unfolding campaign_head_in
head-other bytes h e =
    let b = bound (line_said campaign_form campaign_said bytes) _ h e in
    let line = said-takes campaign_form campaign_said bytes b.value b.read in
    ap is_fault_line line.text ∙ head-text line.values

head_line-other : (line : List ℕ) (h : CampaignHead) → head_of_line line ≡ Some h → is_fault_line (unended line) ≡ false
unfolding head_of_line
head_line-other line h e =
    let bytes = bound (without_feed line) campaign_head_in h e in
    ap is_fault_line (fed-is line bytes.value bytes.read) ∙ head-other bytes.value h bytes.gives

own-other : (n slots : ℕ) (bytes : List ℕ) (own : OwnShown) → own_in n slots bytes ≡ Some own
    → (is_fault_line bytes ≡ false) × (bytes ≡ own.text)
unfolding own_in
own-other n slots bytes own e =
    let rest = bound (after_label (codes "slot - node -") bytes) _ own e in
    let run = bound (run_words_in rest.value) _ own rest.gives in
    let t = bound (test_in run.value.test) _ own run.gives in
    let cost = bound (cost_in n slots run.value.cost) _ own t.gives in
    let g = guarded (bytes_eq run.value.fault (codes "-")) _ own cost.gives in (
      ap is_fault_line (label-takes (codes "slot - node -") bytes rest.value rest.read),
      ap (λ (o : OwnShown). o.text) (some_same _ own g.1),
    )

own_line-other : (n slots : ℕ) (line : List ℕ) (own : OwnShown) → own_of_line n slots line ≡ Some own
    → (is_fault_line (unended line) ≡ false) × (is_fault_line own.text ≡ false)
unfolding own_of_line
own_line-other n slots line own e =
    let bytes = bound (without_feed line) (own_in n slots) own e in
    let known = own-other n slots bytes.value own bytes.gives in (
      ap is_fault_line (fed-is line bytes.value bytes.read) ∙ known.0,
      ap is_fault_line (sym known.1) ∙ known.0,
    )

-- A line that is due.

fault-marked : (frame : Common) (piece : Piece) (before : Option Spot)
    (line : List ℕ) (next : Due) (o : Option FaultShown)
    → fault_told frame (due.Fault piece before) line ≡ o → behind_fault piece before line o ≡ Some next
    → is_fault_line (unended line) ≡ is_some (told_of_line line o)
fault-marked frame piece before line next (Some f) read e = told-fault frame piece before line f read
fault-marked frame piece before line next None read e =
    let g = guarded (is_between_groups before && bytes_eq line (counts_line (codes "kept ") piece.kept))
    (Some (due.Broken piece)) next e in
    kept-other line piece (and_parts (is_between_groups before)
    (bytes_eq line (counts_line (codes "kept ") piece.kept)) g.0).1

piece-marked : (frame : Common) (last : ℕ) (line : List ℕ) (next : Due) → behind_piece frame last line ≡ Some next
    → is_fault_line (unended line) ≡ false
unfolding behind_piece
piece-marked frame last line next e =
    let h = bound (head_of_line line) _ next e in head_line-other line h.value h.read

own-marked : (frame : Common) (first last : ℕ) (line : List ℕ) (next : Due) → is_fault_line frame.own.text ≡ false
    → behind_head frame first last line ≡ Some next → is_fault_line (unended line) ≡ false
unfolding behind_head
own-marked frame first last line next other e =
    let bytes = bound (without_feed line) _ next e in
    let g = guarded (bytes_eq bytes.value frame.own.text) (Some (piece_begun first last)) next bytes.gives in
    ap is_fault_line (fed-is line bytes.value bytes.read ∙ spelled bytes.value frame.own.text g.0) ∙ other

marked : (frame : Common) (d : Due) (line : List ℕ) (next : Due) → is_fault_line frame.own.text ≡ false
    → due_in_campaign frame d line ≡ Some next → is_fault_line (unended line) ≡ is_some (told_at frame d line)
unfolding due_in_campaign fault_told
marked frame (due.Fault piece before) line next other e =
    fault-marked frame piece before line next (fault_told frame (due.Fault piece before) line) refl e
marked frame (due.Broken piece) line next other e =
    broken-other line piece
    (guarded (bytes_eq line (counts_line (codes "broken ") piece.broken)) (Some (due.Piece piece.last)) next e).0
marked frame (due.Piece last) line next other e = piece-marked frame last line next e
marked frame (due.Own first last) line next other e = own-marked frame first last line next other e

-- All lines.

abbrev text_of_fault : FaultTold → List ℕ
text_of_fault f = f.text

onto-told : (line : List ℕ) (o : Option FaultShown) (faults : List FaultTold)
    → map text_of_fault (onto (told_of_line line o) faults)
    ≡ cond (is_some (told_of_line line o)) (unended line ∷ map text_of_fault faults) (map text_of_fault faults)
onto-told line None faults = refl
onto-told line (Some f) faults = refl

onto-texts : (frame : Common) (d : Due) (line : List ℕ) (faults : List FaultTold)
    → map text_of_fault (onto (told_at frame d line) faults)
    ≡ cond (is_some (told_at frame d line)) (unended line ∷ map text_of_fault faults) (map text_of_fault faults)
onto-texts frame d line faults = onto-told line (fault_told frame d line) faults

lines-marked : (frame : Common) (d : Due) (lines : Lines) → is_fault_line frame.own.text ≡ false
    → wrong_line frame d lines ≡ None
    → map text_of_fault (faults_told frame d lines) ≡ filter is_fault_line (map unended lines)
lines-marked frame d [] other right = refl
lines-marked frame d (line ∷ lines) other right =
    go (due_in_campaign frame d line) refl right (λ next. lines-marked frame next lines other)
  where
    go : (o : Option Due) → due_in_campaign frame d line ≡ o
        → wrong_behind (λ next. wrong_line frame next lines) o ≡ None
        → ((next : Due) → wrong_line frame next lines ≡ None
        → map text_of_fault (faults_told frame next lines) ≡ filter is_fault_line (map unended lines))
        → map text_of_fault (onto (told_at frame d line) (items_behind (λ next. faults_told frame next lines) o))
        ≡ cond (is_fault_line (unended line)) (unended line ∷ filter is_fault_line (map unended lines))
        (filter is_fault_line (map unended lines))
    go None is right others = cc
    go (Some next) is right others =
        let rest = others next (right-behind (λ n. wrong_line frame n lines) next right) in
        onto-texts frame d line (faults_told frame next lines)
        ∙ (λ i. cond (sym (marked frame d line next other is) i) (unended line ∷ rest i) (rest i))

-- The whole.

own-lines : (h : CampaignHead) (lines : Lines) (campaign : WholeCampaign) (line : List ℕ) (o : Option OwnShown)
    → own_of_line h.nodes h.slots line ≡ o → behind_own h lines o ≡ Ok campaign
    → map text_of_fault campaign.faults ≡ filter is_fault_line (map unended (line ∷ lines))
own-lines h lines campaign line None read e = cc
own-lines h lines campaign line (Some own) read e =
    let frame : Common = record { nodes = h.nodes; slots = h.slots; own = own } in
    let begun = piece_begun h.first h.last in
    let both = or-drawn (campaign_from frame begun lines) campaign (wrong_line frame begun lines) e in
    let other = own_line-other h.nodes h.slots line own read in
    ap (λ (c : WholeCampaign). map text_of_fault c.faults) (sym both.1)
    ∙ lines-marked frame begun lines other.1 both.0
    ∙ ap (λ (b : Bool). cond b (unended line ∷ filter is_fault_line (map unended lines))
    (filter is_fault_line (map unended lines))) (sym other.0)

first-lines : (lines : Lines) (campaign : WholeCampaign) (line : List ℕ)
    (o : Option CampaignHead) → head_of_line line ≡ o
    → behind_first lines o ≡ Ok campaign
    → map text_of_fault campaign.faults ≡ filter is_fault_line (map unended (line ∷ lines))
first-lines lines campaign line None read e = cc
first-lines [] campaign line (Some h) read e = cc
first-lines (own ∷ lines) campaign line (Some h) read e =
    own-lines h lines campaign own (own_of_line h.nodes h.slots own) refl e
    ∙ ap (λ (b : Bool). cond b (unended line ∷ filter is_fault_line (map unended (own ∷ lines)))
    (filter is_fault_line (map unended (own ∷ lines)))) (sym (head_line-other line h read))

whole-lines : (lines : Lines) (campaign : WholeCampaign) → whole_of lines ≡ Ok campaign
    → map text_of_fault campaign.faults ≡ filter is_fault_line (map unended lines)
whole-lines [] campaign e = cc
whole-lines (line ∷ lines) campaign e = first-lines lines campaign line (head_of_line line) refl e

pub fault-lines : (text : List ℕ) (campaign : WholeCampaign) → campaign_in text ≡ Ok campaign
    → map (λ f. f.text) campaign.faults ≡ filter is_fault_line (texts_of_lines text)
fault-lines text campaign is = whole-lines (lines_of text) campaign is
