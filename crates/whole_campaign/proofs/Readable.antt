-- What every campaign that was read keeps: its faults stand by their slots, and what is counted fits its words.
use Rattle.std.proofs.Common.{◌≡◌, ℕ, ◌+◌, ◌^◌, ◌<◌, ◌≤◌, Bool, true, false, List, []}
use Rattle.std.proofs.Common.{◌∷◌, length, map, Option, Some, None, refl, sym, ap}
use Rattle.std.proofs.Common.{◌∙◌, subst, arith, nat_le, nat_lt, Result, Ok, Err, cond}
use Rattle.std.specs.Prelude.{◌&&◌, ◌==◌, not, IfSome, IfOk, codes, option_map, sum_by}
use Rattle.std.specs.Str.{bytes_eq}
use Rattle.std.proofs.lemmas.List.Sums.{sum_by-cons}
use Rattle.std.proofs.lemmas.Bool.{le-leb, lt-ltb, ltb-true, leb-true}
use Rattle.ttp_base.specs.Text.{Lines, lines_of, is_newline, newline, before_lines}
use Rattle.whole_campaign.proofs.FromBelow.{bound, guarded, some_same}
use Rattle.campaign.specs.declared.cost.Counts.{Counts}
use Rattle.campaign.specs.CostText.{unended}
use Rattle.campaign.specs.Lines.{counts_line}
use Rattle.whole_campaign.specs.declared.due.Due.{Due}
use Rattle.whole_campaign.specs.declared.due.Due.TheVariants as due
use Rattle.whole_campaign.specs.declared.head.CampaignHead.{CampaignHead}
use Rattle.whole_campaign.specs.declared.shown.FaultShown.{FaultShown}
use Rattle.whole_campaign.specs.declared.shown.Piece.{Piece}
use Rattle.whole_campaign.specs.declared.spot.Spot.{Spot}
use Rattle.whole_campaign.specs.Due.{no_runs, with_run, with_run_if, with_fault_counted}
use Rattle.whole_campaign.specs.Due.{piece_begun, spot_of, fault_told}
use Rattle.whole_campaign.specs.Due.{is_between_groups, behind_fault, behind_kept}
use Rattle.whole_campaign.specs.Due.{is_later_head, behind_piece, behind_head}
use Rattle.whole_campaign.specs.Due.{due_in_campaign}
use Rattle.whole_campaign.specs.Faults.{stands_behind, lies_in, is_spot_due, is_fault_of}
use Rattle.whole_campaign.specs.Faults.{fault_words_in, spot_in, shown_at}
use Rattle.whole_campaign.specs.Faults.{fault_line_in}
use Rattle.whole_campaign.specs.Own.{Common, OwnShown, own_of_line}
use Rattle.whole_campaign.specs.Runs.{RunWords, campaign_form, campaign_said, head_of_line, campaign_head_in}
use Rattle.whole_campaign.specs.Runs.{is_campaign_head, test_in, cost_in, is_same_test}
use Rattle.whole_campaign.specs.Whole.{FaultTold, WholeCampaign, one_further, wrong_line, items_behind, onto, told_at}
use Rattle.whole_campaign.specs.Whole.{faults_told, piece_ended, pieces_from, campaign_from}
use Rattle.whole_campaign.specs.Whole.{or_wrong, behind_own, behind_first}
use Rattle.whole_campaign.specs.Whole.{whole_of, campaign_in}
use Rattle.whole_campaign.specs.Words.{without_feed, line_said}
use Rattle.whole_campaign.proofs.Rooms.{one-small}
use Rattle.whole_campaign.specs.Readable.{counts_together, counts_sum, counts_fit, in_order_from, IsReadable}

-- The slot of a fault that is due.

-- the slot of the fault before, or the first one of the piece
abbrev low : Piece → Option Spot → ℕ
low piece None = piece.first
low piece (Some s) = s.slot

shown-slot : (frame : Common) (s : Spot) (run : RunWords) (f : FaultShown)
    → shown_at frame s run ≡ Some f → f.slot ≡ s.slot
unfolding shown_at
shown-slot frame s run f e =
    let answer = bound (test_in run.test) _ f e in
    let cost = bound (cost_in frame.nodes frame.slots run.cost) _ f answer.gives in
    let g = guarded (is_same_test frame.own.test answer.value) _ f cost.gives in
    sym (ap (λ (x : FaultShown). x.slot) (some_same _ f g.1))

behind-slot : (piece : Piece) (before : Option Spot) (s : Spot) → nat_le piece.first s.slot ≡ true
    → stands_behind before s ≡ true → low piece before ≤ s.slot
behind-slot piece None s first stands = leb-true piece.first s.slot first
behind-slot piece (Some before) s first stands = grind (arith, stands)

spot-bounds : (frame : Common) (piece : Piece) (before : Option Spot) (s : Spot) (fault : List ℕ)
    → is_spot_due frame piece before s fault ≡ true → (low piece before ≤ s.slot) × (s.slot ≤ piece.last)
spot-bounds frame piece before s fault is =
    let parts : (nat_le piece.first s.slot ≡ true) × (nat_le s.slot piece.last ≡ true)
    × (stands_behind before s ≡ true) = grind (arith, is) in
    (behind-slot piece before s parts.0 parts.2, leb-true s.slot piece.last parts.1)

fault-bounds : (frame : Common) (piece : Piece) (before : Option Spot) (bytes : List ℕ) (f : FaultShown)
    → fault_line_in frame piece before bytes ≡ Some f → (low piece before ≤ f.slot) × (f.slot ≤ piece.last)
unfolding fault_line_in
fault-bounds frame piece before bytes f e =
    let words = bound (fault_words_in bytes) _ f e in
    let s = bound (spot_in before words.value) _ f words.gives in
    let shown = bound (shown_at frame s.value words.value.run) _ f s.gives in
    let g = guarded (is_spot_due frame piece before s.value words.value.run.fault) (Some shown.value) f shown.gives in
    let b = spot-bounds frame piece before s.value words.value.run.fault g.0 in
    let slot : f.slot ≡ s.value.slot =
    sym (ap (λ (x : FaultShown). x.slot) (some_same shown.value f g.1))
    ∙ shown-slot frame s.value words.value.run shown.value shown.read in
    (omega (arith, b.0, slot), omega (arith, b.1, slot))

told-bounds : (frame : Common) (piece : Piece) (before : Option Spot) (line : List ℕ) (found : Option FaultShown)
    → fault_told frame (due.Fault piece before) line ≡ found
    → IfSome found (λ f. (low piece before ≤ f.slot) × (f.slot ≤ piece.last))
unfolding fault_told
told-bounds frame piece before line None e = tt
told-bounds frame piece before line (Some f) e =
    let b = bound (without_feed line) (fault_line_in frame piece before) f e in
    fault-bounds frame piece before b.value f b.gives

-- Order.

-- no fault that is told behind this is of a slot before slot n
abbrev IsBehind : ℕ → Due → Type 0
IsBehind n (due.Fault piece before) = (n ≤ low piece before) × (low piece before ≤ piece.last)
IsBehind n (due.Broken piece) = n ≤ piece.last
IsBehind n (due.Piece last) = n ≤ last
IsBehind n (due.Own first last) = (n ≤ first) × (first ≤ last)

abbrev IsNextBehind : ℕ → Option Due → Type 0
IsNextBehind n None = Unit {0}
IsNextBehind n (Some d) = IsBehind n d

abbrev Moves : ℕ → Option FaultTold → Option Due → Type 0
Moves n None next = IsNextBehind n next
Moves n (Some t) next = (n ≤ t.shown.slot) × IsNextBehind t.shown.slot next

next-if : (n : ℕ) (b : Bool) (d : Due) → (b ≡ true → IsBehind n d) → IsNextBehind n (cond b (Some d) None)
next-if n true d is = is refl
next-if n false d is = tt

abbrev told_of : List ℕ → FaultShown → FaultTold
told_of line f = record { shown = f; text = unended line }

fault-moves : (n : ℕ) (piece : Piece) (before : Option Spot) (line : List ℕ) (found : Option FaultShown)
    → IsBehind n (due.Fault piece before) → IfSome found (λ f. (low piece before ≤ f.slot) × (f.slot ≤ piece.last))
    → Moves n (option_map (told_of line) found) (behind_fault piece before line found)
fault-moves n piece before line (Some f) is bounds =
    (omega (arith, is.0, bounds.0), (omega arith, bounds.1))
fault-moves n piece before line None is bounds =
    next-if n (is_between_groups before && bytes_eq line (counts_line (codes "kept ") piece.kept)) (due.Broken piece)
    (λ so. omega (arith, is.0, is.1))

head-ordered : (bytes : List ℕ) (h : CampaignHead) → campaign_head_in bytes ≡ Some h → h.first ≤ h.last
unfolding campaign_head_in
head-ordered bytes h e =
    let b = bound (line_said campaign_form campaign_said bytes) _ h e in
    let g = guarded (is_campaign_head b.value) (Some b.value) h b.gives in
    let ordered : nat_le b.value.first b.value.last ≡ true = grind (arith, g.0) in
    subst (λ (x : CampaignHead). x.first ≤ x.last) (some_same b.value h g.1)
    (leb-true b.value.first b.value.last ordered)

line-ordered : (line : List ℕ) (h : CampaignHead) → head_of_line line ≡ Some h → h.first ≤ h.last
unfolding head_of_line
line-ordered line h e =
    let b = bound (without_feed line) campaign_head_in h e in
    head-ordered b.value h b.gives

kept-moves : (n : ℕ) (piece : Piece) (line : List ℕ) → n ≤ piece.last → IsNextBehind n (behind_kept piece line)
kept-moves n piece line is =
    next-if n (bytes_eq line (counts_line (codes "broken ") piece.broken)) (due.Piece piece.last) (λ so. is)

piece-moves : (n : ℕ) (frame : Common) (last : ℕ) (line : List ℕ) (next : Option Due) → n ≤ last
    → behind_piece frame last line ≡ next → IsNextBehind n next
unfolding behind_piece
piece-moves n frame last line None is e = tt
piece-moves n frame last line (Some d) is e =
    let b = bound (head_of_line line) _ d e in
    let g = guarded (is_later_head frame last b.value) (Some (due.Own b.value.first b.value.last)) d b.gives in
    let later : nat_lt last b.value.first ≡ true = grind (arith, g.0) in
    subst (λ (x : Due). IsBehind n x) (some_same (due.Own b.value.first b.value.last) d g.1)
    (omega (arith, is, ltb-true last b.value.first later), line-ordered line b.value b.read)

head-moves : (n : ℕ) (frame : Common) (first last : ℕ) (line : List ℕ) (next : Option Due) → n ≤ first → first ≤ last
    → behind_head frame first last line ≡ next → IsNextBehind n next
unfolding behind_head
head-moves n frame first last line None low ordered e = tt
head-moves n frame first last line (Some d) low ordered e =
    let b = bound (without_feed line) _ d e in
    let g = guarded (bytes_eq b.value frame.own.text) (Some (piece_begun first last)) d b.gives in
    subst (λ (x : Due). IsBehind n x) (some_same (piece_begun first last) d g.1) (low, ordered)

moves : (n : ℕ) (frame : Common) (d : Due) (line : List ℕ) → IsBehind n d
    → Moves n (told_at frame d line) (due_in_campaign frame d line)
unfolding due_in_campaign fault_told
moves n frame (due.Fault piece before) line is =
    fault-moves n piece before line (fault_told frame (due.Fault piece before) line) is
    (told-bounds frame piece before line (fault_told frame (due.Fault piece before) line) refl)
moves n frame (due.Broken piece) line is = kept-moves n piece line is
moves n frame (due.Piece last) line is = piece-moves n frame last line (behind_piece frame last line) is refl
moves n frame (due.Own first last) line is =
    head-moves n frame first last line (behind_head frame first last line) is.0 is.1 refl

-- the faults of some lines, which stand by their slots
abbrev InOrder : Common → Lines → Type 0
InOrder frame lines = (n : ℕ) (d : Due) → IsBehind n d → in_order_from n (faults_told frame d lines) ≡ true

rest-order : (frame : Common) (lines : Lines) (n : ℕ) (next : Option Due) → InOrder frame lines → IsNextBehind n next
    → in_order_from n (items_behind (λ d. faults_told frame d lines) next) ≡ true
rest-order frame lines n None others is = refl
rest-order frame lines n (Some d) others is = others n d is

line-order : (frame : Common) (lines : Lines) (n : ℕ) (told : Option FaultTold) (next : Option Due)
    → InOrder frame lines → Moves n told next
    → in_order_from n (onto told (items_behind (λ d. faults_told frame d lines) next)) ≡ true
line-order frame lines n None next others is = rest-order frame lines n next others is
line-order frame lines n (Some t) next others is =
    rw (le-leb n t.shown.slot is.0, rest-order frame lines t.shown.slot next others is.1) refl

in-order : (frame : Common) (lines : Lines) → InOrder frame lines
in-order frame [] n d is = refl
in-order frame (line ∷ lines) n d is =
    line-order frame lines n (told_at frame d line) (due_in_campaign frame d line) (in-order frame lines)
    (moves n frame d line is)

-- How many there are.

onto-length : {A : Type 0} (item : Option A) (items : List A) → length (onto item items) ≤ length items + 1
onto-length None items = omega arith
onto-length (Some item) items = omega arith

few-behind : (frame : Common) (lines : Lines) (next : Option Due)
    → ((d : Due) → length (faults_told frame d lines) ≤ length lines)
    → length (items_behind (λ d. faults_told frame d lines) next) ≤ length lines
few-behind frame lines None few = omega arith
few-behind frame lines (Some d) few = few d

few-faults : (frame : Common) (lines : Lines) (d : Due) → length (faults_told frame d lines) ≤ length lines
few-faults frame [] d = omega arith
few-faults frame (line ∷ lines) d =
    omega (
      arith,
      few-behind frame lines (due_in_campaign frame d line) (few-faults frame lines),
      onto-length (told_at frame d line) (items_behind (λ m. faults_told frame m lines) (due_in_campaign frame d line)),
    )

before-length : (b : ℕ) (lines : Lines) → length (before_lines b lines) ≤ length lines + 1
before-length b [] = omega arith
before-length b (line ∷ lines) = omega arith

cut-length : (feed : Bool) (b : ℕ) (lines : Lines) (n : ℕ) → length lines ≤ n
    → length (cond feed (newline ∷ lines) (before_lines b lines)) ≤ n + 1
cut-length true b lines n few = omega (arith, few)
cut-length false b lines n few = omega (arith, few, before-length b lines)

few-lines : (text : List ℕ) → length (lines_of text) ≤ length text
few-lines [] = omega arith
few-lines (b ∷ text) = omega (arith, cut-length (is_newline b) b (lines_of text) (length text) (few-lines text))

-- Counts.

-- something that one fault more raises by 1 at most
record Counter : Type 0 where
  of : Piece → ℕ
  begun : (first last : ℕ) → of (record { first = first; last = last; kept = no_runs; broken = no_runs }) ≡ 0
  grows : (f : FaultShown) (piece : Piece) → of (with_fault_counted f piece) ≤ of piece + 1

module _ (c : Counter) where
  abbrev held : Due → ℕ
  held (due.Fault piece before) = c.of piece
  held (due.Broken piece) = c.of piece
  held (due.Piece last) = 0
  held (due.Own first last) = 0

  abbrev next_held : Option Due → ℕ
  next_held None = 0
  next_held (Some d) = held d

  abbrev ended : Due → ℕ
  ended (due.Broken piece) = c.of piece
  ended _ = 0

  next_held-if : (b : Bool) (d : Due) (n : ℕ) → held d ≤ n → next_held (cond b (Some d) None) ≤ n
  next_held-if true d n few = few
  next_held-if false d n few = omega arith

  fault-held : (piece : Piece) (before : Option Spot) (line : List ℕ) (found : Option FaultShown)
      → next_held (behind_fault piece before line found) ≤ c.of piece + 1
  fault-held piece before line (Some f) = c.grows f piece
  fault-held piece before line None =
      next_held-if (is_between_groups before
      && bytes_eq line (counts_line (codes "kept ") piece.kept)) (due.Broken piece)
      (c.of piece + 1) (omega arith)

  piece-held : (frame : Common) (last : ℕ) (line : List ℕ) (next : Option Due) → behind_piece frame last line ≡ next
      → next_held next ≤ 0
  unfolding behind_piece
  piece-held frame last line None e = omega arith
  piece-held frame last line (Some d) e =
      let b = bound (head_of_line line) _ d e in
      let g = guarded (is_later_head frame last b.value) (Some (due.Own b.value.first b.value.last)) d b.gives in
      subst (λ (x : Due). held x ≤ 0) (some_same (due.Own b.value.first b.value.last) d g.1) (omega arith)

  head-held : (frame : Common) (first last : ℕ) (line : List ℕ) (next : Option Due)
      → behind_head frame first last line ≡ next → next_held next ≤ 0
  unfolding behind_head
  head-held frame first last line None e = omega arith
  head-held frame first last line (Some d) e =
      let b = bound (without_feed line) _ d e in
      let g = guarded (bytes_eq b.value frame.own.text) (Some (piece_begun first last)) d b.gives in
      subst (λ (x : Due). held x ≤ 0) (some_same (piece_begun first last) d g.1) (omega (arith, c.begun first last))

  line-held : (frame : Common) (d : Due) (line : List ℕ)
      → ended d + next_held (due_in_campaign frame d line) ≤ held d + 1
  unfolding due_in_campaign
  line-held frame (due.Fault piece before) line =
      omega (arith, fault-held piece before line (fault_told frame (due.Fault piece before) line))
  line-held frame (due.Broken piece) line =
      let few = next_held-if (bytes_eq line (counts_line (codes "broken ") piece.broken))
      (due.Piece piece.last) 0 (omega arith) in
      omega (arith, few)
  line-held frame (due.Piece last) line = omega (arith, piece-held frame last line (behind_piece frame last line) refl)
  line-held frame (due.Own first last) line =
      omega (arith, head-held frame first last line (behind_head frame first last line) refl)

  onto-sum : (d : Due) (pieces : List Piece) → sum_by c.of (onto (piece_ended d) pieces) ≡ ended d + sum_by c.of pieces
  onto-sum (due.Broken piece) pieces = sum_by-cons c.of piece pieces
  onto-sum d pieces = omega arith

  few-next : (frame : Common) (lines : Lines) (next : Option Due)
      → ((d : Due) → sum_by c.of (pieces_from frame d lines) ≤ held d + length lines)
      → sum_by c.of (items_behind (λ d. pieces_from frame d lines) next) ≤ next_held next + length lines
  few-next frame lines None few = omega arith
  few-next frame lines (Some d) few = few d

  few-counted : (frame : Common) (lines : Lines) (d : Due)
      → sum_by c.of (pieces_from frame d lines) ≤ held d + length lines
  few-counted frame [] d = omega arith
  few-counted frame (line ∷ lines) d =
      let next = due_in_campaign frame d line in
      omega (
        arith,
        few-next frame lines next (few-counted frame lines),
        line-held frame d line,
        onto-sum d (items_behind (λ m. pieces_from frame m lines) next),
      )

-- each of the counts of the faults whose test says yes, and of the others

run-grows : (of : Counts → ℕ) (yes : Bool) (f : FaultShown) (counts : Counts)
    → ((counts : Counts) → of (with_run f counts) ≤ of counts + 1) → of (with_run_if yes f counts) ≤ of counts + 1
run-grows of true f counts grows = grows counts
run-grows of false f counts grows = omega arith

-- one of the counts
record Count : Type 0 where
  of : Counts → ℕ
  none : of no_runs ≡ 0
  grows : (f : FaultShown) (counts : Counts) → of (with_run f counts) ≤ of counts + 1
  together : (one other : Counts) → of (counts_together one other) ≡ of one + of other

abbrev kept_counter : Count → Counter
kept_counter c = record {
  of = λ piece. c.of piece.kept;
  begun = λ first last. c.none;
  grows = λ f piece. run-grows c.of f.yes f piece.kept (c.grows f);
}

abbrev broken_counter : Count → Counter
broken_counter c = record {
  of = λ piece. c.of piece.broken;
  begun = λ first last. c.none;
  grows = λ f piece. run-grows c.of (not f.yes) f piece.broken (c.grows f);
}

abbrev runs_count : Count
runs_count = record { of = λ c. c.runs; none = refl; grows = λ f counts. omega arith; together = λ one other. refl }

abbrev same_count : Count
same_count = record {
  of = λ c. c.same;
  none = refl;
  grows = λ f counts. omega (arith, one-small f.same);
  together = λ one other. refl;
}

abbrev hurt_count : Count
hurt_count = record {
  of = λ c. c.hurt;
  none = refl;
  grows = λ f counts. omega (arith, one-small (nat_lt 0 f.hurt));
  together = λ one other. refl;
}

abbrev split_count : Count
split_count = record {
  of = λ c. c.split;
  none = refl;
  grows = λ f counts. omega (arith, one-small f.split);
  together = λ one other. refl;
}

abbrev torn_count : Count
torn_count = record {
  of = λ c. c.torn;
  none = refl;
  grows = λ f counts. omega (arith, one-small (nat_le 2 f.memberships));
  together = λ one other. refl;
}

abbrev dead_count : Count
dead_count = record {
  of = λ c. c.dead;
  none = refl;
  grows = λ f counts. omega (arith, one-small (not f.company));
  together = λ one other. refl;
}

-- of counts added up it is the sum
added : (c : Count) (all : List Counts) → c.of (counts_sum all) ≡ sum_by c.of all
added c [] = c.none
added c (one ∷ others) =
    omega (arith, c.together one (counts_sum others), added c others, sum_by-cons c.of one others)

mapped-sum : {A B : Type 0} (of : B → ℕ) (part : A → B) (items : List A)
    → sum_by of (map part items) ≡ sum_by (λ item. of (part item)) items
mapped-sum of part [] = refl
mapped-sum of part (item ∷ items) =
    omega (
      arith,
      sum_by-cons of (part item) (map part items),
      sum_by-cons (λ one. of (part one)) item items,
      mapped-sum of part items,
    )

fits : (counts : Counts) (n : ℕ) → n < 2 ^ 64 → counts.runs ≤ n → counts.same ≤ n → counts.hurt ≤ n → counts.split ≤ n
    → counts.torn ≤ n → counts.dead ≤ n → counts_fit counts ≡ true
fits counts n small runs same hurt split torn dead =
    rw (
      lt-ltb counts.runs (2 ^ 64) (omega (arith, small, runs)),
      lt-ltb counts.same (2 ^ 64) (omega (arith, small, same)),
      lt-ltb counts.hurt (2 ^ 64) (omega (arith, small, hurt)),
      lt-ltb counts.split (2 ^ 64) (omega (arith, small, split)),
      lt-ltb counts.torn (2 ^ 64) (omega (arith, small, torn)),
      lt-ltb counts.dead (2 ^ 64) (omega (arith, small, dead)),
    ) refl

module _ (frame : Common) (first last : ℕ) (lines : Lines) where
  abbrev pieces : List Piece
  pieces = pieces_from frame (piece_begun first last) lines

  few-kept : (c : Count) → c.of (counts_sum (map (λ piece. piece.kept) pieces)) ≤ length lines
  few-kept c =
      let few : sum_by (λ (piece : Piece). c.of piece.kept) pieces ≤ c.of no_runs + length lines =
      few-counted (kept_counter c) frame lines (piece_begun first last) in
      omega (
        arith,
        few,
        added c (map (λ piece. piece.kept) pieces),
        mapped-sum c.of
            (λ (piece : Piece). piece.kept) pieces,
        c.none,
      )

  few-broken : (c : Count) → c.of (counts_sum (map (λ piece. piece.broken) pieces)) ≤ length lines
  few-broken c =
      let few : sum_by (λ (piece : Piece). c.of piece.broken) pieces ≤ c.of no_runs + length lines =
      few-counted (broken_counter c) frame lines (piece_begun first last) in
      omega (
        arith,
        few,
        added c (map (λ piece. piece.broken) pieces),
        mapped-sum c.of
            (λ (piece : Piece). piece.broken) pieces,
        c.none,
      )

  from-readable : first ≤ last → length lines < 2 ^ 63 → IsReadable (campaign_from frame (piece_begun first last) lines)
  from-readable ordered few = record {
    order = in-order frame lines 0 (piece_begun first last) (omega arith, ordered);
    few = omega (arith, few, few-faults frame lines (piece_begun first last));
    kept = fits (counts_sum (map (λ piece. piece.kept) pieces)) (length lines) (omega (arith, few))
        (few-kept runs_count) (few-kept same_count) (few-kept hurt_count) (few-kept split_count)
        (few-kept torn_count) (few-kept dead_count);
    broken = fits (counts_sum (map (λ piece. piece.broken) pieces)) (length lines) (omega (arith, few))
        (few-broken runs_count) (few-broken same_count) (few-broken hurt_count) (few-broken split_count)
        (few-broken torn_count) (few-broken dead_count);
  }

-- The whole.

right-whole : (whole campaign : WholeCampaign) (wrong : Option ℕ)
    → or_wrong whole wrong ≡ Ok campaign → whole ≡ campaign
right-whole whole campaign None e = cc
right-whole whole campaign (Some n) e = absurd (cc)

behind-readable : (h : CampaignHead) (lines : Lines) (own : Option OwnShown)
    (campaign : WholeCampaign) → h.first ≤ h.last
    → length lines < 2 ^ 63 → behind_own h lines own ≡ Ok campaign → IsReadable campaign
behind-readable h lines None campaign ordered few e = absurd (cc)
behind-readable h lines (Some own) campaign ordered few e =
    let frame : Common = record { nodes = h.nodes; slots = h.slots; own = own } in
    let begun = piece_begun h.first h.last in
    subst (λ (c : WholeCampaign). IsReadable c)
    (right-whole (campaign_from frame begun lines) campaign
    (one_further (one_further (wrong_line frame begun lines))) e)
    (from-readable frame h.first h.last lines ordered few)

first-readable : (head : Option CampaignHead) (lines : Lines) (campaign : WholeCampaign)
    → IfSome head (λ h. h.first ≤ h.last) → length lines < 2 ^ 63 → behind_first lines head ≡ Ok campaign
    → IsReadable campaign
first-readable None lines campaign ordered few e = absurd (cc)
first-readable (Some h) [] campaign ordered few e = absurd (cc)
first-readable (Some h) (line ∷ lines) campaign ordered few e =
    behind-readable h lines (own_of_line h.nodes h.slots line) campaign ordered (omega (arith, few)) e

head-found : (line : List ℕ) (head : Option CampaignHead) → head_of_line line
    ≡ head → IfSome head (λ h. h.first ≤ h.last)
head-found line None e = tt
head-found line (Some h) e = line-ordered line h e

lines-readable : (lines : Lines) (campaign : WholeCampaign) → length lines < 2 ^ 63 → whole_of lines ≡ Ok campaign
    → IsReadable campaign
lines-readable [] campaign few e = absurd (cc)
lines-readable (line ∷ lines) campaign few e =
    first-readable (head_of_line line) lines campaign (head-found line (head_of_line line) refl) (omega (arith, few)) e

-- of any text
pub result-readable : (text : List ℕ) (read : Result WholeCampaign ℕ) → length text < 2 ^ 63 → read ≡ campaign_in text
    → IfOk read (λ campaign. IsReadable campaign)
result-readable text (Err n) few e = tt
result-readable text (Ok campaign) few e =
    lines-readable (lines_of text) campaign (omega (arith, few, few-lines text)) (sym e)
