-- A campaign that goes on with lines that are due.
use Rattle.lab_laws.proofs.Words.{◌≡◌, ℕ, ◌<◌, true, false, List, [], ◌∷◌, ◌++◌, Option, Some, None}
use Rattle.lab_laws.proofs.Words.{refl, sym, ap, ◌∙◌, arith, codes, decimal, ◌==◌, AllByRecursion}
use Rattle.lab_laws.proofs.Words.{eq-eqb, lt-ltb, list_any-append, Lines, newline, is_line, has, has-decimal}
use Rattle.lab_laws.proofs.Words.{bytes_eq-same, ◌>>=◌, Counts, unended, counts_line, Due, FaultShown, Piece}
use Rattle.lab_laws.proofs.Words.{Spot, without_feed, word_behind, campaign_head_in, head_of_line}
use Rattle.lab_laws.proofs.Words.{fault_words_in, fault_line_in, with_fault_counted, piece_begun, spot_of}
use Rattle.lab_laws.proofs.Words.{fault_told, is_between_groups, Common, FaultTold, one_further}
use Rattle.std.specs.Prelude.{option_map}
use Rattle.ttp_base.proofs.Gathered.{gather-behind}
use Rattle.ttp_base.proofs.Lines.{is_line-append}
use Rattle.whole_campaign.specs.declared.due.Due.TheVariants as due
use Rattle.whole_campaign.specs.Due.{behind_fault, behind_piece, behind_head, due_in_campaign}
use Rattle.whole_campaign.specs.Whole.{told_at, onto, items_behind, wrong_behind, wrong_line}
use Rattle.whole_campaign.specs.Whole.{faults_told, pieces_from, piece_ended}
use Rattle.lab_laws.proofs.WordsCut.{feed-again}
use Rattle.lab_laws.proofs.LinesRead.{IsEnded}

-- these are lines, they are due from here on to the end of a campaign, and they tell these faults and pieces
pub record GoesOn (frame : Common) (d : Due) (lines : Lines)
    (faults : List FaultTold) (pieces : List Piece) : Type 0 where
  pub are : AllByRecursion (λ line. is_line line ≡ true) lines
  pub right : wrong_line frame d lines ≡ None
  pub tells : faults_told frame d lines ≡ faults
  pub ends : pieces_from frame d lines ≡ pieces

pub ended-line : (line text : List ℕ) → IsEnded line text → is_line line ≡ true
ended-line line text is = ap is_line is.ends ∙ is_line-append text newline is.feed refl

-- one line more, before lines that are due behind it
one-line : (frame : Common) (d next : Due) (line : List ℕ) (lines : Lines) (told : Option FaultTold)
    (faults : List FaultTold) (pieces : List Piece) → is_line line ≡ true → due_in_campaign frame d line ≡ Some next
    → told_at frame d line ≡ told → GoesOn frame next lines faults pieces
    → GoesOn frame d (line ∷ lines) (onto told faults) (onto (piece_ended d) pieces)
one-line frame d next line lines told faults pieces is due_next tells goes = record {
  are = (is, goes.are);
  right = ap (wrong_behind (λ n. wrong_line frame n lines)) due_next ∙ ap one_further goes.right;
  tells = (λ i. onto (tells i) (items_behind (λ n. faults_told frame n lines) (due_next i)))
      ∙ ap (onto told) goes.tells;
  ends = ap (λ (o : Option Due). onto (piece_ended d) (items_behind (λ n. pieces_from frame n lines) o)) due_next
      ∙ ap (onto (piece_ended d)) goes.ends;
}

-- The line of a fault.

told-some : (frame : Common) (d : Due) (line : List ℕ) (f : FaultShown) → fault_told frame d line ≡ Some f
    → told_at frame d line ≡ Some (record { shown = f; text = unended line })
told-some frame d line f is =
    ap (λ (o : Option FaultShown). option_map (λ g. (let t : FaultTold = record {
      shown = g;
      text = unended line;
    } in t)) o) is

told-none : (frame : Common) (d : Due) (line : List ℕ) → fault_told frame d line ≡ None → told_at frame d line ≡ None
told-none frame d line is =
    ap (λ (o : Option FaultShown). option_map (λ g. (let t : FaultTold = record {
      shown = g;
      text = unended line;
    } in t)) o) is

fault-due : (frame : Common) (piece : Piece) (before : Option Spot) (line : List ℕ) (f : FaultShown)
    → fault_told frame (due.Fault piece before) line ≡ Some f
    → due_in_campaign frame (due.Fault piece before) line
    ≡ Some (due.Fault (with_fault_counted f piece) (Some (spot_of f)))
unfolding due_in_campaign
fault-due frame piece before line f is = ap (behind_fault piece before line) is

pub fault-line : (frame : Common) (piece : Piece) (before : Option Spot)
    (line : List ℕ) (lines : Lines) (f : FaultShown)
    (faults : List FaultTold) (pieces : List Piece) → is_line line ≡ true
    → fault_told frame (due.Fault piece before) line ≡ Some f
    → GoesOn frame (due.Fault (with_fault_counted f piece) (Some (spot_of f))) lines faults pieces
    → GoesOn frame (due.Fault piece before) (line ∷ lines) (record { shown = f; text = unended line } ∷ faults) pieces
fault-line frame piece before line lines f faults pieces is at goes =
    one-line frame (due.Fault piece before) (due.Fault (with_fault_counted f piece) (Some (spot_of f))) line lines
    (Some (record { shown = f; text = unended line })) faults pieces is (fault-due frame piece before line f at)
    (told-some frame (due.Fault piece before) line f at) goes

-- The lines of counts.

counts-bare : (name runs same hurt split torn dead : List ℕ) → has 10 name ≡ false → has 10 runs ≡ false
    → has 10 same ≡ false → has 10 hurt ≡ false → has 10 split ≡ false → has 10 torn ≡ false → has 10 dead ≡ false
    → has 10 (name ++ (runs ++ codes " same " ++ same ++ codes " hurt " ++ hurt ++ codes " split " ++ split
    ++ codes " torn " ++ torn ++ codes " dead " ++ dead)) ≡ false
counts-bare name runs same hurt split torn dead p q r s t u v =
    simp (list_any-append (λ c. c == 10), p, q, r, s, t, u, v)

-- behind the name
abbrev counts_rest : Counts → List ℕ
counts_rest c =
    decimal c.runs ++ codes " same " ++ decimal c.same ++ codes " hurt " ++ decimal c.hurt ++ codes " split "
    ++ decimal c.split ++ codes " torn " ++ decimal c.torn ++ codes " dead " ++ decimal c.dead

counts-ended : (name : List ℕ) (c : Counts) → has 10 name ≡ false → IsEnded (counts_line name c) (name ++ counts_rest c)
counts-ended name c none = record {
  ends = ap (λ (w : List ℕ). w ++ newline) (sym (gather-behind name (decimal c.runs ∷ codes " same " ∷ decimal c.same
      ∷ codes " hurt " ∷ decimal c.hurt ∷ codes " split " ∷ decimal c.split ∷ codes " torn " ∷ decimal c.torn
      ∷ codes " dead " ∷ decimal c.dead ∷ [])));
  feed = counts-bare name (decimal c.runs) (decimal c.same) (decimal c.hurt) (decimal c.split) (decimal c.torn)
      (decimal c.dead) none (has-decimal 10 c.runs (omega arith)) (has-decimal 10 c.same (omega arith))
      (has-decimal 10 c.hurt (omega arith)) (has-decimal 10 c.split (omega arith))
      (has-decimal 10 c.torn (omega arith)) (has-decimal 10 c.dead (omega arith));
}

no-fault : (frame : Common) (piece : Piece) (before : Option Spot) (rest : List ℕ)
    → fault_line_in frame piece before (codes "kept " ++ rest) ≡ None
unfolding fault_line_in fault_words_in word_behind
no-fault frame piece before rest = refl

kept-no_fault : (frame : Common) (piece : Piece) (before : Option Spot) (c : Counts)
    → fault_told frame (due.Fault piece before) (counts_line (codes "kept ") c) ≡ None
unfolding fault_told
kept-no_fault frame piece before c =
    ap (λ (line : List ℕ). without_feed line >>= fault_line_in frame piece before)
    (counts-ended (codes "kept ") c refl).ends
    ∙ ap (λ (o : Option (List ℕ)). o >>= fault_line_in frame piece before)
    (feed-again (codes "kept " ++ counts_rest c)).0
    ∙ no-fault frame piece before (counts_rest c)

kept-due : (frame : Common) (piece : Piece) (before : Option Spot) → is_between_groups before ≡ true
    → due_in_campaign frame (due.Fault piece before) (counts_line (codes "kept ") piece.kept) ≡ Some (due.Broken piece)
unfolding due_in_campaign
kept-due frame piece before between =
    ap (behind_fault piece before (counts_line (codes "kept ") piece.kept))
    (kept-no_fault frame piece before piece.kept)
    ∙ rw (between, bytes_eq-same (counts_line (codes "kept ") piece.kept)) refl

broken-due : (frame : Common) (piece : Piece)
    → due_in_campaign frame (due.Broken piece) (counts_line (codes "broken ") piece.broken)
    ≡ Some (due.Piece piece.last)
unfolding due_in_campaign
broken-due frame piece = rw (bytes_eq-same (counts_line (codes "broken ") piece.broken)) refl

broken-no_fault : (frame : Common) (piece : Piece) (line : List ℕ) → fault_told frame (due.Broken piece) line ≡ None
unfolding fault_told
broken-no_fault frame piece line = refl

-- behind the last fault of a piece
pub counts-lines : (frame : Common) (piece : Piece) (before : Option Spot) (lines : Lines) (faults : List FaultTold)
    (pieces : List Piece) → is_between_groups before ≡ true → GoesOn frame (due.Piece piece.last) lines faults pieces
    → GoesOn frame (due.Fault piece before)
    (counts_line (codes "kept ") piece.kept
    ∷ counts_line (codes "broken ") piece.broken ∷ lines) faults (piece ∷ pieces)
counts-lines frame piece before lines faults pieces between goes =
    let kept = counts_line (codes "kept ") piece.kept in
    let broken = counts_line (codes "broken ") piece.broken in
    one-line frame (due.Fault piece before) (due.Broken piece) kept (broken ∷ lines) None faults (piece ∷ pieces)
    (ended-line kept (codes "kept " ++ counts_rest piece.kept) (counts-ended (codes "kept ") piece.kept refl))
    (kept-due frame piece before between)
    (told-none frame (due.Fault piece before) kept (kept-no_fault frame piece before piece.kept))
    (one-line frame (due.Broken piece) (due.Piece piece.last) broken lines None faults pieces
    (ended-line broken (codes "broken " ++ counts_rest piece.broken) (counts-ended (codes "broken ") piece.broken refl))
    (broken-due frame piece) (told-none frame (due.Broken piece) broken (broken-no_fault frame piece broken)) goes)

-- The first two lines of a later piece.

head-due : (frame : Common) (last first end : ℕ) (line text : List ℕ) → line ≡ text ++ newline
    → campaign_head_in text
    ≡ Some (record { nodes = frame.nodes; slots = frame.slots; first = first; last = end }) → last < first
    → due_in_campaign frame (due.Piece last) line ≡ Some (due.Own first end)
unfolding due_in_campaign behind_piece head_of_line
head-due frame last first end line text is read later =
    rw (
      is,
      (feed-again text).0,
      read,
      eq-eqb frame.nodes frame.nodes refl,
      eq-eqb frame.slots frame.slots refl,
      lt-ltb last first later,
    ) refl

head-no_fault : (frame : Common) (last : ℕ) (line : List ℕ) → fault_told frame (due.Piece last) line ≡ None
unfolding fault_told
head-no_fault frame last line = refl

own-due : (frame : Common) (first last : ℕ) (line : List ℕ) → line ≡ frame.own.text ++ newline
    → due_in_campaign frame (due.Own first last) line ≡ Some (piece_begun first last)
unfolding due_in_campaign behind_head
own-due frame first last line is = rw (is, (feed-again frame.own.text).0, bytes_eq-same frame.own.text) refl

own-no_fault : (frame : Common) (first last : ℕ) (line : List ℕ) → fault_told frame (due.Own first last) line ≡ None
unfolding fault_told
own-no_fault frame first last line = refl

pub first-lines : (frame : Common) (last first end : ℕ) (head head_text own : List ℕ) (lines : Lines)
    (faults : List FaultTold) (pieces : List Piece) → IsEnded head head_text
    → campaign_head_in head_text
    ≡ Some (record { nodes = frame.nodes; slots = frame.slots; first = first; last = end }) → last < first
    → IsEnded own frame.own.text → GoesOn frame (piece_begun first end) lines faults pieces
    → GoesOn frame (due.Piece last) (head ∷ own ∷ lines) faults pieces
first-lines frame last first end head head_text own lines faults pieces ended read later own_ended goes =
    one-line frame (due.Piece last) (due.Own first end) head (own ∷ lines) None faults pieces
    (ended-line head head_text ended) (head-due frame last first end head head_text ended.ends read later)
    (told-none frame (due.Piece last) head (head-no_fault frame last head))
    (one-line frame (due.Own first end) (piece_begun first end) own lines None faults pieces
    (ended-line own frame.own.text own_ended) (own-due frame first end own own_ended.ends)
    (told-none frame (due.Own first end) own (own-no_fault frame first end own)) goes)

-- A campaign may end behind a piece.
pub no-lines : (frame : Common) (last : ℕ) → GoesOn frame (due.Piece last) [] [] []
no-lines frame last = record { are = tt; right = refl; tells = refl; ends = refl }
