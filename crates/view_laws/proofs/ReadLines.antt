-- What is known of a campaign that a text is: its lines need no escapes, and its faults stand in the order of their
-- slots.
use Rattle.std.proofs.Common.{◌≡◌, ℕ, ◌+◌, ◌-◌, ◌≤◌, Bool, true, false, cond, ◌&&◌, ◌||◌, List, [], ◌∷◌}
use Rattle.std.proofs.Common.{length, take, Option, Some, None, refl, sym, ap, subst, ◌∙◌, arith, codes, bytes_eq}
use Rattle.std.specs.Prelude.{◌==◌, nat_le, nat_lt, option_map, IfSome}
use Rattle.std.specs.List.{AllByRecursion}
use Rattle.std.proofs.lemmas.Bool.{and_parts, eqb-true, leb-true, ltb-true}
use Rattle.ttp_base.specs.Text.{Lines}
use Rattle.line_text.specs.Numerals.{numeral_in}
use Rattle.view_laws.proofs.FromBelow.{guarded, some_same, bound, Plain}
use Rattle.line_reader.specs.TraceLines.{slot_digits}
use Rattle.campaign.specs.CostText.{unended}
use Rattle.campaign.specs.Lines.{counts_line}
use Rattle.whole_campaign.specs.declared.due.Due.{Due}
use Rattle.whole_campaign.specs.declared.due.Due.TheVariants as due
use Rattle.whole_campaign.specs.declared.head.CampaignHead.{CampaignHead}
use Rattle.whole_campaign.specs.declared.shown.FaultShown.{FaultShown}
use Rattle.whole_campaign.specs.declared.shown.Piece.{Piece}
use Rattle.whole_campaign.specs.declared.spot.Spot.{Spot}
use Rattle.whole_campaign.specs.Words.{without_feed, line_said, word_behind, node_digits}
use Rattle.whole_campaign.specs.Runs.{RunWords, run_words_in, test_in, is_same_test, cost_in}
use Rattle.whole_campaign.specs.Runs.{campaign_form, campaign_said, is_campaign_head, campaign_head_in, head_of_line}
use Rattle.whole_campaign.specs.Faults.{is_last_place, is_same_node, is_later, is_same_doing, is_fault_of}
use Rattle.whole_campaign.specs.Faults.{stands_behind, lies_in, FaultWords, fault_words_in}
use Rattle.whole_campaign.specs.Faults.{spot_in, is_spot_due, shown_at, fault_line_in}
use Rattle.whole_campaign.specs.Due.{with_fault_counted, piece_begun, spot_of, fault_told, is_between_groups}
use Rattle.whole_campaign.specs.Due.{behind_fault, behind_kept, is_later_head, behind_piece}
use Rattle.whole_campaign.specs.Due.{behind_head, due_in_campaign}
use Rattle.whole_campaign.specs.Own.{Common}
use Rattle.whole_campaign.specs.Whole.{FaultTold, one_further, wrong_behind, wrong_line, told_at, faults_told, onto}
use Rattle.whole_campaign.specs.Whole.{items_behind}
use Rattle.view_laws.proofs.ChartDraws.{ArePlain}
use Rattle.view_laws.proofs.PlainLines.{word-cut, plain-cut, plain-number, plain-cost, plain-tested}
use Rattle.view_laws.proofs.PlainLines.{plain-run, plain-fault}
use Rattle.view_laws.proofs.SlotOrder.{AreInSlotOrder}

-- The line of a fault.

-- what is known of a fault that was read
record IsRead (frame : Common) (piece : Piece) (before : Option Spot) (bytes : List ℕ) (f : FaultShown) : Type 0 where
  plain : Plain bytes
  lies : lies_in frame piece (spot_of f) ≡ true
  stands : stands_behind before (spot_of f) ≡ true

plain-fault_words : (bytes : List ℕ) (words : FaultWords) → fault_words_in bytes ≡ Some words → Plain words.run.test
    → Plain words.run.cost → Plain words.run.fault → Plain bytes
unfolding fault_words_in
plain-fault_words bytes words e test cost fault =
    let s = bound (word_behind 32 (codes "slot ") bytes) _ words e in
    let k = bound (word_behind 32 (codes " node ") s.value.rest) _ words s.gives in
    let run = bound (run_words_in k.value.rest) _ words k.gives in
    let slot = bound (numeral_in slot_digits s.value.front) _ words run.gives in
    let node = bound (numeral_in node_digits k.value.front) _ words slot.gives in
    let is = some_same _ words node.gives in
    plain-cut (codes "slot ") bytes s.value.front s.value.rest (word-cut 32 (codes "slot ") bytes s.value s.read) refl
    (plain-number slot_digits s.value.front slot.value (omega arith) slot.read)
    (plain-cut (codes " node ") s.value.rest k.value.front k.value.rest
    (word-cut 32 (codes " node ") s.value.rest k.value k.read) refl
    (plain-number node_digits k.value.front node.value (omega arith) node.read)
    (plain-run k.value.rest run.value run.read (subst (λ (w : FaultWords). Plain w.run.test) (sym is) test)
    (subst (λ (w : FaultWords). Plain w.run.cost) (sym is) cost)
    (subst (λ (w : FaultWords). Plain w.run.fault) (sym is) fault)))

-- what a spot's line shows is of that spot, and its words are plain
record IsShown (s : Spot) (run : RunWords) (f : FaultShown) : Type 0 where
  spot : spot_of f ≡ s
  test : Plain run.test
  cost : Plain run.cost

shown-is : (frame : Common) (s : Spot) (run : RunWords) (f : FaultShown)
    → shown_at frame s run ≡ Some f → IsShown s run f
unfolding shown_at
shown-is frame s run f e =
    let t = bound (test_in run.test) _ f e in
    let cost = bound (cost_in frame.nodes frame.slots run.cost) _ f t.gives in
    let g = guarded (is_same_test frame.own.test t.value) _ f cost.gives in
    record {
      spot = ap spot_of (sym (some_same _ f g.1));
      test = plain-tested run.test t.value t.read;
      cost = plain-cost frame.nodes frame.slots run.cost cost.value cost.read;
    }

line-read : (frame : Common) (piece : Piece) (before : Option Spot) (bytes : List ℕ) (f : FaultShown)
    → fault_line_in frame piece before bytes ≡ Some f → IsRead frame piece before bytes f
unfolding fault_line_in
line-read frame piece before bytes f e =
    let words = bound (fault_words_in bytes) _ f e in
    let s = bound (spot_in before words.value) _ f words.gives in
    let shown = bound (shown_at frame s.value words.value.run) _ f s.gives in
    let g = guarded (is_spot_due frame piece before s.value words.value.run.fault) (Some shown.value) f shown.gives in
    let is : shown.value ≡ f = some_same shown.value f g.1 in
    let known = shown-is frame s.value words.value.run shown.value shown.read in
    let here : s.value ≡ spot_of f = sym known.spot ∙ ap spot_of is in
    let tests = and_parts (lies_in frame piece s.value && stands_behind before s.value)
    (is_fault_of frame.slots s.value words.value.run.fault) g.0 in
    let places = and_parts (lies_in frame piece s.value) (stands_behind before s.value) tests.0 in
    record {
      plain = plain-fault_words bytes words.value words.read known.test known.cost
          (plain-fault frame.slots s.value words.value.run.fault tests.1);
      lies = subst (λ (spot : Spot). lies_in frame piece spot ≡ true) here places.0;
      stands = subst (λ (spot : Spot). stands_behind before spot ≡ true) here places.1;
    }

-- a line with its line feed
pub fed-is : (line bytes : List ℕ) → without_feed line ≡ Some bytes → unended line ≡ bytes
unfolding without_feed
fed-is line bytes e = some_same (take (length line - 1) line) bytes
    (guarded _ (Some (take (length line - 1) line)) bytes e).1

told-read : (frame : Common) (piece : Piece) (before : Option Spot) (line : List ℕ) (f : FaultShown)
    → fault_told frame (due.Fault piece before) line ≡ Some f → IsRead frame piece before (unended line) f
unfolding fault_told
told-read frame piece before line f e =
    let bytes = bound (without_feed line) (fault_line_in frame piece before) f e in
    subst (λ (text : List ℕ). IsRead frame piece before text f) (sym (fed-is line bytes.value bytes.read))
    (line-read frame piece before bytes.value f bytes.gives)

-- Slots.

either-true : (a b : Bool) (P : Type 0) → (a || b) ≡ true → (a ≡ true → P) → (b ≡ true → P) → P
either-true true b P e one other = one refl
either-true false b P e one other = other e

later-slot : (b s : Spot) → is_later b s ≡ true → b.slot ≤ s.slot
later-slot b s e =
    either-true (nat_lt b.slot s.slot) ((s.slot == b.slot) && nat_lt b.node s.node) (b.slot ≤ s.slot) e
    (λ less. let l = ltb-true b.slot s.slot less in omega (arith, l))
    (λ both. let parts = and_parts (s.slot == b.slot) (nat_lt b.node s.node) both in
    let same : s.slot ≡ b.slot = eqb-true s.slot b.slot parts.0 in omega (arith, same))

stands-slot : (last later node jumps within : Bool) (P : Type 0)
    → cond last (later || (node && jumps)) (node && within) ≡ true
    → (later ≡ true → P) → (node ≡ true → P) → P
stands-slot true true node jumps within P e one other = one refl
stands-slot true false true jumps within P e one other = other refl
stands-slot true false false jumps within P e one other = cc
stands-slot false later true jumps within P e one other = other refl
stands-slot false later false jumps within P e one other = cc

-- no fault comes before this slot
abbrev IsFrom : ℕ → Due → Type 0
IsFrom low (due.Fault piece None) = (low ≤ piece.first) × (piece.first ≤ piece.last)
IsFrom low (due.Fault piece (Some before)) = (low ≤ before.slot) × (before.slot ≤ piece.last)
IsFrom low (due.Broken piece) = low ≤ piece.last + 1
IsFrom low (due.Piece last) = low ≤ last + 1
IsFrom low (due.Own first last) = (low ≤ first) × (first ≤ last)

-- the spot of a fault that is due
spot-from : (piece : Piece) (before : Option Spot) (s : Spot) (low : ℕ) → IsFrom low (due.Fault piece before)
    → stands_behind before s ≡ true → piece.first ≤ s.slot → low ≤ s.slot
spot-from piece None s low from stands above = omega (arith, from.0, above)
spot-from piece (Some b) s low from stands above =
    stands-slot (is_last_place b.place) (is_later b s) (is_same_node b s) ((b.place == 11) && (s.place == 12))
    (is_same_doing b.doing s.doing) (low ≤ s.slot)
    (shape (is_last_place b.place) (is_later b s) (is_same_node b s) (b.place == 11) (s.place == 12)
    (is_same_doing b.doing s.doing) stands)
    (λ later. let more = later-slot b s later in omega (arith, from.0, more))
    (λ node. let same : s.slot ≡ b.slot =
    eqb-true s.slot b.slot (and_parts (s.slot == b.slot) (s.node == b.node) node).0 in omega (arith, from.0, same))
  where
    shape : (last later node a c d : Bool) → cond last (later || (node && a && c)) (node && d) ≡ true
        → cond last (later || (node && (a && c))) (node && d) ≡ true
    shape last later true a c d e = e
    shape last later false a c d e = e

fault-from : (frame : Common) (piece : Piece) (before : Option Spot) (bytes : List ℕ) (f : FaultShown) (low : ℕ)
    → IsFrom low (due.Fault piece before) → IsRead frame piece before bytes f → (low ≤ f.slot) × (f.slot ≤ piece.last)
fault-from frame piece before bytes f low from read =
    let one = and_parts (nat_lt f.node frame.nodes && nat_lt f.slot frame.slots && nat_le piece.first f.slot)
    (nat_le f.slot piece.last) read.lies in
    let two = and_parts (nat_lt f.node frame.nodes && nat_lt f.slot frame.slots) (nat_le piece.first f.slot) one.0 in (
      spot-from piece before (spot_of f) low from read.stands (leb-true piece.first f.slot two.1),
      leb-true f.slot piece.last one.1,
    )

-- What is due behind a line, and what it tells.

-- behind a line that is due, from a slot on: what it tells is not before that slot, and nothing behind it before that
record IsPassed (low : ℕ) (told : Option FaultTold) (next : Due) : Type 0 where
  from : IsFrom low next
  tells : IfSome told (λ t. (low ≤ t.shown.slot) × IsFrom t.shown.slot next × Plain t.text)

abbrev pub told_of_line : List ℕ → Option FaultShown → Option FaultTold
told_of_line line o = option_map (λ f. (let t : FaultTold = record { shown = f; text = unended line } in t)) o

fault-passed : (frame : Common) (piece : Piece) (before : Option Spot) (line : List ℕ) (low : ℕ) (next : Due)
    (o : Option FaultShown) → fault_told frame (due.Fault piece before) line ≡ o
    → behind_fault piece before line o ≡ Some next → IsFrom low (due.Fault piece before)
    → IsPassed low (told_of_line line o) next
fault-passed frame piece before line low next (Some f) read e from =
    let slots = fault-from frame piece before (unended line) f low from (told-read frame piece before line f read) in
    let is : due.Fault (with_fault_counted f piece) (Some (spot_of f)) ≡ next = some_same _ next e in
    record {
      from = subst (IsFrom low) is slots;
      tells = (
        slots.0,
        subst (IsFrom f.slot) is (omega arith, slots.1),
        (told-read frame piece before line f read).plain,
      );
    }
fault-passed frame piece before line low next None read e from =
    let g = guarded (is_between_groups before && bytes_eq line (counts_line (codes "kept ") piece.kept))
    (Some (due.Broken piece)) next e in
    record { from = subst (IsFrom low) (some_same (due.Broken piece) next g.1) (go before from); tells = tt }
  where
    go : (o : Option Spot) → IsFrom low (due.Fault piece o) → low ≤ piece.last + 1
    go None from = omega (arith, from.0, from.1)
    go (Some b) from = omega (arith, from.0, from.1)

kept-passed : (frame : Common) (piece : Piece) (line : List ℕ) (low : ℕ) (next : Due)
    → behind_kept piece line ≡ Some next
    → IsFrom low (due.Broken piece) → IsPassed low None next
kept-passed frame piece line low next e from =
    let g = guarded (bytes_eq line (counts_line (codes "broken ") piece.broken)) (Some (due.Piece piece.last)) next e in
    record { from = subst (IsFrom low) (some_same (due.Piece piece.last) next g.1) from; tells = tt }

-- behind the first line of a piece
head-from : (bytes : List ℕ) (h : CampaignHead) (low : ℕ) → campaign_head_in bytes ≡ Some h → low ≤ h.first
    → IsFrom low (due.Own h.first h.last)
unfolding campaign_head_in
head-from bytes h low e above =
    let said = bound (line_said campaign_form campaign_said bytes) _ h e in
    let g = guarded (is_campaign_head said.value) (Some said.value) h said.gives in
    let tests = and_parts _ (nat_le said.value.first said.value.last) g.0 in
    let order = leb-true said.value.first said.value.last tests.1 in
    (above, subst (λ (k : CampaignHead). k.first ≤ k.last) (some_same said.value h g.1) order)

pub line-from : (line : List ℕ) (h : CampaignHead) (low : ℕ) → head_of_line line ≡ Some h → low ≤ h.first
    → IsFrom low (due.Own h.first h.last)
unfolding head_of_line
line-from line h low e above =
    let bytes = bound (without_feed line) campaign_head_in h e in head-from bytes.value h low bytes.gives above

piece-passed : (frame : Common) (last : ℕ) (line : List ℕ) (low : ℕ) (next : Due)
    → behind_piece frame last line ≡ Some next
    → IsFrom low (due.Piece last) → IsPassed low None next
unfolding behind_piece
piece-passed frame last line low next e from =
    let h = bound (head_of_line line) _ next e in
    let g = guarded (is_later_head frame last h.value) (Some (due.Own h.value.first h.value.last)) next h.gives in
    let tests = and_parts ((h.value.nodes == frame.nodes) && (h.value.slots == frame.slots))
    (nat_lt last h.value.first) g.0 in
    let later = ltb-true last h.value.first tests.1 in
    let begins = line-from line h.value low h.read (omega (arith, from, later)) in
    record {
      from = subst (IsFrom low) (some_same (due.Own h.value.first h.value.last) next g.1) begins;
      tells = tt;
    }

own-passed : (frame : Common) (first last : ℕ) (line : List ℕ) (low : ℕ) (next : Due)
    → behind_head frame first last line ≡ Some next → IsFrom low (due.Own first last) → IsPassed low None next
unfolding behind_head
own-passed frame first last line low next e from =
    let bytes = bound (without_feed line) _ next e in
    let g = guarded (bytes_eq bytes.value frame.own.text) (Some (piece_begun first last)) next bytes.gives in
    record { from = subst (IsFrom low) (some_same (piece_begun first last) next g.1) from; tells = tt }

passed : (frame : Common) (d : Due) (line : List ℕ) (low : ℕ) (next : Due) → due_in_campaign frame d line ≡ Some next
    → IsFrom low d → IsPassed low (told_at frame d line) next
unfolding due_in_campaign fault_told
passed frame (due.Fault piece before) line low next e from =
    fault-passed frame piece before line low next (fault_told frame (due.Fault piece before) line) refl e from
passed frame (due.Broken piece) line low next e from = kept-passed frame piece line low next e from
passed frame (due.Piece last) line low next e from = piece-passed frame last line low next e from
passed frame (due.Own first last) line low next e from = own-passed frame first last line low next e from

-- All lines.

-- faults from a slot on, in order, whose lines are plain
pub record AreRead (low : ℕ) (faults : List FaultTold) : Type 0 where
  pub above : AllByRecursion (λ f. low ≤ f.shown.slot) faults
  pub order : AreInSlotOrder faults
  pub plain : ArePlain faults

lower : (low slot : ℕ) (faults : List FaultTold) → low ≤ slot → AllByRecursion (λ f. slot ≤ f.shown.slot) faults
    → AllByRecursion (λ f. low ≤ f.shown.slot) faults
lower low slot [] less are = tt
lower low slot (f ∷ faults) less are = (omega (arith, less, are.0), lower low slot faults less are.1)

-- one more
onto-read : (low : ℕ) (told : Option FaultTold) (next : Due) (faults : List FaultTold) → IsPassed low told next
    → ((from : ℕ) → IsFrom from next → AreRead from faults) → AreRead low (onto told faults)
onto-read low None next faults pass others = others low pass.from
onto-read low (Some t) next faults pass others =
    let rest = others t.shown.slot pass.tells.1 in
    record {
      above = (pass.tells.0, lower low t.shown.slot faults pass.tells.0 rest.above);
      order = (rest.above, rest.order);
      plain = (pass.tells.2, rest.plain);
    }

-- where no line is wrong, none is behind a line that is due
pub right-behind : (others : Due → Option ℕ) (next : Due) → wrong_behind others (Some next) ≡ None → others next ≡ None
right-behind others next = elim (others next) as (λ o. one_further o ≡ None → o ≡ None) [
  | None ↦ (λ e. refl)
  | Some n ↦ (λ e. cc)
]

pub lines-read : (frame : Common) (d : Due) (lines : Lines) (low : ℕ) → wrong_line frame d lines ≡ None → IsFrom low d
    → AreRead low (faults_told frame d lines)
lines-read frame d [] low right from = record { above = tt; order = tt; plain = tt }
lines-read frame d (line ∷ lines) low right from =
    go (due_in_campaign frame d line) refl right (λ next. lines-read frame next lines)
  where
    go : (o : Option Due) → due_in_campaign frame d line ≡ o
        → wrong_behind (λ next. wrong_line frame next lines) o ≡ None
        → ((next : Due) (from : ℕ) → wrong_line frame next lines ≡ None → IsFrom from next
        → AreRead from (faults_told frame next lines))
        → AreRead low (onto (told_at frame d line) (items_behind (λ next. faults_told frame next lines) o))
    go None is right others = cc
    go (Some next) is right others =
        onto-read low (told_at frame d line) next (faults_told frame next lines) (passed frame d line low next is from)
        (λ from starts. others next from (right-behind (λ n. wrong_line frame n lines) next right) starts)
