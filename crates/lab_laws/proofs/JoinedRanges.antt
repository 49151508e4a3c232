-- Campaigns over ranges that join are alike the one over the whole.
use Rattle.std.proofs.Common.{◌≡◌, ℕ, zero, suc, ◌+◌, ◌^◌, ◌<◌, ◌≤◌, Bool, true}
use Rattle.std.proofs.Common.{false, cond, ◌&&◌, ◌||◌, not, List, [], ◌∷◌}
use Rattle.std.proofs.Common.{◌++◌, refl, sym, ap, subst, ◌∙◌, arith, append-nil, length-append, inl, inr}
use Rattle.std.specs.Prelude.{Ok, Result, is_some, nat_le, map, filter, flat_map, count_by}
use Rattle.std.specs.List.{concat, range_with_len}
use Rattle.std.proofs.Math.Bool.{and-false, or-false}
use Rattle.std.proofs.lemmas.Bool.{cases_lt, le-leb, lt-leb}
use Rattle.std.proofs.lemmas.List.{map-append}
use Rattle.std.proofs.lemmas.List.Concat.{flat_map-append}
use Rattle.std.proofs.lemmas.List.Elements.{filter-append}
use Rattle.std.proofs.lemmas.List.Sums.{sum_by-append}
use Rattle.ttp_base.specs.Text.{Lines}
use Rattle.ttp_base.proofs.NodeLists.{filter-none}
use Rattle.ttp_world.specs.declared.medl.Medl.{Medl}
use Rattle.ttp_world.specs.declared.script.Event.{Event}
use Rattle.ttp_world.specs.declared.script.Script.{Script}
use Rattle.ttp_world.specs.Diary.{History}
use Rattle.ttp_world.specs.Medl.{IsValid}
use Rattle.ttp_world.specs.Script.{IsValidScript}
use Rattle.campaign.specs.declared.cost.Cost.{Cost}
use Rattle.campaign.specs.declared.cost.Counts.{Counts}
use Rattle.campaign.specs.declared.cost.Span.{Span}
use Rattle.campaign.specs.Lines.{Summary, summary, is_same_cost, has_hurt, is_torn}
use Rattle.campaign.specs.Lines.{is_dead, counts_of, costs_of, summary_with}
use Rattle.campaign.specs.Lines.{kept_counts, broken_counts, campaign_lines}
use Rattle.campaign.specs.Tried.{faults_in, row_of, slots_between, faults_from}
use Rattle.ttp_world.specs.ZerosWorld.{zeros_world}
use Rattle.whole_campaign.specs.declared.shown.Piece.{Piece}
use Rattle.whole_campaign.specs.Due.{no_runs}
use Rattle.whole_campaign.specs.Whole.{FaultTold, WholeCampaign, campaign_in}
use Rattle.whole_campaign.specs.Readable.{counts_together, counts_sum}
use Rattle.lab_laws.specs.Ranges.{IsRange, AreRanges, lines_over}
use Rattle.lab_laws.specs.TakenCampaign.{told_in_slot, piece_over, faults_over, campaign_over}
use Rattle.lab_laws.proofs.Pieces.{ranges-taken}
use Rattle.chart_text.specs.Columns.{is_of_piece, is_tried}
use Rattle.lab_laws.specs.Alike.{AreAlike}
use Rattle.lab_laws.specs.Joined.{AreJoined, whole_range}

-- The whole of ranges that join.

pub whole-first : (range : Span) (ranges : List Span) → (whole_range range ranges).first ≡ range.first
whole-first range [] = refl
whole-first range (next ∷ ranges) = refl

-- it ends where the first of them ends, or later
whole-last : (range : Span) (ranges : List Span) → AreRanges (range ∷ ranges) → AreJoined range ranges
    → range.last ≤ (whole_range range ranges).last
whole-last range [] are joined = omega arith
whole-last range (next ∷ ranges) are joined =
    let more = whole-last next ranges are.2 joined.1 in
    let order = are.2.0.order in
    omega (arith, more, order, joined.0)

last-digits : (range : Span) (ranges : List Span) → AreRanges (range ∷ ranges)
    → (whole_range range ranges).last < 10 ^ 9
last-digits range [] are = are.0.digits
last-digits range (next ∷ ranges) are = last-digits next ranges are.2

pub whole-is_range : (range : Span) (ranges : List Span) → AreRanges (range ∷ ranges) → AreJoined range ranges
    → IsRange (whole_range range ranges)
whole-is_range range ranges are joined = record {
  order = omega (arith, whole-first range ranges, whole-last range ranges are joined, are.0.order);
  digits = last-digits range ranges are;
}

reaches : (range next : Span) (ranges : List Span) → AreRanges (range ∷ next ∷ ranges) → AreJoined range (next ∷ ranges)
    → range.last ≤ (whole_range next ranges).last
reaches range next ranges are joined =
    let ends = whole-last next ranges are.2 joined.1 in
    let begins = are.2.0.order in
    omega (arith, ends, begins, joined.0)

joins-whole : (range next : Span) (ranges : List Span) → AreJoined range (next ∷ ranges)
    → (whole_range next ranges).first ≡ range.last + 1
joins-whole range next ranges joined = whole-first next ranges ∙ joined.0

-- Slots of two ranges of which the second begins behind the first.

-- a slot lies between two
abbrev lies_between : ℕ → ℕ → ℕ → Bool
lies_between first last slot = nat_le first slot && nat_le slot last

past : (last slot : ℕ) → last < slot → nat_le slot last ≡ false
past last slot more = lt-leb slot last more

in-first : (first last end slot : ℕ) → slot ≤ last → last ≤ end
    → lies_between first last slot ≡ lies_between first end slot
in-first first last end slot within more =
    rw (le-leb slot last within, le-leb slot end (omega (arith, within, more))) refl

not-second : (last end slot : ℕ) → slot ≤ last → lies_between (last + 1) end slot ≡ false
not-second last end slot within = rw (past slot (last + 1) (omega (arith, within))) refl

not-first : (first last slot : ℕ) → last < slot → lies_between first last slot ≡ false
not-first first last slot more = rw (past last slot more) (and-false (nat_le first slot))

in-second : (first last end slot : ℕ) → first ≤ last → last < slot
    → lies_between (last + 1) end slot ≡ lies_between first end slot
in-second first last end slot order more =
    rw (le-leb (last + 1) slot (omega (arith, more)), le-leb first slot (omega (arith, order, more))) refl

second-slots : (first last end a m : ℕ) → first ≤ last → last < a
    → filter (lies_between (last + 1) end) (range_with_len a m) ≡ filter (lies_between first end) (range_with_len a m)
second-slots first last end a zero order more = refl
second-slots first last end a (suc m) order more =
    let here = in-second first last end a order more in
    let rest = second-slots first last end (a + 1) m order (omega (arith, more)) in
    λ i. cond (here i) (a ∷ rest i) (rest i)

slot-before : (b : Bool) (a : ℕ) (xs ys zs : List ℕ) → xs ++ ys ≡ zs → cond b (a ∷ xs) xs ++ ys ≡ cond b (a ∷ zs) zs
slot-before true a xs ys zs same = ap (λ (l : List ℕ). a ∷ l) same
slot-before false a xs ys zs same = same

both-slots : (first last end a m : ℕ) → first ≤ last → last ≤ end
    → filter (lies_between first last) (range_with_len a m) ++ filter (lies_between (last + 1) end) (range_with_len a m)
    ≡ filter (lies_between first end) (range_with_len a m)
both-slots first last end a zero order more = refl
both-slots first last end a (suc m) order more =
    let range = range_with_len (a + 1) m in
    let second = filter (lies_between (last + 1) end) range in
    elim (cases_lt last a) [
      | inl less ↦
          ap (λ (l : List ℕ). l ++ filter (lies_between (last + 1) end) (range_with_len a (suc m)))
          (filter-none (lies_between first last) a (suc m)
          (λ j from. not-first first last j (omega (arith, from, less))))
          ∙ second-slots first last end a (suc m) order less
      | inr within ↦
          ap (λ (b : Bool). filter (lies_between first last) (range_with_len a (suc m)) ++ cond b (a ∷ second) second)
          (not-second last end a within)
          ∙ slot-before (lies_between first last a) a (filter (lies_between first last) range) second
          (filter (lies_between first end) range) (both-slots first last end (a + 1) m order more)
          ∙ ap (λ (b : Bool). cond b (a ∷ filter (lies_between first end) range)
          (filter (lies_between first end) range))
          (in-first first last end a within more)
    ]

slots-joined : (script : Script) (first last end : ℕ) → first ≤ last → last ≤ end
    → slots_between script first last ++ slots_between script (last + 1) end ≡ slots_between script first end
slots-joined script first last end order more = both-slots first last end 0 script.slots order more

between-joined : {X : Type 0} (f : ℕ → List X) (script : Script) (first last end : ℕ) → first ≤ last → last ≤ end
    → flat_map f (slots_between script first last) ++ flat_map f (slots_between script (last + 1) end)
    ≡ flat_map f (slots_between script first end)
between-joined f script first last end order more =
    sym (flat_map-append f (slots_between script first last) (slots_between script (last + 1) end))
    ∙ ap (flat_map f) (slots-joined script first last end order more)

-- whether a slot lies in one of them
or-here : (a b : Bool) → b ≡ false → (a || b) ≡ a
or-here true b none = refl
or-here false b none = none

lies-joined : (first last end slot : ℕ) → first ≤ last → last ≤ end
    → (lies_between first last slot || lies_between (last + 1) end slot) ≡ lies_between first end slot
lies-joined first last end slot order more =
    elim (cases_lt last slot) [
      | inl less ↦
          ap (λ (b : Bool). b || lies_between (last + 1) end slot) (not-first first last slot less)
          ∙ in-second first last end slot order less
      | inr within ↦
          or-here (lies_between first last slot) (lies_between (last + 1) end slot) (not-second last end slot within)
          ∙ in-first first last end slot within more
    ]

-- Counts of two lists.

counts-joined : (list : Medl) (own : Cost) (xs ys : List Cost)
    → counts_together (counts_of list own xs) (counts_of list own ys) ≡ counts_of list own (xs ++ ys)
counts-joined list own xs ys = λ i. record {
  runs = sym (length-append xs ys) i;
  same = counted (is_same_cost list own) i;
  hurt = counted has_hurt i;
  split = counted (λ (c : Cost). is_some c.split) i;
  torn = counted is_torn i;
  dead = counted is_dead i;
}
  where
    counted : (p : Cost → Bool) → count_by p xs + count_by p ys ≡ count_by p (xs ++ ys)
    counted p = sym (sum_by-append (λ c. cond (p c) 1 0) xs ys)

of-both : (list : Medl) (own : Cost) (p : Summary → Bool) (runs : Event → Summary) (xs ys : List Event)
    → counts_together (counts_of list own (costs_of (filter p (map runs xs))))
    (counts_of list own (costs_of (filter p (map runs ys))))
    ≡ counts_of list own (costs_of (filter p (map runs (xs ++ ys))))
of-both list own p runs xs ys =
    counts-joined list own (costs_of (filter p (map runs xs))) (costs_of (filter p (map runs ys)))
    ∙ ap (counts_of list own)
    (sym (ap (λ (ss : List Summary). costs_of (filter p ss)) (map-append runs xs ys)
    ∙ ap costs_of (filter-append p (map runs xs) (map runs ys))
    ∙ map-append (λ (s : Summary). s.cost) (filter p (map runs xs)) (filter p (map runs ys))))

none-added : (c : Counts) → counts_together c no_runs ≡ c
none-added c = λ i. record {
  runs = more c.runs i;
  same = more c.same i;
  hurt = more c.hurt i;
  split = more c.split i;
  torn = more c.torn i;
  dead = more c.dead i;
}
  where
    more : (n : ℕ) → n + 0 ≡ n
    more n = omega arith

-- All that a chart depends on.

module _ (list : Medl) (script : Script) where
  abbrev own_history : History
  own_history = zeros_world list script script.slots

  abbrev told_at_slot : ℕ → List FaultTold
  told_at_slot slot = told_in_slot list script (row_of own_history slot) slot

  abbrev tried_at_slot : ℕ → List Event
  tried_at_slot slot = faults_in list script (row_of own_history slot) slot

  -- a range, and one from the slot behind it on
  module _ (range next : Span) (order : range.first ≤ range.last) (more : range.last ≤ next.last)
      (joins : next.first ≡ range.last + 1) where
    abbrev both : Span
    both = record { first = range.first; last = next.last }

    told-both : faults_over list script range ++ faults_over list script next ≡ faults_over list script both
    told-both =
        ap (λ (first : ℕ). faults_over list script range
        ++ flat_map told_at_slot (slots_between script first next.last)) joins
        ∙ between-joined told_at_slot script range.first range.last next.last order more

    events-both : faults_from list script own_history range.first range.last
        ++ faults_from list script own_history next.first next.last
        ≡ faults_from list script own_history range.first next.last
    events-both =
        ap (λ (first : ℕ). faults_from list script own_history range.first range.last
        ++ flat_map tried_at_slot (slots_between script first next.last)) joins
        ∙ between-joined tried_at_slot script range.first range.last next.last order more

    kept-both : counts_together (piece_over list script range).kept (piece_over list script next).kept
        ≡ (piece_over list script both).kept
    kept-both =
        of-both list (summary list script).cost (λ (s : Summary). s.yes) (summary_with list script)
        (faults_from list script own_history range.first range.last)
        (faults_from list script own_history next.first next.last)
        ∙ ap (λ (es : List Event).
        kept_counts list (summary list script).cost (map (summary_with list script) es)) events-both

    broken-both : counts_together (piece_over list script range).broken (piece_over list script next).broken
        ≡ (piece_over list script both).broken
    broken-both =
        of-both list (summary list script).cost (λ (s : Summary). not s.yes) (summary_with list script)
        (faults_from list script own_history range.first range.last)
        (faults_from list script own_history next.first next.last)
        ∙ ap (λ (es : List Event). broken_counts list (summary list script).cost (map (summary_with list script) es))
        events-both

    tried-both : (t : ℕ)
        → (is_of_piece t (piece_over list script range) || is_of_piece t (piece_over list script next))
        ≡ is_of_piece t (piece_over list script both)
    tried-both t =
        ap (λ (first : ℕ). lies_between range.first range.last t || lies_between first next.last t) joins
        ∙ lies-joined range.first range.last next.last t order more

  -- all ranges, by the whole of those behind the first

  told-all : (range : Span) (ranges : List Span) → AreRanges (range ∷ ranges) → AreJoined range ranges
      → flat_map (faults_over list script) (range ∷ ranges) ≡ faults_over list script (whole_range range ranges)
  told-all range [] are joined = append-nil (faults_over list script range)
  told-all range (next ∷ ranges) are joined =
      let others = whole_range next ranges in
      ap (λ (fs : List FaultTold). faults_over list script range ++ fs) (told-all next ranges are.2 joined.1)
      ∙ told-both range others are.0.order (reaches range next ranges are joined) (joins-whole range next ranges joined)

  kept-all : (range : Span) (ranges : List Span) → AreRanges (range ∷ ranges) → AreJoined range ranges
      → counts_sum (map (λ (piece : Piece). piece.kept) (map (piece_over list script) (range ∷ ranges)))
      ≡ (piece_over list script (whole_range range ranges)).kept
  kept-all range [] are joined = none-added (piece_over list script range).kept
  kept-all range (next ∷ ranges) are joined =
      let others = whole_range next ranges in
      ap (counts_together (piece_over list script range).kept) (kept-all next ranges are.2 joined.1)
      ∙ kept-both range others are.0.order (reaches range next ranges are joined) (joins-whole range next ranges joined)

  broken-all : (range : Span) (ranges : List Span) → AreRanges (range ∷ ranges) → AreJoined range ranges
      → counts_sum (map (λ (piece : Piece). piece.broken) (map (piece_over list script) (range ∷ ranges)))
      ≡ (piece_over list script (whole_range range ranges)).broken
  broken-all range [] are joined = none-added (piece_over list script range).broken
  broken-all range (next ∷ ranges) are joined =
      let others = whole_range next ranges in
      ap (counts_together (piece_over list script range).broken) (broken-all next ranges are.2 joined.1)
      ∙ broken-both range others are.0.order
      (reaches range next ranges are joined) (joins-whole range next ranges joined)

  tried-all : (range : Span) (ranges : List Span) (t : ℕ) → AreRanges (range ∷ ranges) → AreJoined range ranges
      → is_tried (map (piece_over list script) (range ∷ ranges)) t
      ≡ is_of_piece t (piece_over list script (whole_range range ranges))
  tried-all range [] t are joined = or-false (is_of_piece t (piece_over list script range))
  tried-all range (next ∷ ranges) t are joined =
      let others = whole_range next ranges in
      ap (λ (b : Bool). is_of_piece t (piece_over list script range) || b) (tried-all next ranges t are.2 joined.1)
      ∙ tried-both range others are.0.order (reaches range next ranges are joined)
      (joins-whole range next ranges joined) t

  pub joined-alike : (range : Span) (ranges : List Span) → AreRanges (range ∷ ranges) → AreJoined range ranges
      → AreAlike (campaign_over list script (range ∷ ranges))
      (campaign_over list script (whole_range range ranges ∷ []))
  joined-alike range ranges are joined =
      let all = whole_range range ranges in
      record {
        nodes = refl;
        slots = refl;
        own = refl;
        faults = told-all range ranges are joined ∙ sym (append-nil (faults_over list script all));
        tried = λ t.
            tried-all range ranges t are joined ∙ sym (or-false (is_of_piece t (piece_over list script all)));
        kept = kept-all range ranges are joined ∙ sym (none-added (piece_over list script all).kept);
        broken = broken-all range ranges are joined ∙ sym (none-added (piece_over list script all).broken);
      }

-- The texts.

ok-same : {A E : Type 0} (r : Result A E) (x y : A) → r ≡ Ok x → r ≡ Ok y → x ≡ y
ok-same r x y one other = let both = sym one ∙ other in cc

pub texts-alike : (list : Medl) (script : Script) (range : Span) (ranges : List Span) (one other : WholeCampaign)
    → IsValid list → IsValidScript list script → AreRanges (range ∷ ranges) → AreJoined range ranges
    → campaign_in (concat (lines_over list script (range ∷ ranges))) ≡ Ok one
    → campaign_in (concat (campaign_lines list script (whole_range range ranges).first (whole_range range ranges).last))
    ≡ Ok other
    → AreAlike one other
texts-alike list script range ranges one other valid valid_script are joined first second =
    let all = whole_range range ranges in
    let ours : campaign_over list script (range ∷ ranges) ≡ one =
    ok-same (campaign_in (concat (lines_over list script (range ∷ ranges)))) _ one
    (ranges-taken list script valid valid_script range ranges are) first in
    let whole : campaign_over list script (all ∷ []) ≡ other =
    ok-same (campaign_in (concat (lines_over list script (all ∷ [])))) _ other
    (ranges-taken list script valid valid_script all [] (whole-is_range range ranges are joined, tt, tt))
    (ap (λ (lines : Lines). campaign_in (concat lines)) (append-nil (campaign_lines list script all.first all.last))
    ∙ second) in
    subst (λ c. AreAlike c other) ours
    (subst (λ c. AreAlike (campaign_over list script (range ∷ ranges)) c) whole
    (joined-alike list script range ranges are joined))
