-- The faults of a node in a slot, those of a slot and those of a range are due one behind another.
use Rattle.lab_laws.proofs.Words.{◌≡◌, ℕ, zero, suc, ◌+◌, ◌<◌, ◌≤◌, Bool, true, cond, ◌&&◌, List, [], ◌∷◌, ◌++◌}
use Rattle.lab_laws.proofs.Words.{length, Option, Some, None, IfSome, refl, sym, ap, subst, ◌∙◌, arith}
use Rattle.lab_laws.proofs.Words.{append_assoc, nat_lt, map, filter, flat_map, list_any, range_with_len, or-true}
use Rattle.lab_laws.proofs.Words.{cond_both, eq-eqb, le-leb, lt-ltb, Lines, Medl, Entry, Event, Script, History}
use Rattle.lab_laws.proofs.Words.{entry_of, IsValid, IsValidScript, nodes-most, summary_with, run_line}
use Rattle.lab_laws.proofs.Words.{losses_from, jump_sizes, Due, Doing, FaultShown, Piece, Spot, is_last_place}
use Rattle.lab_laws.proofs.Words.{place_behind, stands_behind, lies_in, with_fault_counted, spot_of}
use Rattle.lab_laws.proofs.Words.{is_between_groups, FaultTold, shown_of_run}
use Rattle.std.proofs.Common.{inl, inr}
use Rattle.std.specs.Prelude.{◌⊎◌}
use Rattle.std.proofs.lemmas.List.{map-append}
use Rattle.ttp_world.specs.declared.script.Event.TheVariants as event
use Rattle.ttp_world.specs.Medium.{is_sending}
use Rattle.campaign.specs.Tried.{is_hearing, is_timed, losses_of, jumps_of, faults_of, faults_in}
use Rattle.campaign.specs.Tried.{row_of}
use Rattle.whole_campaign.specs.declared.due.Due.TheVariants as due
use Rattle.whole_campaign.specs.declared.shown.Doing.TheVariants as doing
use Rattle.whole_campaign.specs.Faults.{first_place, is_later, is_same_doing}
use Rattle.lab_laws.specs.TakenCampaign.{run_told, told_from, told_of_node, told_in_slot}
use Rattle.lab_laws.proofs.FaultsRead.{IsTriedAt, AreTriedFrom, spot_at, sent-tried, heard-tried, jumps-tried}
use Rattle.lab_laws.proofs.Counted.{shown_of, placed-counted, counted, counted-append}
use Rattle.lab_laws.proofs.RunsRead.{common, run-line-ended, fault-again}
use Rattle.lab_laws.proofs.GoingOn.{GoesOn, ended-line, fault-line}
use Rattle.lab_laws.proofs.LinesRead.{fault_text}

-- Spots behind others.

-- a whole group stands before the faults of node k in a slot
abbrev IsEarlier : ℕ → ℕ → Option Spot → Type 0
IsEarlier slot k before =
    IfSome before (λ b. (is_last_place b.place ≡ true) × ((b.slot < slot) ⊎ ((b.slot ≡ slot) × (b.node < k))))

earlier-still : (slot k j : ℕ) (before : Option Spot) → k ≤ j → IsEarlier slot k before → IsEarlier slot j before
earlier-still slot k j None more is = tt
earlier-still slot k j (Some b) more is =
    (is.0, elim is.1 [ inl less ↦ inl less | inr same ↦ inr (same.0, omega (arith, same.1, more)) ])

earlier-slot : (slot k : ℕ) (before : Option Spot) → IsEarlier slot k before → IsEarlier (slot + 1) 0 before
earlier-slot slot k None is = tt
earlier-slot slot k (Some b) is =
    (is.0, elim is.1 [ inl less ↦ inl (omega (arith, less)) | inr same ↦ inl (omega (arith, same.0)) ])

earlier-next : (slot k : ℕ) (before : Option Spot) → IsEarlier slot k before → IsEarlier (slot + 1) k before
earlier-next slot k None is = tt
earlier-next slot k (Some b) is =
    (is.0, elim is.1 [ inl less ↦ inl (omega (arith, less)) | inr same ↦ inl (omega (arith, same.0)) ])

between : (slot k : ℕ) (before : Option Spot) → IsEarlier slot k before → is_between_groups before ≡ true
between slot k None is = refl
between slot k (Some b) is = is.0

later-spot : (b s : Spot) → (b.slot < s.slot) ⊎ ((b.slot ≡ s.slot) × (b.node < s.node)) → is_later b s ≡ true
later-spot b s (inl less) = rw (lt-ltb b.slot s.slot less) refl
later-spot b s (inr same) =
    rw (eq-eqb s.slot b.slot (sym same.0), lt-ltb b.node s.node same.1) (or-true (nat_lt b.slot s.slot))

first-behind : (slot k : ℕ) (d : Doing) (before : Option Spot) → IsEarlier slot k before
    → place_behind before d ≡ first_place d
first-behind slot k d None is = refl
first-behind slot k d (Some b) is = rw is.0 refl

stands-first : (slot k place : ℕ) (d : Doing) (before : Option Spot) → IsEarlier slot k before
    → stands_behind before (spot_at slot k d place) ≡ true
stands-first slot k place d None is = refl
stands-first slot k place d (Some b) is = rw (is.0, later-spot b (spot_at slot k d place) is.1) refl

same-doing : (d : Doing) → is_same_doing d d ≡ true
same-doing doing.Send = refl
same-doing d = refl

-- the jumps of a node in a slot may come next, or those who are later
record IsReady (slot k : ℕ) (before : Option Spot) : Type 0 where
  place : place_behind before doing.Jump ≡ 12
  stands : stands_behind before (spot_at slot k doing.Jump 12) ≡ true
  next : IsEarlier slot (k + 1) before

ready-first : (slot k : ℕ) (before : Option Spot) → IsEarlier slot k before → IsReady slot k before
ready-first slot k before is = record {
  place = first-behind slot k doing.Jump before is;
  stands = stands-first slot k 12 doing.Jump before is;
  next = earlier-still slot k (k + 1) before (omega arith) is;
}

ready-behind : (slot k : ℕ) (d : Doing) → IsReady slot k (Some (spot_at slot k d 11))
ready-behind slot k d = record {
  place = refl;
  stands = rw (eq-eqb slot slot refl, eq-eqb k k refl) (or-true _);
  next = (refl, inr (refl, omega arith));
}

-- Pieces keep their range.

abbrev IsAround : ℕ → Piece → Type 0
IsAround slot piece = (piece.first ≤ slot) × (slot ≤ piece.last)

around-one : (slot : ℕ) (f : FaultShown) (piece : Piece) → IsAround slot piece
    → IsAround slot (with_fault_counted f piece)
around-one slot f piece is = is

module _ (list : Medl) (script : Script) (valid : IsValid list) (valid_script : IsValidScript list script) where
  abbrev Goes : Due → Lines → List FaultTold → List Piece → Type 0
  Goes d lines faults pieces = GoesOn (common list script) d lines faults pieces

  same-goes : (d : Due) (lines others : Lines) (faults told : List FaultTold) (pieces : List Piece) → lines ≡ others
      → faults ≡ told → Goes d lines faults pieces → Goes d others told pieces
  same-goes d lines others faults told pieces p q goes =
      subst (λ (ls : Lines). Goes d ls told pieces) p (subst (λ (fs : List FaultTold). Goes d lines fs pieces) q goes)

  around-all : (slot : ℕ) (es : List Event) (piece : Piece) → IsAround slot piece
      → IsAround slot (counted list script piece es)
  around-all slot [] piece is = is
  around-all slot (e ∷ es) piece is =
      around-all slot es (with_fault_counted (shown_of list script e) piece)
      (around-one slot (shown_of list script e) piece is)

  module _ (slot k : ℕ) (node : k < length list.slots) (inside : slot < script.slots) where
    lies : (piece : Piece) (d : Doing) (place : ℕ) → IsAround slot piece
        → lies_in (common list script) piece (spot_at slot k d place) ≡ true
    lies piece d place around =
        rw (
          lt-ltb k (length list.slots) node,
          lt-ltb slot script.slots inside,
          le-leb piece.first slot around.0,
          le-leb slot piece.last around.1,
        ) refl

    -- the line of a fault, before what is due behind its spot
    one-goes : (d : Doing) (place : ℕ) (e : Event) (piece : Piece) (before : Option Spot) (rest : Lines)
        (faults : List FaultTold) (pieces : List Piece) → IsTriedAt list script slot k d place e
        → place_behind before d ≡ place → stands_behind before (spot_at slot k d place) ≡ true → IsAround slot piece
        → Goes (due.Fault (with_fault_counted (shown_of list script e) piece)
        (Some (spot_at slot k d place))) rest faults
        pieces
        → Goes (due.Fault piece before) (run_line list script e ∷ rest) (run_told list script place e ∷ faults) pieces
    one-goes d place e piece before rest faults pieces tried at stands around goes =
        let f = shown_of_run list script place e (summary_with list script e) in
        let same : spot_at slot k d place ≡ spot_of f =
        λ i. spot_at (sym tried.begins i) (sym tried.of_node i) (sym tried.does i) place in
        fault-line (common list script) piece before (run_line list script e) rest f faults pieces
        (ended-line (run_line list script e) (fault_text list e (summary_with list script e))
        (run-line-ended list script valid valid_script slot k d place e tried))
        (fault-again list script valid valid_script slot k d place e tried piece before node inside at stands
        (lies piece d place around))
        (subst (λ (s : Spot). Goes (due.Fault (with_fault_counted f piece) (Some s)) rest faults pieces) same
        (subst (λ (p : Piece). Goes (due.Fault p (Some (spot_at slot k d place))) rest faults pieces)
        (placed-counted list script place e piece) goes))

    group-goes : (d : Doing) (last place : ℕ) (es : List Event) (piece : Piece) (before : Option Spot) (rest : Lines)
        (faults : List FaultTold) (pieces : List Piece) → AreTriedFrom list script slot k d last place es
        → place_behind before d ≡ place → stands_behind before (spot_at slot k d place) ≡ true → IsAround slot piece
        → Goes (due.Fault (counted list script piece es) (Some (spot_at slot k d last))) rest faults pieces
        → Goes (due.Fault piece before) (map (run_line list script) es ++ rest)
        (told_from list script place es ++ faults)
        pieces
    group-goes d last place [] piece before rest faults pieces are at stands around goes = absurd are
    group-goes d last place (e ∷ []) piece before rest faults pieces are at stands around goes =
        one-goes d place e piece before rest faults pieces are.0 at stands around
        (subst (λ (p : ℕ). Goes (due.Fault
        (with_fault_counted (shown_of list script e) piece) (Some (spot_at slot k d p)))
        rest faults pieces) (sym are.1) goes)
    group-goes d last place (e ∷ f ∷ es) piece before rest faults pieces are at stands around goes =
        one-goes d place e piece before (map (run_line list script) (f ∷ es) ++ rest)
        (told_from list script (place + 1) (f ∷ es) ++ faults) pieces are.0 at stands around
        (group-goes d last (place + 1) (f ∷ es) (with_fault_counted (shown_of list script e) piece)
        (Some (spot_at slot k d place)) rest faults pieces are.2 (rw are.1 refl)
        (rw (are.1, eq-eqb slot slot refl, eq-eqb k k refl, same-doing d) refl)
        (around-one slot (shown_of list script e) piece around) goes)

    module _ (row : List Entry) (piece : Piece) (before : Option Spot) (rest : Lines) (faults : List FaultTold)
        (pieces : List Piece) (around : IsAround slot piece) where
      -- what is due before some faults, from this place on, where others are due behind them
      abbrev ComeFirst : (Option Spot → Type 0) → ℕ → List Event → Type 0
      ComeFirst Next place es =
          ((after : Option Spot) → Next after
          → Goes (due.Fault (counted list script piece es) after) rest faults pieces)
          → Goes (due.Fault piece before) (map (run_line list script) es ++ rest)
          (told_from list script place es ++ faults) pieces

      losses-goes : IsEarlier slot k before → ComeFirst (IsReady slot k) 0 (losses_of script row slot k)
      losses-goes is =
          let P = ComeFirst (IsReady slot k) 0 in
          let heard = is_hearing (entry_of row k) && list_any is_sending row in
          cond_both (is_sending (entry_of row k)) (losses_from (event.Send k) script slot)
          (cond heard (losses_from (event.Receive k) script slot) []) P
          (λ sends go. group-goes doing.Send 11 0
          (losses_from (event.Send k) script slot) piece before rest faults pieces
          (sent-tried list script slot k node inside) (first-behind slot k doing.Send before is)
          (stands-first slot k 0 doing.Send before is) around
          (go (Some (spot_at slot k doing.Send 11)) (ready-behind slot k doing.Send)))
          (λ other. cond_both heard (losses_from (event.Receive k) script slot) [] P
          (λ hears go. group-goes doing.Receive 11 0
          (losses_from (event.Receive k) script slot) piece before rest faults
          pieces (heard-tried list script slot k node inside) (first-behind slot k doing.Receive before is)
          (stands-first slot k 0 doing.Receive before is) around
          (go (Some (spot_at slot k doing.Receive 11)) (ready-behind slot k doing.Receive)))
          (λ none go. go before (ready-first slot k before is)))

      jumps-goes : IsReady slot k before → ComeFirst (IsEarlier slot (k + 1)) 12 (jumps_of list row slot k)
      jumps-goes ready =
          cond_both (is_timed (entry_of row k)) (map (λ z. event.Jump k z slot) (jump_sizes list)) []
          (ComeFirst (IsEarlier slot (k + 1)) 12)
          (λ timed go. group-goes doing.Jump 15 12 (map (λ z. event.Jump k z slot) (jump_sizes list)) piece before rest
          faults pieces
          (jumps-tried list script slot k valid node (nodes-most list valid) inside valid_script.slots.1) ready.place
          ready.stands around (go (Some (spot_at slot k doing.Jump 15)) (refl, inr (refl, omega arith))))
          (λ none go. go before ready.next)

    node-goes : (row : List Entry) (piece : Piece) (before : Option Spot) (rest : Lines) (faults : List FaultTold)
        (pieces : List Piece) → IsAround slot piece → IsEarlier slot k before
        → ((after : Option Spot) → IsEarlier slot (k + 1) after
        → Goes (due.Fault (counted list script piece (faults_of list script row slot k)) after) rest faults pieces)
        → Goes (due.Fault piece before) (map (run_line list script) (faults_of list script row slot k) ++ rest)
        (told_of_node list script row slot k ++ faults) pieces
    node-goes row piece before rest faults pieces around is go =
        let losses = losses_of script row slot k in
        let jumps = jumps_of list row slot k in
        let line = run_line list script in
        same-goes (due.Fault piece before) (map line losses ++ (map line jumps ++ rest))
        (map line (losses ++ jumps) ++ rest)
        (told_from list script 0 losses ++ (told_from list script 12 jumps ++ faults))
        (told_of_node list script row slot k ++ faults) pieces
        (sym (ap (λ (ls : Lines). ls ++ rest) (map-append line losses jumps)
        ∙ append_assoc (map line losses) (map line jumps) rest))
        (sym (append_assoc (told_from list script 0 losses) (told_from list script 12 jumps) faults))
        (losses-goes row piece before (map line jumps ++ rest)
        (told_from list script 12 jumps ++ faults) pieces around is
        (λ after ready. jumps-goes row (counted list script piece losses) after rest faults pieces
        (around-all slot losses piece around) ready
        (λ end next. subst (λ (p : Piece). Goes (due.Fault p end) rest faults pieces)
        (counted-append list script piece losses jumps) (go end next))))

  -- All of a slot.

  nodes-goes : (row : List Entry) (slot a m : ℕ) (piece : Piece) (before : Option Spot) (rest : Lines)
      (faults : List FaultTold) (pieces : List Piece) → slot < script.slots → a + m ≤ length list.slots
      → IsAround slot piece → IsEarlier slot a before
      → ((after : Option Spot) → IsEarlier slot (a + m) after
      → Goes (due.Fault (counted list script piece
      (flat_map (faults_of list script row slot) (range_with_len a m))) after)
      rest faults pieces)
      → Goes (due.Fault piece before)
      (map (run_line list script) (flat_map (faults_of list script row slot) (range_with_len a m)) ++ rest)
      (flat_map (told_of_node list script row slot) (range_with_len a m) ++ faults) pieces
  nodes-goes row slot a zero piece before rest faults pieces inside few around is go =
      go before (earlier-still slot a (a + 0) before (omega arith) is)
  nodes-goes row slot a (suc m) piece before rest faults pieces inside few around is go =
      let first = faults_of list script row slot a in
      let others = flat_map (faults_of list script row slot) (range_with_len (a + 1) m) in
      let told = told_of_node list script row slot a in
      let more = flat_map (told_of_node list script row slot) (range_with_len (a + 1) m) in
      let line = run_line list script in
      same-goes (due.Fault piece before)
      (map line first ++ (map line others ++ rest)) (map line (first ++ others) ++ rest)
      (told ++ (more ++ faults)) ((told ++ more) ++ faults) pieces
      (sym (ap (λ (ls : Lines). ls ++ rest) (map-append line first others)
      ∙ append_assoc (map line first) (map line others) rest)) (sym (append_assoc told more faults))
      (node-goes slot a (omega (arith, few)) inside row piece before
      (map line others ++ rest) (more ++ faults) pieces around
      is
      (λ after next. nodes-goes row slot (a + 1) m (counted list script piece first) after rest faults pieces inside
      (omega (arith, few)) (around-all slot first piece around) next
      (λ end last. subst (λ (p : Piece). Goes (due.Fault p end) rest faults pieces)
      (counted-append list script piece first others)
      (go end (earlier-still slot (a + 1 + m) (a + suc m) end (omega arith) last)))))

  -- All of a range.

  module _ (history : History) (p : ℕ → Bool) where
    abbrev faults_at : ℕ → List Event
    faults_at slot = faults_in list script (row_of history slot) slot

    abbrev told_at_slot : ℕ → List FaultTold
    told_at_slot slot = told_in_slot list script (row_of history slot) slot

    pub slots-goes : (a m : ℕ) (piece : Piece) (before : Option Spot) (rest : Lines) (faults : List FaultTold)
        (pieces : List Piece) → a + m ≤ script.slots → ((slot : ℕ) → p slot ≡ true → IsAround slot piece)
        → IsEarlier a 0 before
        → ((after : Option Spot) → is_between_groups after ≡ true
        → Goes (due.Fault (counted list script piece (flat_map faults_at (filter p (range_with_len a m)))) after) rest
        faults
        pieces)
        → Goes (due.Fault piece before)
        (map (run_line list script) (flat_map faults_at (filter p (range_with_len a m))) ++ rest)
        (flat_map told_at_slot (filter p (range_with_len a m)) ++ faults) pieces
    slots-goes a zero piece before rest faults pieces few around is = λ go. go before (between a 0 before is)
    slots-goes a (suc m) piece before rest faults pieces few around is =
        let slots = filter p (range_with_len (a + 1) m) in
        let line = run_line list script in
        let P : List ℕ → Type 0 = λ ts.
        ((after : Option Spot) → is_between_groups after ≡ true
        → Goes (due.Fault (counted list script piece (flat_map faults_at ts)) after) rest faults pieces)
        → Goes (due.Fault piece before) (map line (flat_map faults_at ts) ++ rest) (flat_map told_at_slot ts ++ faults)
        pieces in
        cond_both (p a) (a ∷ slots) slots P
        (λ kept go. let first = faults_at a in
        let others = flat_map faults_at slots in
        let told = told_at_slot a in
        let more = flat_map told_at_slot slots in
        same-goes (due.Fault piece before) (map line first ++ (map line others ++ rest))
        (map line (first ++ others) ++ rest) (told ++ (more ++ faults)) ((told ++ more) ++ faults) pieces
        (sym (ap (λ (ls : Lines). ls ++ rest) (map-append line first others)
        ∙ append_assoc (map line first) (map line others) rest)) (sym (append_assoc told more faults))
        (nodes-goes (row_of history a) a 0 (length list.slots) piece before
        (map line others ++ rest) (more ++ faults) pieces
        (omega (arith, few)) (omega arith) (around a kept) is
        (λ after next. slots-goes (a + 1) m (counted list script piece first)
        after rest faults pieces (omega (arith, few))
        (λ slot is_kept. around-all slot first piece (around slot is_kept))
        (earlier-slot a (0 + length list.slots) after next)
        (λ end ends. subst (λ (q : Piece). Goes (due.Fault q end) rest faults pieces)
        (counted-append list script piece first others) (go end ends)))))
        (λ out go. slots-goes (a + 1) m piece before rest faults pieces (omega (arith, few)) around
        (earlier-next a 0 before is) go)
