-- The line of a fault that is due is read as what its run says.
use Rattle.lab_laws.proofs.Words.{◌≡◌, ℕ, ◌<◌, Bool, true, false, ◌||◌, List, [], ◌∷◌, ◌++◌, length, All, Option}
use Rattle.lab_laws.proofs.Words.{Some, refl, sym, ap, ◌∙◌, arith, codes, is_some, nat_le, list_any, or-false}
use Rattle.lab_laws.proofs.Words.{All-nil, All-cons, All-head, All-tail, list_any-append, newline, has, Medl}
use Rattle.lab_laws.proofs.Words.{Event, Script, IsValid, is_arm, has_arm, IsValidEvent, IsValidScript}
use Rattle.lab_laws.proofs.Words.{nodes-most, ◌>>=◌, unended, cost_words, fault_words, summary, own_line}
use Rattle.lab_laws.proofs.Words.{fault_slot, fault_node, summary_with, run_line, Doing, Piece, Spot}
use Rattle.lab_laws.proofs.Words.{without_feed, RunWords, is_same_test, place_behind, stands_behind, lies_in}
use Rattle.lab_laws.proofs.Words.{is_spot_due, fault_line_in, fault_told, own_in, Common, HasSlots, test_said_if}
use Rattle.lab_laws.proofs.Words.{test_said, own_told, doing_of, shown_of_run}
use Rattle.std.proofs.lemmas.List.Elements.{All-push}
use Rattle.ttp_world.specs.declared.script.Event.TheVariants as event
use Rattle.campaign.specs.Tried.{with_fault}
use Rattle.lab_laws.proofs.FromBelow.{bytes_eq-sym}
use Rattle.whole_campaign.specs.declared.due.Due.TheVariants as due
use Rattle.whole_campaign.specs.Own.{OwnShown, own_of_line}
use Rattle.lab_laws.proofs.TestBounds.{valid-slots}
use Rattle.lab_laws.proofs.WordsCut.{feed-again, run-again}
use Rattle.lab_laws.proofs.CostsRead.{cost-words, cost-again}
use Rattle.lab_laws.proofs.FaultsRead.{IsTriedAt, spot_at}
use Rattle.lab_laws.proofs.LinesRead.{IsEnded, IsRunRead, run-read, own_text, own-ended, own-again, fault_text}
use Rattle.lab_laws.proofs.LinesRead.{fault-ended, fault-words-read, in-read, spot-read, shown-read}

-- A script with one fault more.

valid-among : (list : Medl) (script : Script) (events : List Event) (e : Event) → IsValidEvent list script e
    → IsValidEvent list (record script { events = events }) e
valid-among list script events (event.Send node channels f from to) valid = valid
valid-among list script events e valid = valid

all-among : (list : Medl) (script : Script) (events es : List Event) → All (IsValidEvent list script) es
    → All (IsValidEvent list (record script { events = events })) es
all-among list script events [] all = All-nil (IsValidEvent list (record script { events = events }))
all-among list script events (e ∷ es) all =
    All-cons (IsValidEvent list (record script { events = events })) e es
    (valid-among list script events e (All-head (IsValidEvent list script) e es all))
    (all-among list script events es (All-tail (IsValidEvent list script) e es all))

-- it has the slots of the script
slots-with : (list : Medl) (script : Script) (e : Event) → IsValidScript list script → IsValidEvent list script e
    → HasSlots list (with_fault script e)
slots-with list script e valid stands = record {
  slots = valid.slots;
  on = valid.on;
  events = All-push (IsValidEvent list (with_fault script e)) script.events e
      (all-among list script (script.events ++ e ∷ []) script.events valid.events)
      (valid-among list script (script.events ++ e ∷ []) e stands);
}

-- A script with one event more, which arms no node, is asked by the test that it was asked by.
armed-with : (script : Script) (e : Event) → is_arm e ≡ false → has_arm (with_fault script e) ≡ has_arm script
armed-with script e unarmed =
    list_any-append is_arm script.events (e ∷ [])
    ∙ ap (λ (b : Bool). has_arm script || (b || false)) unarmed ∙ or-false (has_arm script)

same-kind : (list : Medl) (a b : Script) (arms : Bool)
    → is_same_test (test_said_if list a arms) (test_said_if list b arms) ≡ true
same-kind list a b true = refl
same-kind list a b false = refl

same-test : (list : Medl) (script : Script) (e : Event) → is_arm e ≡ false
    → is_same_test (test_said list script) (test_said list (with_fault script e)) ≡ true
same-test list script e unarmed =
    ap (λ (b : Bool). is_same_test (test_said list script) (test_said_if list (with_fault script e) b))
    (armed-with script e unarmed) ∙ same-kind list script (with_fault script e) (has_arm script)

-- What all lines have in common.

abbrev pub common : Medl → Script → Common
common list script = record { nodes = length list.slots; slots = script.slots; own = own_told list script }

module _ (list : Medl) (script : Script) (valid : IsValid list) (valid_script : IsValidScript list script) where
  own-run : IsRunRead list script (summary list script) (test_said list script)
  own-run = run-read list script valid (valid-slots list script valid_script)

  pub own-line-ended : IsEnded (own_line list (summary list script)) (own_told list script).text
  own-line-ended =
      let s = summary list script in
      let ended = own-ended list script s (test_said list script) own-run in
      let same : unended (own_line list s) ≡ own_text list s =
      ap unended ended.ends ∙ (feed-again (own_text list s)).1 in
      record { ends = ended.ends ∙ ap (λ (t : List ℕ). t ++ newline) (sym same); feed = ap (has 10) same ∙ ended.feed }

  pub own-taken : own_of_line (length list.slots) script.slots (own_line list (summary list script))
      ≡ Some (own_told list script)
  unfolding own_of_line
  own-taken =
      let s = summary list script in
      let t = test_said list script in
      let ended = own-ended list script s t own-run in
      let same : own_text list s ≡ unended (own_line list s) =
      sym (ap unended ended.ends ∙ (feed-again (own_text list s)).1) in
      ap (λ (line : List ℕ). without_feed line >>= own_in (length list.slots) script.slots) ended.ends
      ∙ ap (λ (o : Option (List ℕ)). o >>= own_in (length list.slots) script.slots) (feed-again (own_text list s)).0
      ∙ own-again list script s t valid_script.slots.1 own-run
      ∙ ap (λ (text : List ℕ). (let own : OwnShown = record {
        text = text;
        test_text = s.test;
        cost = cost_words list s.cost;
        test = t;
      } in Some own)) same

  run-with : (e : Event) → IsValidEvent list script e
      → IsRunRead list (with_fault script e) (summary_with list script e) (test_said list (with_fault script e))
  run-with e stands = run-read list (with_fault script e) valid (slots-with list script e valid_script stands)

  module _ (slot k : ℕ) (d : Doing) (place : ℕ) (e : Event) (tried : IsTriedAt list script slot k d place e) where
    pub run-line-ended : IsEnded (run_line list script e) (fault_text list e (summary_with list script e))
    run-line-ended =
        fault-ended list (with_fault script e) e (summary_with list script e) (test_said list (with_fault script e))
        (run-with e tried.valid) tried.feed

    words-of : RunWords
    words-of =
        let s = summary_with list script e in
        record { test = s.test; cost = cost_words list s.cost; fault = fault_words e }

    pub fault-again : (piece : Piece) (before : Option Spot) → k < length list.slots → slot < script.slots
        → place_behind before d ≡ place → stands_behind before (spot_at slot k d place) ≡ true
        → lies_in (common list script) piece (spot_at slot k d place) ≡ true
        → fault_told (common list script) (due.Fault piece before) (run_line list script e)
        ≡ Some (shown_of_run list script place e (summary_with list script e))
    unfolding fault_told words-of
    fault-again piece before node inside at stands lies =
        let frame = common list script in
        let s = summary_with list script e in
        let t = test_said list (with_fault script e) in
        let read = run-with e tried.valid in
        let text = fault_text list e s in
        let spot : Spot = spot_at (fault_slot e) (fault_node e) (doing_of e) place in
        let same : spot ≡ spot_at slot k d place =
        λ i. spot_at (tried.begins i) (tried.of_node i) (tried.does i) place in
        let cut = fault-words-read (fault_slot e) (fault_node e)
        (s.test ++ (codes " " ++ (cost_words list s.cost ++ (codes " fault " ++ fault_words e)))) words-of
        (omega (arith, tried.begins, inside, valid_script.slots))
        (omega (arith, tried.of_node, node, nodes-most list valid))
        (run-again s.test (cost_words list s.cost) (fault_words e) read.test_words (cost-words list s.cost)) in
        let found = spot-read before (fault_slot e) (fault_node e) place (doing_of e) words-of
        (tried.first ∙ ap (λ (x : Doing). Some x) (sym tried.does)) (ap (place_behind before) tried.does ∙ at) in
        let tells = shown-read frame spot words-of t _ read.said
        (cost-again list (length list.slots) script.slots s.cost valid_script.slots.1 read.cost)
        (same-test list script e tried.unarmed) in
        let due_there : is_spot_due frame piece before spot (fault_words e) ≡ true =
        ap (λ (x : Spot). is_spot_due frame piece before x (fault_words e)) same
        ∙ rw (lies, stands, tried.words) refl in
        ap (λ (line : List ℕ). without_feed line >>= fault_line_in frame piece before) run-line-ended.ends
        ∙ ap (λ (o : Option (List ℕ)). o >>= fault_line_in frame piece before) (feed-again text).0
        ∙ in-read frame piece before text
        (record { slot = fault_slot e; node = fault_node e; run = words-of }) spot _ cut
        found tells due_there
        ∙ (λ i. Some (record {
          slot = fault_slot e;
          node = fault_node e;
          doing = doing_of e;
          place = place;
          yes = read.yes i;
          same = bytes_eq-sym (cost_words list s.cost) (cost_words list (summary list script).cost) i;
          hurt = length s.cost.hurt;
          split = is_some s.cost.split;
          memberships = length s.cost.end;
          company = list_any (λ members. nat_le 2 (length members)) s.cost.end;
        }))
