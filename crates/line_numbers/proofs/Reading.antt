-- A file that is read line by line.
use Rattle.std.proofs.Common.{◌≡◌, ℕ, suc, ◌+◌, ◌<◌, ◌≤◌, Bool, true}
use Rattle.std.proofs.Common.{false, List, [], ◌∷◌, ◌++◌, length, get_or}
use Rattle.std.proofs.Common.{ap, sym, ◌∙◌, arith, add-one, append_assoc, map}
use Rattle.std.specs.Prelude.{vec_len, slice_index, if◌then◌else◌}
use Rattle.std.proofs.lemmas.List.{append-nil, ext_get_or}
use Rattle.std.proofs.lemmas.List.FromFn.{get_or-map-range_with_len, length-map-range_with_len}
use Rattle.ttp_base.specs.NodeSet.{below}
use Rattle.causes.specs.declared.cause.LineNumbers.{LineNumbers}
unfoldable use Rattle.script_text.specs.Lines.{lines_of_file, words_of_line}
use Rattle.line_numbers.specs.declared.numbers.SoFar.{SoFar}
use Rattle.line_numbers.specs.Numbers.{switches_on, sets_drift}
use Rattle.line_numbers.specs.Numbers.{states_event, last_line_saying, lines_saying}
unfoldable use Rattle.line_numbers.specs.Numbers.{line_numbers_in}
use Rattle.line_numbers.specs.SoFar.{KeepsLine, IsEmpty}

-- A loop over lines: what is kept of those so far, and what follows, is what all lines say.
pub record IsReading (nodes : ℕ) (text : List ℕ) (so_far : SoFar) (number : ℕ) (rest : List ℕ) : Type 0 where
  pub on_count : vec_len so_far.on ≡ nodes
  pub drift_count : vec_len so_far.drift ≡ nodes
  pub on : (k : ℕ) → k < nodes
      → last_line_saying (switches_on k) (slice_index so_far.on.items k) number (lines_of_file rest)
      ≡ last_line_saying (switches_on k) 0 1 (lines_of_file text)
  pub drift : (k : ℕ) → k < nodes
      → last_line_saying (sets_drift k) (slice_index so_far.drift.items k) number (lines_of_file rest)
      ≡ last_line_saying (sets_drift k) 0 1 (lines_of_file text)
  pub events : so_far.events ++ lines_saying states_event number (lines_of_file rest)
      ≡ lines_saying states_event 1 (lines_of_file text)
  pub count : number + length rest ≤ length text + 1

pub IsReading-none : (nodes : ℕ) (text : List ℕ) (so_far : SoFar)
    → IsEmpty nodes so_far → IsReading nodes text so_far 1 text
IsReading-none nodes text so_far empty = record {
  on_count = empty.on_count;
  drift_count = empty.drift_count;
  on = λ k within. ap (λ (n : ℕ). last_line_saying (switches_on k) n 1 (lines_of_file text)) (empty.on k);
  drift = λ k within. ap (λ (n : ℕ). last_line_saying (sets_drift k) n 1 (lines_of_file text)) (empty.drift k);
  events = ap (λ (found : List ℕ). found ++ lines_saying states_event 1 (lines_of_file text)) empty.events;
  count = omega arith;
}

-- the last number, with one line more
last-more : (says : List (List ℕ) → Bool) (found now number : ℕ) (rest line more : List ℕ)
    → lines_of_file rest ≡ line ∷ lines_of_file more
    → now ≡ (if says (words_of_line line) then number else found)
    → last_line_saying says now (number + 1) (lines_of_file more)
    ≡ last_line_saying says found number (lines_of_file rest)
last-more says found now number rest line more cut is =
    ap (λ (n : ℕ). last_line_saying says n (number + 1) (lines_of_file more)) is
    ∙ (ap (λ (n : ℕ). last_line_saying says (if says (words_of_line line) then number else found)
    n (lines_of_file more)) (add-one number)
    ∙ sym (ap (last_line_saying says found number) cut))

-- the numbers of events, with one line more
numbers-if : (found numbers : List ℕ) (number : ℕ) (b : Bool)
    → (found ++ (if b then number ∷ [] else [])) ++ numbers ≡ found ++ (if b then number ∷ numbers else numbers)
numbers-if found numbers number true = append_assoc found (number ∷ []) numbers
numbers-if found numbers number false = append_assoc found [] numbers

events-more : (found now : List ℕ) (number : ℕ) (rest line more : List ℕ)
    → lines_of_file rest ≡ line ∷ lines_of_file more
    → now ≡ found ++ (if states_event (words_of_line line) then number ∷ [] else [])
    → now ++ lines_saying states_event (number + 1) (lines_of_file more)
    ≡ found ++ lines_saying states_event number (lines_of_file rest)
events-more found now number rest line more cut is =
    let said = states_event (words_of_line line) in
    let others = lines_saying states_event (suc number) (lines_of_file more) in
    ap (λ (f : List ℕ). f ++ lines_saying states_event (number + 1) (lines_of_file more)) is
    ∙ (ap (λ (n : ℕ). (found ++ (if said then number ∷ [] else []))
    ++ lines_saying states_event n (lines_of_file more)) (add-one number)
    ∙ (numbers-if found others number said
    ∙ sym (ap (λ (lines : List (List ℕ)). found ++ lines_saying states_event number lines) cut)))

pub IsReading-more : (nodes : ℕ) (text : List ℕ) (old new : SoFar) (number : ℕ) (rest line more : List ℕ)
    → IsReading nodes text old number rest → lines_of_file rest ≡ line ∷ lines_of_file more
    → length more < length rest → KeepsLine number (words_of_line line) old new
    → IsReading nodes text new (number + 1) more
IsReading-more nodes text old new number rest line more reading cut shorter takes = record {
  on_count = takes.on_count ∙ reading.on_count;
  drift_count = takes.drift_count ∙ reading.drift_count;
  on = λ k within.
      let kept = takes.on k (omega (arith, within, reading.on_count)) in
      last-more (switches_on k) (slice_index old.on.items k) (slice_index new.on.items k) number rest line more cut kept
      ∙ reading.on k within;
  drift = λ k within.
      let kept = takes.drift k (omega (arith, within, reading.drift_count)) in
      last-more (sets_drift k) (slice_index old.drift.items k)
      (slice_index new.drift.items k) number rest line more cut kept
      ∙ reading.drift k within;
  events = events-more old.events new.events number rest line more cut takes.events ∙ reading.events;
  count = let left = reading.count in omega (arith, left, shorter);
}

-- no line is left
numbers-end : (nodes : ℕ) (kept : List ℕ) (last : ℕ → ℕ) → length kept ≡ nodes
    → ((k : ℕ) → k < nodes → get_or kept k 0 ≡ last k) → kept ≡ map last (below nodes)
numbers-end nodes kept last count each =
    ext_get_or 0 kept (map last (below nodes)) (count ∙ sym (length-map-range_with_len last 0 nodes))
    (λ k within.
    each k (omega (arith, within, count))
    ∙ sym (get_or-map-range_with_len last 0 nodes k k 0 (omega (arith, within, count)) (omega arith)))

-- the last number, where no line is left
last-end : (says : List (List ℕ) → Bool) (kept number last : ℕ) (rest : List ℕ) → lines_of_file rest ≡ []
    → last_line_saying says kept number (lines_of_file rest) ≡ last → kept ≡ last
last-end says kept number last rest done is = sym (ap (last_line_saying says kept number) done) ∙ is

pub line_numbers_in-end : (nodes : ℕ) (text : List ℕ) (so_far : SoFar) (number : ℕ) (rest on drift events : List ℕ)
    → IsReading nodes text so_far number rest → lines_of_file rest ≡ []
    → on ≡ so_far.on.items → drift ≡ so_far.drift.items → events ≡ so_far.events
    → record { on = on; drift = drift; events = events } ≡ line_numbers_in nodes text
unfolding line_numbers_in
line_numbers_in-end nodes text so_far number rest on drift events reading done is_on is_drift is_events =
    let lines = lines_of_file text in
    let made : List ℕ → List ℕ → List ℕ → LineNumbers = λ o d e. record { on = o; drift = d; events = e } in
    let last_on : ℕ → ℕ = λ k. last_line_saying (switches_on k) 0 1 lines in
    let last_drift : ℕ → ℕ = λ k. last_line_saying (sets_drift k) 0 1 lines in
    let ons : on ≡ map last_on (below nodes) =
    is_on ∙ numbers-end nodes so_far.on.items last_on (omega (arith, reading.on_count, so_far.on.ok))
    (λ k within. last-end (switches_on k) (get_or so_far.on.items k 0) number
    (last_on k) rest done (reading.on k within)) in
    let drifts : drift ≡ map last_drift (below nodes) =
    is_drift ∙ numbers-end nodes so_far.drift.items last_drift (omega (arith, reading.drift_count, so_far.drift.ok))
    (λ k within. last-end (sets_drift k) (get_or so_far.drift.items k 0) number (last_drift k) rest done
    (reading.drift k within)) in
    let all : events ≡ lines_saying states_event 1 lines =
    is_events
    ∙ (sym (append-nil so_far.events)
    ∙ (ap (λ (left : List (List ℕ)). so_far.events ++ lines_saying states_event number left) (sym done)
    ∙ reading.events)) in
    ap (λ (o : List ℕ). made o drift events) ons
    ∙ (ap (λ (d : List ℕ). made (map last_on (below nodes)) d events) drifts
    ∙ ap (λ (e : List ℕ). made (map last_on (below nodes)) (map last_drift (below nodes)) e) all)
