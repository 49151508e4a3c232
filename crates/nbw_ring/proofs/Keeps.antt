-- Each step on the words of a ring keeps its rule.
use Rattle.std.proofs.Common.{◌≡◌, ℕ, zero, suc, ◌+◌, ◌*◌, ◌/◌, ◌<◌, ◌≤◌, ◌≢◌, Bool, true, false, cond, List, [], ◌∷◌}
use Rattle.std.proofs.Common.{◌++◌, length, get_or, set, take, replicate, All, refl, sym, ap, ◌∙◌, subst, ⊎_elim, arith}
use Rattle.std.proofs.Common.{le_refl, length-append, length-set, get_or-set_other, get_or-set_same, nat_lt, Some}
use mathlib.Core.Logic.{dite}
use mathlib.Core.Option.{some, some-injective, some-ne-none, none}
use native.Mathlib.Decide.{ℕ_discrete}
use lib.ListN.{get_elem?}
use Rattle.std.proofs.Math.ListN.{get_or-append}
use Rattle.std.proofs.lemmas.Bool.{ltb-true}
use Rattle.std.proofs.lemmas.List.{set-get_or, get_or_push, get_or-replicate, length-replicate}
use Rattle.std.proofs.lemmas.List.Elements.{All-push}
use Rattle.std.proofs.lemmas.Option.{slice_get-get_or}
use Rattle.atomic_table.specs.Table.{State, step, keeps, stepped, opening, Allows, Splits, Joins}
use Rattle.atomic_table.proofs.Lists.{at_set, at_snoc, at_longer, set_else, set_again}
use Rattle.nbw_ring.specs.declared.view.Shape.{Shape}
use Rattle.nbw_ring.specs.declared.view.Message.{Message}
use Rattle.nbw_ring.specs.declared.view.Settlement.{Settlement}
use Rattle.nbw_ring.specs.declared.view.Writing.{Writing}
use Rattle.nbw_ring.specs.declared.view.Reading.{Reading}
use Rattle.nbw_ring.specs.declared.view.View.{View}
use Rattle.nbw_ring.specs.declared.view.View.TheVariants.{Writer, Reader, Spent}
use Rattle.nbw_ring.specs.Numbers.{most_number, newest_number, limit, place, message_at, IsMessageOf, odd_part}
use Rattle.nbw_ring.specs.Rule.{IsSettled, ReaderKnows, Knows, Kept, first_writing, first_view}
use Rattle.nbw_ring.specs.Steps.{Sat, with_open, with_word, with_new_message, with_first, with_loaded, attempt_of}
use Rattle.nbw_ring.specs.Steps.{with_last, new_reading, reading_settlement, with_settled}
use Rattle.nbw_ring.specs.Steps.{writer_stepped, as_writer, as_reader}
use Rattle.nbw_ring.specs.Steps.{lent_view, joined_view, FollowsCounter, Confirms, tells_begin, tells_put, tells_end}
use Rattle.nbw_ring.specs.Steps.{tells_first_load, tells_word_load, tells_last_load, tells_settle_load}
use Rattle.nbw_ring.proofs.Places.{odd_part_small, place_inside, places_apart, words_apart, message-before}
use Rattle.nbw_ring.proofs.Places.{message-newest, still_message, attempt_more, attempt_whole, half_inside}

abbrev St : Type 0
St = State (Unit {0}) View

-- the counter
abbrev counted_at : St → ℕ
counted_at s = get_or s.words 0 0

-- a list of one element has it at 0
at_single : (a b : View) (j : ℕ) → get_elem? (a ∷ []) j ≡ some b → (j ≡ 0) × (a ≡ b)
at_single a b zero e = (refl, some-injective a b e)
at_single a b (suc j) e = absurd (some-ne-none b (sym e))

-- what is put at a place that there is stands there
set_there : (l : List View) (i : ℕ) (a b : View) → get_elem? l i ≡ some a → get_elem? (set l i b) i ≡ some b
set_there [] i a b e = absurd (some-ne-none a (sym e))
set_there (x ∷ xs) zero a b e = refl
set_there (x ∷ xs) (suc i) a b e = set_there xs i a b e

module _ (shape : Shape) where
  abbrev Rule : St → Type 0
  Rule = Kept shape

  -- what is known of the other seats stays, where one seat's view changes
  seats_stay : (K : ℕ → View → Type 0) (vs : List View) (me : ℕ) (w : View) → K me w
      → ((j : ℕ) (d : View) → j ≢ me → get_elem? vs j ≡ some d → K j d)
      → (j : ℕ) (d : View) → get_elem? (set vs me w) j ≡ some d → K j d
  seats_stay K vs me w mine others j d e =
      ⊎_elim (λ (t : (j ≡ me) × (w ≡ d)). subst (λ (x : ℕ × View). K x.0 x.1) (λ i. (sym t.0 i, t.1 i)) mine)
      (λ (t : (j ≢ me) × (get_elem? vs j ≡ some d)). others j d t.0 t.1) (at_set vs me j w d e)

  -- what a reader knows stays where the counter rises and messages are added
  reader_stays : (c c' : ℕ) (messages messages' : List (List ℕ)) (v : Reading) → c ≤ c' → v.first / 2 < length messages
      → ((i : ℕ) → i < length messages → message_at messages' i ≡ message_at messages i)
      → ((p : Message) → IsMessageOf messages p → IsMessageOf messages' p)
      → ReaderKnows shape c messages v → ReaderKnows shape c' messages' v
  reader_stays c c' messages messages' v rises inside same still known = record {
    shaped = known.shaped;
    floored = known.floored;
    begun = known.begun;
    loaded = let l = known.loaded in omega arith;
    attempt = λ intact. known.attempt (omega arith) ∙ ap (take (length v.words)) (sym (same (v.first / 2) inside));
    got = λ k d within. let g = known.got k d within in (still (get_or v.got k d) g.0, g.1);
  }

  settled_stays : (c c' : ℕ) (messages messages' : List (List ℕ)) (joined : List Settlement) → c ≤ c'
      → ((p : Message) → IsMessageOf messages p → IsMessageOf messages' p)
      → All (IsSettled messages c) joined → All (IsSettled messages' c') joined
  settled_stays c c' messages messages' joined rises still known k d within = let g = known k d within in
      let low : (get_or joined k d).seen ≤ c = g.1 in ((λ i e inside. still _ (g.0 i e inside)), omega arith)

  -- what the seats beside the writer's know stays through a step of the writer
  others_stay : (c c' : ℕ) (writer : ℕ) (w w' : Writing) (j : ℕ) → j ≢ writer
      → ((v : Reading) → ReaderKnows shape c w.messages v → ReaderKnows shape c' w'.messages v)
      → (d : View) → Knows shape c writer w j d → Knows shape c' writer w' j d
  others_stay c c' writer w w' j other stays (Writer x) known = absurd (other known.0)
  others_stay c c' writer w w' j other stays (Reader v) known = stays v known
  others_stay c c' writer w w' j other stays Spent known = tt

  -- the writer's seat stays where it is, where a reader's view changes and where its own does
  writer_beside : (s : St) (r : Rule s) (id : ℕ) (v w : View) (y : Reading) → v ≡ Reader y
      → get_elem? s.views id ≡ some v → get_elem? (set s.views id w) r.writer ≡ some (Writer r.writing)
  writer_beside s r id v w y is at =
      let apart : r.writer ≢ id = λ e.
      let clash : Writer r.writing ≡ Reader y =
      some-injective (Writer r.writing) (Reader y)
      (sym r.present ∙ (ap (get_elem? s.views) e ∙ (at ∙ ap some is))) in cc in
      set_else s.views id r.writer w apart ∙ r.present

  writer_there : (s : St) (writer id : ℕ) (v : View) (w w' : Writing) → id ≡ writer → w ≡ w'
      → get_elem? s.views id ≡ some v → get_elem? (set s.views id (Writer w)) writer ≡ some (Writer w')
  writer_there s writer id v w w' own same at =
      ap (get_elem? (set s.views id (Writer w))) (sym own)
      ∙ (set_there s.views id v (Writer w) at ∙ ap (λ z. some (Writer z)) same)

  -- a step that changes no word
  unmoved : (s : St) (r : Rule s) (i me : ℕ) (cs : List (ℕ × Unit {0})) (w : View)
      → Knows shape (counted_at s) r.writer r.writing me w
      → get_elem? (set s.views me w) r.writer ≡ some (Writer r.writing)
      → Rule (stepped s i (get_or s.words i 0) me cs w keeps)
  unmoved s r i me cs w mine there =
      subst (λ (ws : List ℕ). Rule record { words = ws; homes = s.homes; views = set s.views me w })
      (sym (set-get_or s.words i 0)) record {
        writer = r.writer;
        writing = r.writing;
        present = there;
        shaped = r.shaped;
        buffered = r.buffered;
        long = r.long;
        counted = r.counted;
        few = r.few;
        wide = r.wide;
        stored = r.stored;
        putting = r.putting;
        each_seat = seats_stay (Knows shape (counted_at s) r.writer r.writing) s.views me w mine
            (λ j d _. r.each_seat j d);
      }

  -- what a reader knows, and what the writer knows
  reader_at : (s : St) (r : Rule s) (id : ℕ) (v : View) (y : Reading) → v ≡ Reader y → get_elem? s.views id ≡ some v
      → ReaderKnows shape (counted_at s) r.writing.messages y
  reader_at s r id v y is at = subst (Knows shape (counted_at s) r.writer r.writing id) is (r.each_seat id v at)

  writer_at : (s : St) (r : Rule s) (id : ℕ) (v : View) (w : Writing) → v ≡ Writer w → get_elem? s.views id ≡ some v
      → (id ≡ r.writer) × (w ≡ r.writing) × All (IsSettled w.messages (counted_at s)) w.joined
  writer_at s r id v w is at = subst (Knows shape (counted_at s) r.writer r.writing id) is (r.each_seat id v at)

  counter_small : (s : St) (r : Rule s) → counted_at s ≤ 2 * most_number + 1
  counter_small s r =
      let few : length r.writing.messages ≤ most_number + 1 = r.few in let o = odd_part_small r.writing.is_open in
      let counted : counted_at s + 2 ≡ 2 * length r.writing.messages + odd_part r.writing.is_open =
      r.counted in omega arith

  -- 4
  pub first_loads : (slots id : ℕ) (me : Sat) (y : Reading) → me.0 ≡ Reader y
      → Allows Rule slots id me 0 (λ n. n) (tells_first_load (step slots 0 0 0 none) me)
  first_loads slots id me y is s r _ at _ =
      let c : ℕ = counted_at s in
      let known = reader_at s r id me.0 y is at in
      let a : 2 * y.floor ≤ y.first = known.floored in
      let b : y.first ≤ y.seen = known.begun in
      let e : y.seen ≤ c = known.loaded in (
        Reader (with_first c y),
        keeps,
        tt,
        unmoved s r 0 id me.1 (Reader (with_first c y)) record {
          shaped = known.shaped;
          floored = omega arith;
          begun = le_refl c;
          loaded = le_refl c;
          attempt = λ _. refl;
          got = known.got;
        }
            (writer_beside s r id me.0 (Reader (with_first c y)) y is at),
        (
          (λ k. (as_reader (with_first c) (sym is k), me.1)),
          subst (FollowsCounter c) (sym is) record
              { above_floor = omega arith; above_seen = e; small = counter_small s r },
        ),
      )

  -- 5
  pub word_loads : (slots id : ℕ) (me : Sat) (y : Reading) (i : ℕ) → me.0 ≡ Reader y → length y.words < shape.width
      → i ≡ place shape (y.first / 2) (length y.words)
      → Allows Rule slots id me i (λ n. n) (tells_word_load (step slots i 0 0 none) me)
  word_loads slots id me y i is inside here s r _ at _ =
      let c : ℕ = counted_at s in
      let number : ℕ = y.first / 2 in
      let m : List ℕ = message_at r.writing.messages number in
      let x : ℕ = get_or s.words i 0 in
      let known = reader_at s r id me.0 y is at in
      let b : y.first ≤ y.seen = known.begun in
      let e : y.seen ≤ c = known.loaded in
      let there : number < length r.writing.messages =
      half_inside (length r.writing.messages) c y.first r.writing.is_open r.counted (omega arith) in
      let long : length m ≡ shape.width = r.wide number there in (
        Reader (with_loaded x y),
        keeps,
        tt,
        unmoved s r i id me.1 (Reader (with_loaded x y)) record {
          shaped = known.shaped;
          floored = known.floored;
          begun = known.begun;
          loaded = known.loaded;
          attempt = λ intact. attempt_more y.words m x (known.attempt intact) (omega arith)
              (ap (λ k. get_or s.words k 0) here ∙ r.stored number (length y.words) there intact inside);
          got = known.got;
        }
            (writer_beside s r id me.0 (Reader (with_loaded x y)) y is at),
        (λ k. (as_reader (with_loaded x) (sym is k), me.1)),
      )

  -- what a reader knows after its last load, by whether the counter is below the limit
  knows_last : (c : ℕ) (messages : List (List ℕ)) (y : Reading) → ReaderKnows shape c messages y
      → length y.words ≡ shape.width → y.first / 2 < length messages
      → length (message_at messages (y.first / 2)) ≡ shape.width
      → (b : Bool) → nat_lt c (limit shape (y.first / 2)) ≡ b
      → ReaderKnows shape c messages
      (cond b (record y { seen = c; floor = y.first / 2; got = y.got ++ attempt_of y ∷ []; steps = y.steps + 1 })
      (record y { seen = c; steps = y.steps + 1 }))
  knows_last c messages y known whole there long true below =
      let number : ℕ = y.first / 2 in
      let m : List ℕ = message_at messages number in
      let a : 2 * y.floor ≤ y.first = known.floored in
      let b : y.first ≤ y.seen = known.begun in
      let e : y.seen ≤ c = known.loaded in
      let is : y.words ≡ m =
      attempt_whole y.words m (known.attempt (ltb-true c (limit shape number) below)) (whole ∙ sym long) in
      record {
        shaped = known.shaped;
        floored = omega arith;
        begun = omega arith;
        loaded = le_refl c;
        attempt = known.attempt;
        got = All-push (λ p. IsMessageOf messages p × (p.number ≤ number)) y.got (attempt_of y)
            (λ k d within. let g = known.got k d within in let low : (get_or y.got k d).number ≤ y.floor = g.1 in
            (g.0, omega arith))
            (slice_get-get_or messages number [] there ∙ ap Some (sym is), le_refl number);
      }
  knows_last c messages y known whole there long false below =
      let b : y.first ≤ y.seen = known.begun in
      let e : y.seen ≤ c = known.loaded in
      record {
        shaped = known.shaped;
        floored = known.floored;
        begun = omega arith;
        loaded = le_refl c;
        attempt = known.attempt;
        got = known.got;
      }

  -- 6
  pub last_loads : (slots id : ℕ) (me : Sat) (y : Reading) → me.0 ≡ Reader y → length y.words ≡ shape.width
      → Allows Rule slots id me 0 (λ n. n) (tells_last_load (step slots 0 0 0 none) me)
  last_loads slots id me y is whole s r _ at _ =
      let c : ℕ = counted_at s in
      let number : ℕ = y.first / 2 in
      let known = reader_at s r id me.0 y is at in
      let a : 2 * y.floor ≤ y.first = known.floored in
      let b : y.first ≤ y.seen = known.begun in
      let e : y.seen ≤ c = known.loaded in
      let there : number < length r.writing.messages =
      half_inside (length r.writing.messages) c y.first r.writing.is_open r.counted (omega arith) in
      let long : length (message_at r.writing.messages number) ≡ shape.width = r.wide number there in (
        Reader (with_last c y),
        keeps,
        tt,
        unmoved s r 0 id me.1 (Reader (with_last c y))
            (subst (λ (z : Shape). ReaderKnows shape c r.writing.messages
            (cond (nat_lt c (limit z number))
            (record y { seen = c; floor = number; got = y.got ++ attempt_of y ∷ []; steps = y.steps + 1 })
            (record y { seen = c; steps = y.steps + 1 })))
            (sym known.shaped)
            (knows_last c r.writing.messages y known whole there long (nat_lt c (limit shape number)) refl))
            (writer_beside s r id me.0 (Reader (with_last c y)) y is at),
        (
          (λ k. (as_reader (with_last c) (sym is k), me.1)),
          subst (FollowsCounter c) (sym is) record
              { above_floor = omega arith; above_seen = e; small = counter_small s r },
        ),
      )

  -- 1
  pub begins : (slots id : ℕ) (me : Sat) (w : Writing) (new : ℕ) → me.0 ≡ Writer w → w.is_open ≡ false
      → new + 1 ≡ 2 * length w.messages
      → Allows Rule slots id me 0 (λ _. new) (λ _. tells_begin (step slots 0 new 0 none) me new)
  begins slots id me w new is closed up s r _ at _ =
      let c : ℕ = counted_at s in
      let known = writer_at s r id me.0 w is at in
      let same : w ≡ r.writing = known.1 in
      let count : length w.messages ≡ length r.writing.messages = ap (λ (x : Writing). length x.messages) same in
      let shut : odd_part r.writing.is_open ≡ 0 =
      ap (λ (x : Writing). odd_part x.is_open) (sym same) ∙ ap odd_part closed in
      let counted : c + 2 ≡ 2 * length r.writing.messages + odd_part r.writing.is_open = r.counted in
      let long : length s.words ≡ 1 + shape.buffers * shape.width = r.long in
      let now : get_or (set s.words 0 new) 0 0 ≡ new = get_or-set_same s.words 0 new 0 (omega arith) in
      let next : c + 1 ≡ new = omega arith in (
        Writer (with_open w),
        keeps,
        tt,
        record {
          writer = r.writer;
          writing = with_open r.writing;
          present = writer_there s r.writer id me.0 (with_open w) (with_open r.writing) known.0 (ap with_open same) at;
          shaped = r.shaped;
          buffered = r.buffered;
          long = length-set s.words 0 new ∙ long;
          counted = omega arith;
          few = r.few;
          wide = r.wide;
          stored = λ i k there intact inside. get_or-set_other s.words 0 (place shape i k) new 0 (λ e. omega arith)
              ∙ r.stored i k there (omega arith) inside;
          putting = λ _ k within. absurd (omega arith);
          each_seat = subst
              (λ (z : ℕ). (j : ℕ) (d : View) → get_elem? (set s.views id (Writer (with_open w))) j
              ≡ some d → Knows shape z r.writer (with_open r.writing) j d) (sym now)
              (seats_stay (Knows shape new r.writer (with_open r.writing)) s.views id (Writer (with_open w)) (
                known.0,
                ap with_open same,
                settled_stays c new w.messages w.messages w.joined (omega arith) (λ p m. m) known.2,
              )
              (λ j d other there. others_stay c new r.writer r.writing (with_open r.writing) j
              (λ e. other (e ∙ sym known.0))
              (λ v k. let low : v.first ≤ v.seen = k.begun in let high : v.seen ≤ c = k.loaded in
              reader_stays c new r.writing.messages r.writing.messages v (omega arith)
              (half_inside (length r.writing.messages) c v.first r.writing.is_open r.counted (omega arith))
              (λ i inside. refl) (λ p m. m) k)
              d (r.each_seat j d there)));
        },
        (λ k. (as_writer with_open (sym is k), me.1)),
      )

  -- 2
  pub puts : (slots id : ℕ) (me : Sat) (w : Writing) (i x : ℕ) → me.0 ≡ Writer w → w.is_open ≡ true
      → length w.put < shape.width → i ≡ place shape (length w.messages) (length w.put)
      → Allows Rule slots id me i (λ _. x) (λ _. tells_put (step slots i x 0 none) me x)
  puts slots id me w i x is opened inside here s r _ at _ =
      let c : ℕ = counted_at s in
      let known = writer_at s r id me.0 w is at in
      let same : w ≡ r.writing = known.1 in
      let number : ℕ = length r.writing.messages in
      let k : ℕ = length r.writing.put in
      let short : k < shape.width = subst (λ (z : Writing). length z.put < shape.width) same inside in
      let open_now : r.writing.is_open ≡ true = ap (λ (z : Writing). z.is_open) (sym same) ∙ opened in
      let place_is : i ≡ place shape number k =
      here ∙ ap (λ (z : Writing). place shape (length z.messages) (length z.put)) same in
      let counted : c + 2 ≡ 2 * number + 1 = r.counted ∙ ap (λ (b : Bool). 2 * number + odd_part b) open_now in
      let long : length s.words ≡ 1 + shape.buffers * shape.width = r.long in
      let there : place shape number k < 1 + shape.buffers * shape.width =
      place_inside shape number k r.buffered short in
      let still : get_or (set s.words i x) 0 0 ≡ c = get_or-set_other s.words i 0 x 0 (λ e. omega arith) in
      let longer : length (r.writing.put ++ x ∷ []) ≡ k + 1 = omega (arith, length-append r.writing.put (x ∷ [])) in (
        Writer (with_word x w),
        keeps,
        tt,
        record {
          writer = r.writer;
          writing = with_word x r.writing;
          present = writer_there s r.writer id me.0 (with_word x w) (with_word x r.writing) known.0
              (ap (with_word x) same) at;
          shaped = r.shaped;
          buffered = r.buffered;
          long = length-set s.words i x ∙ long;
          counted = ap (λ z. z + 2) still ∙ r.counted;
          few = r.few;
          wide = r.wide;
          stored = λ j l below intact within.
              let intact' : c < limit shape j = subst (λ z. z < limit shape j) still intact in
              let apart : place shape j l ≢ place shape number k =
              places_apart shape j number l k below (omega arith) within short in
              get_or-set_other s.words i (place shape j l) x 0 (λ e. apart (e ∙ place_is))
              ∙ r.stored j l below intact' within;
          putting = λ _ l within. dite (ℕ_discrete l k)
              (λ e. ap (λ z. get_or (set s.words i x) z 0) (ap (place shape number) e ∙ sym place_is)
              ∙ (get_or-set_same s.words i x 0 (omega arith)
              ∙ (sym (get_or_push r.writing.put x 0 k refl) ∙ ap (λ z. get_or (r.writing.put ++ x ∷ []) z 0) (sym e))))
              (λ apart. let before : l < k = omega arith in
              get_or-set_other s.words i (place shape number l) x 0
              (λ e. words_apart shape number l k apart (e ∙ place_is))
              ∙ (r.putting open_now l before ∙ sym (get_or-append r.writing.put (x ∷ []) 0 l before)));
          each_seat = subst
              (λ (z : ℕ). (j : ℕ) (d : View) → get_elem? (set s.views id (Writer (with_word x w))) j
              ≡ some d → Knows shape z r.writer (with_word x r.writing) j d) (sym still)
              (seats_stay (Knows shape c r.writer (with_word x r.writing)) s.views id (Writer (with_word x w))
              (known.0, ap (with_word x) same, known.2)
              (λ j d other below. others_stay c c r.writer r.writing (with_word x r.writing) j
              (λ e. other (e ∙ sym known.0)) (λ v k. k) d (r.each_seat j d below)));
        },
        (λ j. (as_writer (with_word x) (sym is j), me.1)),
      )

  -- 3
  pub ends : (slots id : ℕ) (me : Sat) (w : Writing) (new : ℕ) → me.0 ≡ Writer w → w.is_open ≡ true
      → length w.put ≡ shape.width → new ≡ 2 * length w.messages → length w.messages ≤ most_number
      → Allows Rule slots id me 0 (λ _. new) (λ _. tells_end (step slots 0 new 0 none) me new)
  ends slots id me w new is opened whole up few s r _ at _ =
      let c : ℕ = counted_at s in
      let known = writer_at s r id me.0 w is at in
      let same : w ≡ r.writing = known.1 in
      let messages : List (List ℕ) = r.writing.messages in
      let put : List ℕ = r.writing.put in
      let number : ℕ = length messages in
      let open_now : r.writing.is_open ≡ true = ap (λ (z : Writing). z.is_open) (sym same) ∙ opened in
      let width_is : length put ≡ shape.width = ap (λ (z : Writing). length z.put) (sym same) ∙ whole in
      let up' : new ≡ 2 * number = up ∙ ap (λ (z : Writing). 2 * length z.messages) same in
      let room : number ≤ most_number = subst (λ (z : Writing). length z.messages ≤ most_number) same few in
      let counted : c + 2 ≡ 2 * number + 1 = r.counted ∙ ap (λ (b : Bool). 2 * number + odd_part b) open_now in
      let long : length s.words ≡ 1 + shape.buffers * shape.width = r.long in
      let now : get_or (set s.words 0 new) 0 0 ≡ new = get_or-set_same s.words 0 new 0 (omega arith) in
      let more : length (messages ++ put ∷ []) ≡ number + 1 = omega (arith, length-append messages (put ∷ [])) in
      let newest_is : (i : ℕ) → i ≡ number → message_at (messages ++ put ∷ []) i ≡ put =
      λ i e. ap (message_at (messages ++ put ∷ [])) e ∙ message-newest messages put in (
        Writer (with_new_message w),
        keeps,
        tt,
        record {
          writer = r.writer;
          writing = with_new_message r.writing;
          present = writer_there s r.writer id me.0 (with_new_message w) (with_new_message r.writing) known.0
              (ap with_new_message same) at;
          shaped = r.shaped;
          buffered = r.buffered;
          long = length-set s.words 0 new ∙ long;
          counted = omega arith;
          few = omega arith;
          wide = λ i below. dite (ℕ_discrete i number)
              (λ e. ap length (newest_is i e) ∙ width_is)
              (λ apart. ap length (message-before messages put i (omega arith)) ∙ r.wide i (omega arith));
          stored = λ i k below intact within.
              get_or-set_other s.words 0 (place shape i k) new 0 (λ e. omega arith)
              ∙ dite (ℕ_discrete i number)
              (λ e. ap (λ z. get_or s.words (place shape z k) 0) e
              ∙ (r.putting open_now k (omega arith) ∙ ap (λ m. get_or m k 0) (sym (newest_is i e))))
              (λ apart. let old : i < number = omega arith in
              r.stored i k old (omega arith) within ∙ ap (λ m. get_or m k 0) (sym (message-before messages put i old)));
          putting = λ _ k within. absurd (omega arith);
          each_seat = subst
              (λ (z : ℕ). (j : ℕ) (d : View) → get_elem? (set s.views id (Writer (with_new_message w))) j
              ≡ some d → Knows shape z r.writer (with_new_message r.writing) j d) (sym now)
              (seats_stay (Knows shape new r.writer (with_new_message r.writing)) s.views id
              (Writer (with_new_message w)) (
                known.0,
                ap with_new_message same,
                settled_stays c new w.messages (w.messages ++ w.put ∷ []) w.joined
                    (omega arith) (still_message w.messages w.put) known.2,
              )
              (λ j d other there. others_stay c new r.writer r.writing (with_new_message r.writing) j
              (λ e. other (e ∙ sym known.0))
              (λ v k. let low : v.first ≤ v.seen = k.begun in let high : v.seen ≤ c = k.loaded in
              reader_stays c new messages (messages ++ put ∷ []) v (omega arith)
              (half_inside number c v.first r.writing.is_open r.counted (omega arith)) (message-before messages put)
              (still_message messages put) k)
              d (r.each_seat j d there)));
        },
        (λ k. (as_writer with_new_message (sym is k), me.1)),
      )

  -- a reader is lent
  pub lends : (id : ℕ) (v : View) (w : Writing) → v ≡ Writer w → w.is_open ≡ false → Splits Rule id v v (lent_view v)
  lends id v w is closed s r at =
      let c : ℕ = counted_at s in
      let known = writer_at s r id v w is at in
      let same : w ≡ r.writing = known.1 in
      let shut : odd_part r.writing.is_open ≡ 0 =
      ap (λ (x : Writing). odd_part x.is_open) (sym same) ∙ ap odd_part closed in
      let counted : c + 2 ≡ 2 * length r.writing.messages + odd_part r.writing.is_open = r.counted in
      let count : length w.messages ≡ length r.writing.messages = ap (λ (x : Writing). length x.messages) same in
      let K = Knows shape c r.writer r.writing in
      let fresh : ReaderKnows shape c r.writing.messages (new_reading w) = record {
        shaped = ap (λ (x : Writing). x.shape) same ∙ r.shaped;
        floored = le_refl (2 * newest_number w.messages);
        begun = le_refl (2 * newest_number w.messages);
        loaded = omega arith;
        attempt = λ _. refl;
        got = λ k d within. absurd (omega arith);
      } in
      record {
        writer = r.writer;
        writing = r.writing;
        present = at_longer (set s.views id v) (lent_view v ∷ []) r.writer (Writer r.writing)
            (ap (λ l. get_elem? l r.writer) (set_again s.views id v at) ∙ r.present);
        shaped = r.shaped;
        buffered = r.buffered;
        long = r.long;
        counted = r.counted;
        few = r.few;
        wide = r.wide;
        stored = r.stored;
        putting = r.putting;
        each_seat = λ j d there. ⊎_elim (seats_stay K s.views id v (r.each_seat id v at) (λ i x _. r.each_seat i x) j d)
            (λ (t : lent_view v ≡ d). subst (K j) t (subst (λ (u : View). K j (lent_view u)) (sym is) fresh))
            (at_snoc (set s.views id v) (lent_view v) d j there);
      }

  -- a reader is joined in the writer
  pub joins : (id : ℕ) (v : View) (w : Writing) (other : ℕ) (u : View) (y : Reading) → v ≡ Writer w → u ≡ Reader y
      → Joins Rule id v other u (joined_view v u) Spent
  joins id v w other u y is it s r at apart there =
      let c : ℕ = counted_at s in
      let known = writer_at s r id v w is at in
      let same : w ≡ r.writing = known.1 in
      let both : View = Writer (with_settled y w) in
      let both_is : joined_view v u ≡ both = λ k. joined_view (is k) (it k) in
      let elsewhere : get_elem? s.views other ≡ some u =
      ⊎_elim (λ (t : (other ≡ id) × (joined_view v u ≡ u)). absurd (apart t.0))
      (λ (t : (other ≢ id) × (get_elem? s.views other ≡ some u)). t.1)
      (at_set s.views id other (joined_view v u) u there) in
      let its = reader_at s r other u y it elsewhere in
      let fresh : IsSettled w.messages c (reading_settlement y) = (
        (λ k d within. subst (λ (z : Writing). IsMessageOf z.messages (get_or y.got k d)) (sym same)
            (its.got k d within).0),
        its.loaded,
      ) in
      let K = Knows shape c r.writer (with_settled y r.writing) in
      let stays : (j : ℕ) (d : View) → j ≢ id → get_elem? s.views j ≡ some d → K j d = λ j d other there.
      others_stay c c r.writer r.writing (with_settled y r.writing) j (λ e. other (e ∙ sym known.0)) (λ x k. k) d
      (r.each_seat j d there) in
      record {
        writer = r.writer;
        writing = with_settled y r.writing;
        present = set_else (set s.views id (joined_view v u)) other r.writer Spent (λ e. apart (sym e ∙ sym known.0))
            ∙ (ap (λ z. get_elem? (set s.views id z) r.writer) both_is
            ∙ writer_there s r.writer id v (with_settled y w) (with_settled y r.writing) known.0
            (ap (with_settled y) same) at);
        shaped = r.shaped;
        buffered = r.buffered;
        long = r.long;
        counted = r.counted;
        few = r.few;
        wide = r.wide;
        stored = r.stored;
        putting = r.putting;
        each_seat = seats_stay K (set s.views id (joined_view v u)) other Spent tt
            (λ j d _. seats_stay K s.views id (joined_view v u)
            (subst (K id) (sym both_is) (
              known.0,
              ap (with_settled y) same,
              All-push (IsSettled w.messages c) w.joined (reading_settlement y) known.2 fresh,
            ))
            stays j d);
      }

  -- the load after a join
  pub settle_loads : (slots id : ℕ) (me : Sat) (w : Writing) → me.0 ≡ Writer w
      → Allows Rule slots id me 0 (λ n. n) (tells_settle_load (step slots 0 0 0 none) me)
  settle_loads slots id me w is s r _ at _ =
      let c : ℕ = counted_at s in
      let known = writer_at s r id me.0 w is at in
      let counted : c + 2 ≡ 2 * length w.messages + odd_part w.is_open =
      r.counted ∙ ap (λ (z : Writing). 2 * length z.messages + odd_part z.is_open) (sym known.1) in (
        Writer (writer_stepped w),
        keeps,
        tt,
        subst (λ (ws : List ℕ).
            Rule record { words = ws; homes = s.homes; views = set s.views id (Writer (writer_stepped w)) })
            (sym (set-get_or s.words 0 0)) record {
              writer = r.writer;
              writing = writer_stepped r.writing;
              present = writer_there s r.writer id me.0 (writer_stepped w) (writer_stepped r.writing) known.0
                  (ap writer_stepped known.1) at;
              shaped = r.shaped;
              buffered = r.buffered;
              long = r.long;
              counted = r.counted;
              few = r.few;
              wide = r.wide;
              stored = r.stored;
              putting = r.putting;
              each_seat = seats_stay (Knows shape c r.writer (writer_stepped r.writing)) s.views id
                  (Writer (writer_stepped w)) (known.0, ap writer_stepped known.1, known.2)
                  (λ j d other there. others_stay c c r.writer r.writing (writer_stepped r.writing) j
                  (λ e. other (e ∙ sym known.0)) (λ x k. k) d (r.each_seat j d there));
            },
        ((λ k. (as_writer writer_stepped (sym is k), me.1)), subst (Confirms c) (sym is) (counted, known.2)),
      )

  -- a new ring
  pub opens : 0 < shape.buffers → (words : List ℕ) → words ≡ replicate (1 + shape.buffers * shape.width) 0
      → Rule (opening words [] (first_view shape))
  opens some_buffer words are =
      let size : ℕ = 1 + shape.buffers * shape.width in
      let zeros : List ℕ = replicate shape.width 0 in
      let long : length words ≡ size = ap length are ∙ length-replicate size 0 in
      let zero_at : (i : ℕ) → i < size → get_or words i 0 ≡ 0 =
      λ i inside. ap (λ l. get_or l i 0) are ∙ get_or-replicate size i 0 0 inside in
      let at_rest : get_or words 0 0 ≡ 0 = zero_at 0 (omega arith) in
      let only : (i : ℕ) → i < 1 → i ≡ 0 = λ i small. omega arith in
      let zero_word : (i k : ℕ) → i < 1 → k < shape.width → get_or (message_at (zeros ∷ []) i) k 0 ≡ 0 =
      λ i k below within.
      ap (λ z. get_or (message_at (zeros ∷ []) z) k 0) (only i below) ∙ get_or-replicate shape.width k 0 0 within in
      let knows : Knows shape (get_or words 0 0) 0 (first_writing shape) 0 (first_view shape) =
      (refl, refl, λ k d within. absurd (omega arith)) in
      record {
        writer = 0;
        writing = first_writing shape;
        present = refl;
        shaped = refl;
        buffered = some_buffer;
        long = long;
        counted = ap (λ z. z + 2) at_rest;
        few = omega arith;
        wide = λ i below. ap (λ z. length (message_at (zeros ∷ []) z)) (only i below) ∙ length-replicate shape.width 0;
        stored = λ i k below intact within. zero_at (place shape i k) (place_inside shape i k some_buffer within)
            ∙ sym (zero_word i k below within);
        putting = λ _ k within. absurd (omega arith);
        each_seat = λ j d there. let t = at_single (first_view shape) d j there in
            subst (λ (z : ℕ × View). Knows shape (get_or words 0 0) 0 (first_writing shape) z.0 z.1)
            (λ k. (sym t.0 k, t.1 k)) knows;
      }
