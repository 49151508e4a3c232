-- A line's words by themselves: the errors agree with the faults that the reader of scripts looks for.
use Rattle.std.proofs.Common.{◌≡◌, ℕ, ◌+◌, ◌-◌, ◌≤◌, ◌&&◌, ◌==◌, Bool, true, false, List, [], ◌∷◌, ◌++◌, Option}
use Rattle.std.proofs.Common.{Some, refl, ap, ◌∙◌, sym, arith, nat_le, length, map, get_or, inl, inr, subst}
use Rattle.std.specs.Prelude.{◌⊎◌}
use Rattle.std.specs.List.{list_all}
use Rattle.std.proofs.lemmas.Bool.Decides.{nat_tests}
use Rattle.std.proofs.lemmas.Bool.{and_parts}
use Rattle.ttp_base.specs.Faults.{first_fault}
use Rattle.ttp_world.specs.declared.medl.Medl.{Medl}
use Rattle.script_text.specs.Lines.{word_at}
use Rattle.script_text.specs.Numbers.{is_number, decimal_value, is_value, value_in}
use Rattle.script_text.specs.Statement.{has_channels, has_numbers, statement_of}
use Rattle.script_text.specs.Faults.{statement_faults, has_nodes, statement_has_payload}
use Rattle.script_text.specs.Faults.{is_in_range, is_node, node_sends_payload}
use Rattle.script_text.specs.Faults.{payload_size, is_within_limit}
use Rattle.ttp_world.specs.declared.script.TheConstants.{ERROR_LIMIT}
use Rattle.script_text.specs.declared.error.LineFault.{LineFault}
use Rattle.script_text.specs.declared.error.LineFault.TheVariants as faults
use Rattle.script_errors.specs.declared.error.Form.{Form}
use Rattle.script_errors.specs.declared.error.Form.TheVariants as form
use Rattle.script_errors.specs.declared.error.Part.TheVariants as part
use Rattle.script_errors.specs.declared.error.ScriptError.{ScriptError}
use Rattle.script_errors.specs.declared.spots.Spot.{Spot}
use Rattle.script_errors.specs.Spots.{spot, spot_text}
use Rattle.script_errors.specs.Words.{parts_of, right_node, word_wrong}
use Rattle.script_errors.specs.Errors.{errors_of_word, word_errors, line_node, span_errors}
use Rattle.script_errors.specs.Errors.{own_errors, backwards, is_slot_word}
use Rattle.script_errors.specs.Agrees.{TellsFault}
use Rattle.script_errors.proofs.Spans.{span_five, span_four}
use Rattle.script_errors.proofs.Stages.{Flags, all_told, Has, not_spelled, no_number}
use Rattle.script_errors.proofs.Stages.{no_node, no_data, out_of_range, all_right}
use Rattle.script_errors.proofs.FormFlags.{Key, key, form_flags, spelled_agree, numbers_agree, nodes_agree, data_agree}
use Rattle.script_errors.proofs.FormFlags.{range_agrees, in_order, asks_node, flags_at_node}
use Rattle.script_errors.proofs.WordsAgree.{class_at, AreTexts, tells_class, tells_front}
use Rattle.script_errors.proofs.WordsAgree.{tells_back, told_words, on_words}
use Rattle.script_errors.proofs.WordsAgree.{map_none, span_none, text_here, backwards_class, backwards_none, word_tells}

-- nothing is wrong by either, or the reader's first fault is told
abbrev pub Outcome : ℕ → List LineFault → List ScriptError → Type 0
Outcome number found es =
    ((found ≡ []) × (es ≡ [])) ⊎ ((fault : LineFault) × ((first_fault found ≡ Some fault) × TellsFault number fault es))

-- The reader's faults of a statement, in turn.

first_number : (list : Medl) (slots : ℕ) (texts : List (List ℕ)) (k : Key) → has_numbers k texts ≡ false
    → first_fault (statement_faults list slots texts k) ≡ Some faults.Number
unfolding statement_faults
first_number list slots texts k n = rw n refl

first_node : (list : Medl) (slots : ℕ) (texts : List (List ℕ)) (k : Key) → has_numbers k texts ≡ true
    → has_nodes list (statement_of k texts) ≡ false
    → first_fault (statement_faults list slots texts k) ≡ Some faults.NoNode
unfolding statement_faults
first_node list slots texts k n d = rw (n, d) refl

first_data : (list : Medl) (slots : ℕ) (texts : List (List ℕ)) (k : Key) → has_numbers k texts ≡ true
    → has_nodes list (statement_of k texts) ≡ true → statement_has_payload list (statement_of k texts) ≡ false
    → first_fault (statement_faults list slots texts k) ≡ Some faults.NoData
unfolding statement_faults
first_data list slots texts k n d p = rw (n, d, p) refl

first_range : (list : Medl) (slots : ℕ) (texts : List (List ℕ)) (k : Key) → has_numbers k texts ≡ true
    → has_nodes list (statement_of k texts) ≡ true → statement_has_payload list (statement_of k texts) ≡ true
    → is_in_range list slots texts (statement_of k texts) ≡ false
    → first_fault (statement_faults list slots texts k) ≡ Some faults.Range
unfolding statement_faults
first_range list slots texts k n d p r = rw (n, d, p, r) refl

none_first : (list : Medl) (slots : ℕ) (texts : List (List ℕ)) (k : Key) → has_numbers k texts ≡ true
    → has_nodes list (statement_of k texts) ≡ true → statement_has_payload list (statement_of k texts) ≡ true
    → is_in_range list slots texts (statement_of k texts) ≡ true
    → statement_faults list slots texts k ≡ []
unfolding statement_faults
none_first list slots texts k n d p r = rw (n, d, p, r) refl

-- The node of a line.

right_reader : (list : Medl) (word : List ℕ) → is_number word ≡ true → is_node list (decimal_value word) ≡ true
    → right_node (Some list) part.Node word ≡ Some (decimal_value word)
unfolding word_wrong
right_reader list word n k = rw (n, k) refl

right_writer : (list : Medl) (word : List ℕ) → is_number word ≡ true → is_node list (decimal_value word) ≡ true
    → node_sends_payload list (decimal_value word) ≡ true
    → right_node (Some list) part.Writer word ≡ Some (decimal_value word)
unfolding word_wrong
right_writer list word n k s =
    let some : (payload_size list (decimal_value word) == 0) ≡ false = grind (arith, nat_tests) in rw (n, k, some) refl

node_known : (list : Medl) (slots : ℕ) (owner : Option ℕ) (line : List ℕ) (f : Form) (words : List Spot)
    (texts : List (List ℕ)) → length words ≡ length (parts_of f) → AreTexts line words texts 1
    → list_all (λ g. g.number) (form_flags list slots owner f texts) ≡ true
    → list_all (λ g. g.node) (form_flags list slots owner f texts) ≡ true
    → list_all (λ g. g.sends) (form_flags list slots owner f texts) ≡ true
    → asks_node f ≡ true → line_node (Some list) line (parts_of f) words ≡ Some (decimal_value (word_at texts 1))
node_known list slots owner line form.Slots words texts full are n k s asks = cc
node_known list slots owner line form.On words texts full are n k s asks = cc
node_known list slots owner line form.Drift words texts full are n k s asks = cc
node_known list slots owner line form.Send words texts full are n k s asks = cc
node_known list slots owner line form.Receive words texts full are n k s asks = cc
node_known list slots owner line form.Flip words texts full are n k s asks = cc
node_known list slots owner line form.Error words texts full are n k s asks = cc
node_known list slots owner line form.Jump words texts full are n k s asks = cc
node_known list slots owner line form.Arm words texts full are n k s asks = cc
node_known list slots owner line form.Write [] texts full are n k s asks = absurd (omega (arith, full))
node_known list slots owner line form.Write (w ∷ words) texts full are n k s asks =
    ap (right_node (Some list) part.Writer) (sym are.0)
    ∙ right_writer list (word_at texts 1) (and_parts _ _ n).0 (and_parts _ _ k).0 (and_parts _ _ s).0
node_known list slots owner line form.Read [] texts full are n k s asks = absurd (omega (arith, full))
node_known list slots owner line form.Read (w ∷ words) texts full are n k s asks =
    ap (right_node (Some list) part.Node) (sym are.0)
    ∙ right_reader list (word_at texts 1) (and_parts _ _ n).0 (and_parts _ _ k).0

-- The first and the last slot.

slot_word : (slots : ℕ) (word : List ℕ) → is_number word ≡ true
    → (nat_le 0 (decimal_value word) && nat_le (decimal_value word) (slots - 1)) ≡ true
    → is_slot_word slots word ≡ true
slot_word slots word n r = rw n (and_parts _ _ r).1

two_tell : (slots number : ℕ) (at : Spot) (from to t u : List ℕ) → from ≡ t → to ≡ u → is_slot_word slots t ≡ true
    → is_slot_word slots u ≡ true → nat_le (decimal_value t) (decimal_value u) ≡ false
    → TellsFault number faults.Range (errors_of_word number at (backwards slots from to))
two_tell slots number at from to t u from_is to_is t_in u_in order =
    word_tells number at (backwards slots from to) faults.Range
    (rw (from_is, to_is) (backwards_class slots t u t_in u_in order))

two_none : (slots number : ℕ) (at : Spot) (from to t u : List ℕ) → from ≡ t → to ≡ u
    → nat_le (decimal_value t) (decimal_value u) ≡ true
    → errors_of_word number at (backwards slots from to) ≡ []
two_none slots number at from to t u from_is to_is order =
    rw (from_is, to_is, backwards_none slots t u order (is_slot_word slots t && is_slot_word slots u) refl) refl

abbrev in_run : ℕ → List ℕ → Bool
in_run slots word = nat_le 0 (decimal_value word) && nat_le (decimal_value word) (slots - 1)

two_words : (slots : ℕ) (a : Bool) (t u : List ℕ) → (a && (is_number t && (is_number u && true))) ≡ true
    → (in_run slots t && (in_run slots u && true)) ≡ true
    → (is_slot_word slots t ≡ true) × (is_slot_word slots u ≡ true)
two_words slots a t u n r =
    let n2 : (is_number t && (is_number u && true)) ≡ true = (and_parts a (is_number t && (is_number u && true)) n).1 in
    let n4 = and_parts (is_number t) (is_number u && true) n2 in
    let n5 = and_parts (is_number u) true n4.1 in
    let r4 = and_parts (in_run slots t) (in_run slots u && true) r in
    let r5 = and_parts (in_run slots u) true r4.1 in
    (slot_word slots t n4.0 r4.0, slot_word slots u n5.0 r5.0)

span_tells : (list : Medl) (slots number : ℕ) (owner : Option ℕ) (line : List ℕ) (f : Form) (words : List Spot)
    (texts : List (List ℕ)) → length words ≡ length (parts_of f) → AreTexts line words texts 1
    → list_all (λ g. g.number) (form_flags list slots owner f texts) ≡ true
    → list_all (λ g. g.range) (form_flags list slots owner f texts) ≡ true
    → in_order f texts ≡ false
    → TellsFault number faults.Range (span_errors slots number line (parts_of f) words)
span_tells list slots number owner line form.Slots words texts full are n r order = cc
span_tells list slots number owner line form.On words texts full are n r order = cc
span_tells list slots number owner line form.Drift words texts full are n r order = cc
span_tells list slots number owner line form.Send words texts full are n r order =
    let both_words = two_words slots (is_number (word_at texts 1)) (word_at texts 4) (word_at texts 5) n r in
    rw (span_five slots number line words full) (two_tell slots number (get_or words 4 (spot 0 0))
    (spot_text line (get_or words 3 (spot 0 0))) (spot_text line (get_or words 4 (spot 0 0)))
    (word_at texts 4) (word_at texts 5)
    (text_here line words texts 1 3 are (omega (arith, full)))
    (text_here line words texts 1 4 are (omega (arith, full)))
    both_words.0 both_words.1 order)
span_tells list slots number owner line form.Receive words texts full are n r order =
    let both_words = two_words slots (is_number (word_at texts 1)) (word_at texts 4) (word_at texts 5) n r in
    rw (span_five slots number line words full) (two_tell slots number (get_or words 4 (spot 0 0))
    (spot_text line (get_or words 3 (spot 0 0))) (spot_text line (get_or words 4 (spot 0 0)))
    (word_at texts 4) (word_at texts 5)
    (text_here line words texts 1 3 are (omega (arith, full)))
    (text_here line words texts 1 4 are (omega (arith, full)))
    both_words.0 both_words.1 order)
span_tells list slots number owner line form.Flip words texts full are n r order = cc
span_tells list slots number owner line form.Error words texts full are n r order =
    let n2 = (and_parts (is_number (word_at texts 1)) (is_value (word_at texts 2) && (is_number (word_at texts 3)
    && (is_number (word_at texts 4) && true))) n).1 in
    let r2 = (and_parts (is_within_limit ERROR_LIMIT (value_in (word_at texts 2))) (in_run slots (word_at texts 3)
    && (in_run slots (word_at texts 4) && true)) r).1 in
    let both_words = two_words slots (is_value (word_at texts 2)) (word_at texts 3) (word_at texts 4) n2 r2 in
    rw (span_four slots number line words full) (two_tell slots number (get_or words 3 (spot 0 0))
    (spot_text line (get_or words 2 (spot 0 0))) (spot_text line (get_or words 3 (spot 0 0)))
    (word_at texts 3) (word_at texts 4)
    (text_here line words texts 1 2 are (omega (arith, full)))
    (text_here line words texts 1 3 are (omega (arith, full)))
    both_words.0 both_words.1 order)
span_tells list slots number owner line form.Jump words texts full are n r order = cc
span_tells list slots number owner line f words texts full are n r order = cc

span_right : (slots number : ℕ) (line : List ℕ) (f : Form) (words : List Spot)
    (texts : List (List ℕ)) → length words ≡ length (parts_of f) → AreTexts line words texts 1
    → in_order f texts ≡ true → span_errors slots number line (parts_of f) words ≡ []
span_right slots number line form.Slots words texts full are order = span_none slots number line form.Slots words refl
span_right slots number line form.On words texts full are order = span_none slots number line form.On words refl
span_right slots number line form.Drift words texts full are order = span_none slots number line form.Drift words refl
span_right slots number line form.Send words texts full are order =
    rw (span_five slots number line words full) (two_none slots number (get_or words 4 (spot 0 0))
    (spot_text line (get_or words 3 (spot 0 0))) (spot_text line (get_or words 4 (spot 0 0)))
    (word_at texts 4) (word_at texts 5)
    (text_here line words texts 1 3 are (omega (arith, full)))
    (text_here line words texts 1 4 are (omega (arith, full)))
    order)
span_right slots number line form.Receive words texts full are order =
    rw (span_five slots number line words full) (two_none slots number (get_or words 4 (spot 0 0))
    (spot_text line (get_or words 3 (spot 0 0))) (spot_text line (get_or words 4 (spot 0 0)))
    (word_at texts 4) (word_at texts 5)
    (text_here line words texts 1 3 are (omega (arith, full)))
    (text_here line words texts 1 4 are (omega (arith, full)))
    order)
span_right slots number line form.Flip words texts full are order = span_none slots number line form.Flip words refl
span_right slots number line form.Error words texts full are order =
    rw (span_four slots number line words full) (two_none slots number (get_or words 3 (spot 0 0))
    (spot_text line (get_or words 2 (spot 0 0))) (spot_text line (get_or words 3 (spot 0 0)))
    (word_at texts 3) (word_at texts 4)
    (text_here line words texts 1 2 are (omega (arith, full)))
    (text_here line words texts 1 3 are (omega (arith, full)))
    order)
span_right slots number line form.Jump words texts full are order = span_none slots number line form.Jump words refl
span_right slots number line form.Arm words texts full are order = span_none slots number line form.Arm words refl
span_right slots number line form.Write words texts full are order = span_none slots number line form.Write words refl
span_right slots number line form.Read words texts full are order = span_none slots number line form.Read words refl

-- A line whose words are spelled as they are due.

pub own_word : (list : Medl) (slots number : ℕ) (line : List ℕ) (f : Form) (words : List Spot)
    (texts : List (List ℕ)) → length words ≡ length (parts_of f) → AreTexts line words texts 1
    → has_channels (key f) texts ≡ false
    → TellsFault number faults.Word (own_errors (Some list) slots number line f words)
unfolding own_errors
own_word list slots number line f words texts full are spelled =
    let owner = line_node (Some list) line (parts_of f) words in
    let fs = form_flags list slots owner f texts in
    let none : list_all (λ g. g.spelled) fs ≡ false = sym (spelled_agree list slots owner f texts) ∙ spelled in
    let told : Has faults.Word (map class_at (word_errors (Some list) slots owner number line (parts_of f) words)) =
    subst (λ (xs : List LineFault). Has faults.Word xs) (sym (told_words list slots owner number line (parts_of f) words
    texts 1 full are)) (not_spelled fs none) in
    tells_front number faults.Word _ (span_errors slots number line (parts_of f) words) (tells_class number faults.Word
    (word_errors (Some list) slots owner number line (parts_of f) words)
    (on_words (Some list) slots owner number line (parts_of f) words) told)

-- the flags' fault is told among a line's errors
flags_tell : (list : Medl) (slots number : ℕ) (line : List ℕ) (f : Form) (words : List Spot)
    (texts : List (List ℕ)) (owner : Option ℕ) (fault : LineFault)
    → length words ≡ length (parts_of f) → AreTexts line words texts 1
    → Has fault (all_told (form_flags list slots owner f texts))
    → TellsFault number fault
    (word_errors (Some list) slots owner number line (parts_of f) words
    ++ span_errors slots number line (parts_of f) words)
flags_tell list slots number line f words texts owner fault full are has =
    tells_front number fault _ (span_errors slots number line (parts_of f) words) (tells_class number fault
    (word_errors (Some list) slots owner number line (parts_of f) words)
    (on_words (Some list) slots owner number line (parts_of f) words)
    (subst (λ (xs : List LineFault). Has fault xs) (sym (told_words list slots owner number line (parts_of f) words
    texts 1 full are)) has))

module _ (list : Medl) (slots : ℕ) (line : List ℕ) where
  -- the range of a line, where its node is known
  range_is : (f : Form) (words : List Spot) (texts : List (List ℕ)) (owner : Option ℕ) (r o : Bool)
      → length words ≡ length (parts_of f) → AreTexts line words texts 1 → 1 ≤ slots
      → owner ≡ line_node (Some list) line (parts_of f) words
      → list_all (λ g. g.number) (form_flags list slots owner f texts) ≡ true
      → list_all (λ g. g.node) (form_flags list slots owner f texts) ≡ true
      → list_all (λ g. g.sends) (form_flags list slots owner f texts) ≡ true
      → list_all (λ g. g.range) (form_flags list slots owner f texts) ≡ r → in_order f texts ≡ o
      → is_in_range list slots texts (statement_of (key f) texts) ≡ (r && o)
  range_is f words texts owner r o full are some is ns ds ps rs order =
      let v = decimal_value (word_at texts 1) in
      let same : form_flags list slots owner f texts ≡ form_flags list slots (Some v) f texts =
      flags_at_node list slots owner v f texts
      (λ asks. is ∙ node_known list slots owner line f words texts full are ns ds ps asks) in
      range_agrees list slots f texts some
      ∙ ap (λ (fs : List Flags). list_all (λ g. g.range) fs && in_order f texts) (sym same)
      ∙ rw (rs, order) refl

module _ (list : Medl) (slots number : ℕ) (line : List ℕ) (f : Form) (words : List Spot) (texts : List (List ℕ))
    (owner : Option ℕ) where
  -- one stage after another
  own_stages : (n d p r o : Bool) → length words ≡ length (parts_of f) → AreTexts line words texts 1 → 1 ≤ slots
      → owner ≡ line_node (Some list) line (parts_of f) words
      → list_all (λ g. g.spelled) (form_flags list slots owner f texts) ≡ true
      → list_all (λ g. g.number) (form_flags list slots owner f texts) ≡ n
      → list_all (λ g. g.node) (form_flags list slots owner f texts) ≡ d
      → list_all (λ g. g.sends) (form_flags list slots owner f texts) ≡ p
      → list_all (λ g. g.range) (form_flags list slots owner f texts) ≡ r → in_order f texts ≡ o
      → Outcome number (statement_faults list slots texts (key f))
      (word_errors (Some list) slots owner number line (parts_of f) words ++ span_errors slots number line (parts_of f)
      words)
  own_stages false d p r o full are some is spelled ns ds ps rs order =
      inr (
        faults.Number,
        (
          first_number list slots texts (key f) (numbers_agree list slots owner f texts ∙ ns),
          flags_tell list slots number line f words texts owner faults.Number full are
              (no_number (form_flags list slots owner f texts) spelled ns),
        ),
      )
  own_stages true false p r o full are some is spelled ns ds ps rs order =
      inr (
        faults.NoNode,
        (
          first_node list slots texts (key f) (numbers_agree list slots owner f texts ∙ ns)
              (nodes_agree list slots owner f texts ∙ ds),
          flags_tell list slots number line f words texts owner faults.NoNode full are
              (no_node (form_flags list slots owner f texts) spelled ns ds),
        ),
      )
  own_stages true true false r o full are some is spelled ns ds ps rs order =
      inr (
        faults.NoData,
        (
          first_data list slots texts (key f) (numbers_agree list slots owner f texts ∙ ns)
              (nodes_agree list slots owner f texts ∙ ds) (data_agree list slots owner f texts ∙ ps),
          flags_tell list slots number line f words texts owner faults.NoData full are
              (no_data (form_flags list slots owner f texts) spelled ns ds ps),
        ),
      )
  own_stages true true true false o full are some is spelled ns ds ps rs order =
      inr (
        faults.Range,
        (
          first_range list slots texts (key f) (numbers_agree list slots owner f texts ∙ ns)
              (nodes_agree list slots owner f texts ∙ ds) (data_agree list slots owner f texts ∙ ps)
              (range_is list slots line f words texts owner false o full are some is ns ds ps rs order),
          flags_tell list slots number line f words texts owner faults.Range full are
              (out_of_range (form_flags list slots owner f texts) spelled ns ds ps rs),
        ),
      )
  own_stages true true true true false full are some is spelled ns ds ps rs order =
      inr (
        faults.Range,
        (
          first_range list slots texts (key f) (numbers_agree list slots owner f texts ∙ ns)
              (nodes_agree list slots owner f texts ∙ ds) (data_agree list slots owner f texts ∙ ps)
              (range_is list slots line f words texts owner true false full are some is ns ds ps rs order),
          tells_back number faults.Range (word_errors (Some list) slots owner number line (parts_of f) words) _
              (span_tells list slots number owner line f words texts full are ns rs order),
        ),
      )
  own_stages true true true true true full are some is spelled ns ds ps rs order =
      let none : word_errors (Some list) slots owner number line (parts_of f) words ≡ [] =
      map_none _ (told_words list slots owner number line (parts_of f) words texts 1 full are
      ∙ all_right (form_flags list slots owner f texts) spelled ns ds ps rs) in
      inl (
        none_first list slots texts (key f) (numbers_agree list slots owner f texts ∙ ns)
            (nodes_agree list slots owner f texts ∙ ds) (data_agree list slots owner f texts ∙ ps)
            (range_is list slots line f words texts owner true true full are some is ns ds ps rs order),
        ap (λ (es : List ScriptError). es ++ span_errors slots number line (parts_of f) words) none
            ∙ span_right slots number line f words texts full are order,
      )

-- the errors of a line's words agree with the faults of what it states, whatever the lines before
pub own_outcome : (list : Medl) (slots number : ℕ) (line : List ℕ) (f : Form) (words : List Spot)
    (texts : List (List ℕ)) → length words ≡ length (parts_of f) → AreTexts line words texts 1 → 1 ≤ slots
    → has_channels (key f) texts ≡ true
    → Outcome number (statement_faults list slots texts (key f)) (own_errors (Some list) slots number line f words)
unfolding own_errors
own_outcome list slots number line f words texts full are some spelled =
    let owner = line_node (Some list) line (parts_of f) words in
    own_stages list slots number line f words texts owner _ _ _ _ _ full are some refl
    (sym (spelled_agree list slots owner f texts) ∙ spelled) refl refl refl refl refl
