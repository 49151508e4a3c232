-- Lines that are read as those of a campaign need no escapes.
use Rattle.std.proofs.Common.{◌≡◌, ℕ, suc, ℤ, pos, negsuc, ◌≤◌, Bool, true, false, cond, ◌&&◌, ◌||◌}
use Rattle.std.proofs.Common.{List, [], ◌∷◌, ◌++◌, fold, Option, Some, None, refl, sym, ap, subst, ◌∙◌, arith}
use Rattle.std.proofs.Common.{codes, decimal, bytes_eq}
use Rattle.std.specs.Prelude.{nat_le, nat_lt, option_map, IfSome}
use Rattle.std.specs.Fmt.{signed_decimal}
use Rattle.std.specs.List.{join_with_byte, slice_split, AllByRecursion}
use Rattle.std.proofs.lemmas.Bool.{and_parts}
use Rattle.std.proofs.lemmas.List.{take-append-drop}
use Rattle.std.proofs.lemmas.List.Splits.{join_with_byte-slice_split}
use Rattle.ttp_world.specs.declared.script.Channels.{Channels}
use Rattle.ttp_world.specs.declared.script.Fault.{Fault}
use Rattle.ttp_world.specs.declared.script.Fault.TheVariants as fault
use Rattle.line_text.specs.Labels.{after_label}
use Rattle.line_text.specs.Numerals.{numeral_in}
use Rattle.view_laws.proofs.FromBelow.{label-takes, guarded, chosen, some_same, takes, bound, line-takes, reads-found}
use Rattle.view_laws.proofs.FromBelow.{numeral-takes}
use Rattle.view_laws.proofs.FromBelow.{Plain, parts, plain-append, plain-decimal, plain-hex, plain-keep, plain-back}
use Rattle.line_reader.specs.declared.trace_line.TraceLine.{TraceLine}
use Rattle.line_reader.specs.declared.trace_line.TraceLine.TheVariants as line
use Rattle.line_reader.specs.Reading.{◌>>=◌, line_in}
use Rattle.line_form.specs.Kinds.{read, spell, hexed_or, count_of_digits}
use Rattle.line_form.specs.Forms.{LineForm, Values, spelled as spelled_of, fit, line_values}
use Rattle.line_reader.specs.TraceLines.{slot_digits, text_of}
use Rattle.campaign.specs.CostText.{on_channels, channels_word, kind_word, loss_words}
use Rattle.whole_campaign.specs.declared.cost.CostShown.{CostShown}
use Rattle.whole_campaign.specs.declared.listed.Kind.{Kind}
use Rattle.whole_campaign.specs.declared.listed.Kind.TheVariants as kind
use Rattle.whole_campaign.specs.declared.listed.NodesSoFar.{NodesSoFar}
use Rattle.whole_campaign.specs.declared.listed.SetsSoFar.{SetsSoFar}
use Rattle.whole_campaign.specs.declared.shown.Doing.{Doing}
use Rattle.whole_campaign.specs.declared.shown.Doing.TheVariants as doing
use Rattle.whole_campaign.specs.declared.shown.Test.{Test}
use Rattle.whole_campaign.specs.declared.spot.Spot.{Spot}
use Rattle.whole_campaign.specs.Words.{line_said, Cut, cut_after, length_before, word_behind}
use Rattle.whole_campaign.specs.Words.{length_of_words, words_behind, node_digits}
use Rattle.whole_campaign.specs.Words.{is_comma, is_dash, is_reason, leaving_in, node_in_word}
use Rattle.whole_campaign.specs.Words.{with_node_word, no_nodes_yet}
use Rattle.whole_campaign.specs.Words.{nodes_listed, members_listed, with_set_word, no_sets_yet, sets_listed, split_in}
use Rattle.whole_campaign.specs.Runs.{RunWords, run_words_in, test_of, test_in, cost_in}
use Rattle.whole_campaign.specs.Faults.{channels_at, loss_at, loss_end, doing_label, is_loss_of}
use Rattle.whole_campaign.specs.Faults.{jump_form, jump_told, is_jump_of, is_fault_of}
use Rattle.ttp_world.proofs.SmallTests.{spelled}

-- Lines with a form.

-- a line is the text of its values
pub record IsText {A : Type 0} (form : LineForm) (said : Values form → A) (bytes : List ℕ) (v : A) : Type 0 where
  pub values : Values form
  pub text : bytes ≡ spelled_of form values

pub said-takes : {A : Type 0} (form : LineForm) (said : Values form → A) (bytes : List ℕ) (v : A)
    → line_said form said bytes ≡ Some v → IsText form said bytes v
unfolding line_said
said-takes form said bytes v e = go (line_values form bytes) e (reads-found form bytes)
  where
    go : (o : Option (Values form)) → option_map said o ≡ Some v
        → IfSome o (λ vs. (fit form vs ≡ true) × (bytes ≡ spelled_of form vs)) → IsText form said bytes v
    go None e found = cc
    go (Some vs) e found = record { values = vs; text = found.1 }

-- Words.

-- what bytes are, where a word was cut off behind a label
pub word-cut : (stop : ℕ) (label bytes : List ℕ) (cut : Cut) → word_behind stop label bytes ≡ Some cut
    → bytes ≡ label ++ (cut.front ++ cut.rest)
unfolding word_behind
word-cut stop label bytes cut e =
    let b = bound (after_label label bytes) (λ rest. Some (cut_after (length_before stop rest) rest)) cut e in
    let is : cut_after (length_before stop b.value) b.value ≡ cut =
    some_same (cut_after (length_before stop b.value) b.value) cut b.gives in
    label-takes label bytes b.value b.read
    ∙ ap (λ (rest : List ℕ). label ++ rest) (sym (take-append-drop (length_before stop b.value) b.value))
    ∙ ap (λ (c : Cut). label ++ (c.front ++ c.rest)) is

words-cut : (n : ℕ) (bytes : List ℕ) (cut : Cut) → words_behind n bytes ≡ Some cut
    → bytes ≡ codes " " ++ (cut.front ++ cut.rest)
unfolding words_behind
words-cut n bytes cut e =
    let b = bound (after_label (codes " ") bytes) (λ rest. Some (cut_after (length_of_words n rest) rest)) cut e in
    let is : cut_after (length_of_words n b.value) b.value ≡ cut =
    some_same (cut_after (length_of_words n b.value) b.value) cut b.gives in
    label-takes (codes " ") bytes b.value b.read
    ∙ ap (λ (rest : List ℕ). codes " " ++ rest) (sym (take-append-drop (length_of_words n b.value) b.value))
    ∙ ap (λ (c : Cut). codes " " ++ (c.front ++ c.rest)) is

pub plain-is : (bytes text : List ℕ) → bytes ≡ text → Plain text → Plain bytes
plain-is bytes text same is = subst Plain (sym same) is

pub plain-number : (most : ℕ) (word : List ℕ) (n : ℕ) → most ≤ 18 → numeral_in most word ≡ Some n → Plain word
plain-number most word n few e = plain-is word (decimal n) (numeral-takes most word n few e).text (plain-decimal n)

-- a label, a word and the rest
pub plain-cut : (label bytes front rest : List ℕ) → bytes ≡ label ++ (front ++ rest)
    → Plain label → Plain front → Plain rest
    → Plain bytes
plain-cut label bytes front rest is p q r =
    plain-is bytes (label ++ (front ++ rest)) is (plain-append label (front ++ rest) p (plain-append front rest q r))

pub plain-behind : (label bytes rest : List ℕ) → after_label label bytes ≡ Some rest
    → Plain label → Plain rest → Plain bytes
plain-behind label bytes rest e p q =
    plain-is bytes (label ++ rest) (label-takes label bytes rest e) (plain-append label rest p q)

-- Lists.

plain-joined : (words : List (List ℕ)) → AllByRecursion Plain words → Plain (join_with_byte 44 words)
plain-joined [] are = refl
plain-joined (word ∷ []) are = are.0
plain-joined (word ∷ next ∷ words) are =
    plain-append word (44 ∷ join_with_byte 44 (next ∷ words)) are.0 (plain-joined (next ∷ words) are.1)

plain-split : (list : List ℕ) → AllByRecursion Plain (slice_split is_comma list) → Plain list
plain-split list are =
    plain-is list (join_with_byte 44 (slice_split is_comma list)) (sym (join_with_byte-slice_split 44 list))
    (plain-joined (slice_split is_comma list) are)

plain-dash : (word : List ℕ) → is_dash word ≡ true → Plain word
plain-dash word is = plain-is word (codes "-") (spelled word (codes "-") is) refl

-- one of three words
one-of : (a b c : Bool) → (a || (b || c)) ≡ true → (P : Type 0) → (a ≡ true → P) → (b ≡ true → P) → (c ≡ true → P) → P
one-of true b c e P p q r = p refl
one-of false true c e P p q r = q refl
one-of false false c e P p q r = r e

plain-reason : (word : List ℕ) → is_reason word ≡ true → Plain word
unfolding is_reason
plain-reason word is =
    one-of (bytes_eq word (codes "denied")) (bytes_eq word (codes "unacknowledged")) (bytes_eq word (codes "clique")) is
    (Plain word) (λ e. plain-is word (codes "denied") (spelled word (codes "denied") e) refl)
    (λ e. plain-is word (codes "unacknowledged") (spelled word (codes "unacknowledged") e) refl)
    (λ e. plain-is word (codes "clique") (spelled word (codes "clique") e) refl)

plain-leaving : (slots : ℕ) (word : List ℕ) (k : ℕ) → leaving_in slots word ≡ Some k → Plain word
unfolding leaving_in
plain-leaving slots word k e =
    let node = bound (word_behind 58 [] word) _ k e in
    let slot = bound (word_behind 58 (codes ":") node.value.rest) _ k node.gives in
    let why = bound (after_label (codes ":") slot.value.rest) _ k slot.gives in
    let n = bound (numeral_in node_digits node.value.front) _ k why.gives in
    let t = bound (numeral_in slot_digits slot.value.front) _ k n.gives in
    let g = guarded (nat_lt t.value slots && is_reason why.value) (Some n.value) k t.gives in
    let tests = and_parts (nat_lt t.value slots) (is_reason why.value) g.0 in
    plain-cut [] word node.value.front node.value.rest (word-cut 58 [] word node.value node.read) refl
    (plain-number node_digits node.value.front n.value (omega arith) n.read)
    (plain-cut (codes ":") node.value.rest slot.value.front slot.value.rest
    (word-cut 58 (codes ":") node.value.rest slot.value slot.read) refl
    (plain-number slot_digits slot.value.front t.value (omega arith) t.read)
    (plain-behind (codes ":") slot.value.rest why.value why.read refl (plain-reason why.value tests.1)))

plain-node : (kind : Kind) (word : List ℕ) (k : ℕ) → node_in_word kind word ≡ Some k → Plain word
plain-node (kind.Leaving slots) word k e = plain-leaving slots word k e
plain-node kind.Hurt word k e = plain-number node_digits word k (omega arith) e

-- Folds of readings, which read nothing behind nothing.

-- what was read first, and the fold from it on
record FoldsOn {S : Type 0} (f : Option S → List ℕ → Option S) (o : Option S)
    (words : List (List ℕ)) (all : S) : Type 0 where
  next : S
  is : o ≡ Some next
  folds : fold f (Some next) words ≡ Some all

fold-none : {S : Type 0} (f : Option S → List ℕ → Option S) (words : List (List ℕ))
    → ((word : List ℕ) → f None word ≡ None)
    → fold f None words ≡ None
fold-none f [] strict = refl
fold-none f (word ∷ words) strict = ap (λ o. fold f o words) (strict word) ∙ fold-none f words strict

folds-on : {S : Type 0} (f : Option S → List ℕ → Option S) (o : Option S) (words : List (List ℕ)) (all : S)
    → ((word : List ℕ) → f None word ≡ None) → fold f o words ≡ Some all → FoldsOn f o words all
folds-on f None words all strict e = absurd (let both : None ≡ Some all = sym (fold-none f words strict) ∙ e in cc)
folds-on f (Some s) words all strict e = record { next = s; is = refl; folds = e }

-- each word is plain where it was read
plain-folded : {S : Type 0} (f : Option S → List ℕ → Option S) (s : S) (words : List (List ℕ)) (all : S)
    → ((word : List ℕ) → f None word ≡ None)
    → ((before : S) (word : List ℕ) (next : S) → f (Some before) word ≡ Some next → Plain word)
    → fold f (Some s) words ≡ Some all → AllByRecursion Plain words
plain-folded f s [] all strict each e = tt
plain-folded f s (word ∷ words) all strict each e =
    let on = folds-on f (f (Some s) word) words all strict e in
    (each s word on.next on.is, plain-folded f on.next words all strict each on.folds)

node-nothing : (kind : Kind) (n : ℕ) (word : List ℕ) → with_node_word kind n None word ≡ None
unfolding with_node_word
node-nothing kind n word = refl

plain-node_word : (kind : Kind) (n : ℕ) (before : NodesSoFar) (word : List ℕ) (next : NodesSoFar)
    → with_node_word kind n (Some before) word ≡ Some next → Plain word
unfolding with_node_word
plain-node_word kind n before word next e =
    let k = bound (node_in_word kind word) _ next e in plain-node kind word k.value k.read

plain-nodes : (kind : Kind) (n : ℕ) (list : List ℕ) (count : ℕ) → nodes_listed kind n list ≡ Some count → Plain list
unfolding nodes_listed
plain-nodes kind n list count e =
    chosen (λ c. Plain list) (is_dash list) 0
    (fold (with_node_word kind n) (Some no_nodes_yet) (slice_split is_comma list) >>= λ nodes. Some nodes.count) count
    (λ dash. plain-dash list dash)
    (λ words. let all = bound
    (fold (with_node_word kind n) (Some no_nodes_yet) (slice_split is_comma list)) _ count words in
    plain-split list
    (plain-folded (with_node_word kind n) no_nodes_yet (slice_split is_comma list) all.value (node-nothing kind n)
    (plain-node_word kind n) all.read)) e

plain-members : (n : ℕ) (word : List ℕ) (members : ℕ) → members_listed n word ≡ Some members → Plain word
unfolding members_listed
plain-members n word members e =
    let w = bound (read (hexed_or 4 6) word) _ members e in
    plain-is word (spell (hexed_or 4 6) w.value) (takes (hexed_or 4 6) word w.value w.read).text
    (plain-hex (count_of_digits 4 6 w.value.0) w.value.1)

set-nothing : (n : ℕ) (word : List ℕ) → with_set_word n None word ≡ None
unfolding with_set_word
set-nothing n word = refl

plain-set_word : (n : ℕ) (before : SetsSoFar) (word : List ℕ) (next : SetsSoFar)
    → with_set_word n (Some before) word ≡ Some next → Plain word
unfolding with_set_word
plain-set_word n before word next e =
    let m = bound (members_listed n word) _ next e in plain-members n word m.value m.read

plain-sets : (n : ℕ) (list : List ℕ) (all : SetsSoFar) → sets_listed n list ≡ Some all → Plain list
unfolding sets_listed
plain-sets n list all e =
    chosen (λ s. Plain list) (is_dash list) no_sets_yet
    (fold (with_set_word n) (Some no_sets_yet) (slice_split is_comma list)) all (λ dash. plain-dash list dash)
    (λ words. plain-split list
    (plain-folded (with_set_word n) no_sets_yet (slice_split is_comma list) all
    (set-nothing n) (plain-set_word n) words)) e

plain-span : (slots : ℕ) (first last : List ℕ) (split : Bool) → split_in slots first last ≡ Some split
    → Plain first × Plain last
unfolding split_in
plain-span slots first last split e =
    chosen (λ b. Plain first × Plain last) (is_dash first && is_dash last) false
    (numeral_in slot_digits first >>= λ f. numeral_in slot_digits last
    >>= λ g. cond (nat_le f g && nat_lt g slots) (Some true) None) split
    (λ dashes. let tests = and_parts (is_dash first) (is_dash last) dashes in
    (plain-dash first tests.0, plain-dash last tests.1))
    (λ numbers. let f = bound (numeral_in slot_digits first) _ split numbers in
    let g = bound (numeral_in slot_digits last) _ split f.gives in (
      plain-number slot_digits first f.value (omega arith) f.read,
      plain-number
          slot_digits last g.value (omega arith) g.read,
    )) e

-- The words of a run.

pub plain-cost : (n slots : ℕ) (words : List ℕ) (cost : CostShown) → cost_in n slots words ≡ Some cost → Plain words
unfolding cost_in
plain-cost n slots words cost e =
    let left = bound (word_behind 32 (codes "left ") words) _ cost e in
    let hurt = bound (word_behind 32 (codes " hurt ") left.value.rest) _ cost left.gives in
    let first = bound (word_behind 32 (codes " split ") hurt.value.rest) _ cost hurt.gives in
    let last = bound (word_behind 32 (codes " ") first.value.rest) _ cost first.gives in
    let sets = bound (after_label (codes " end ") last.value.rest) _ cost last.gives in
    let leaving = bound (nodes_listed (kind.Leaving slots) n left.value.front) _ cost sets.gives in
    let count = bound (nodes_listed kind.Hurt n hurt.value.front) _ cost leaving.gives in
    let split = bound (split_in slots first.value.front last.value.front) _ cost count.gives in
    let all = bound (sets_listed n sets.value) _ cost split.gives in
    let span = plain-span slots first.value.front last.value.front split.value split.read in
    plain-cut (codes "left ") words left.value.front left.value.rest
    (word-cut 32 (codes "left ") words left.value left.read)
    refl (plain-nodes (kind.Leaving slots) n left.value.front leaving.value leaving.read)
    (plain-cut (codes " hurt ") left.value.rest hurt.value.front hurt.value.rest
    (word-cut 32 (codes " hurt ") left.value.rest hurt.value hurt.read) refl
    (plain-nodes kind.Hurt n hurt.value.front count.value count.read)
    (plain-cut (codes " split ") hurt.value.rest first.value.front first.value.rest
    (word-cut 32 (codes " split ") hurt.value.rest first.value first.read) refl span.0
    (plain-cut (codes " ") first.value.rest last.value.front last.value.rest
    (word-cut 32 (codes " ") first.value.rest last.value last.read) refl span.1
    (plain-behind (codes " end ") last.value.rest sets.value sets.read refl
    (plain-sets n sets.value all.value all.read)))))

plain-answer : (v : TraceLine) (t : Test) → test_of v ≡ Some t → Plain (text_of v)
plain-answer (line.Keep k) t e = plain-keep k
plain-answer (line.Back b) t e = plain-back b
plain-answer v t e = cc

pub plain-tested : (words : List ℕ) (t : Test) → test_in words ≡ Some t → Plain words
unfolding test_in
plain-tested words t e =
    let v = bound (line_in words) test_of t e in
    plain-is words (text_of v.value) (line-takes words v.value v.read).1 (plain-answer v.value t v.gives)

pub plain-run : (bytes : List ℕ) (run : RunWords) → run_words_in bytes ≡ Some run → Plain run.test → Plain run.cost
    → Plain run.fault → Plain bytes
unfolding run_words_in
plain-run bytes run e test cost fault =
    let a = bound (words_behind 4 bytes) _ run e in
    let b = bound (words_behind 9 a.value.rest) _ run a.gives in
    let c = bound (after_label (codes " fault ") b.value.rest) _ run b.gives in
    let is = some_same _ run c.gives in
    plain-cut (codes " ") bytes a.value.front a.value.rest (words-cut 4 bytes a.value a.read) refl
    (subst (λ (r : RunWords). Plain r.test) (sym is) test)
    (plain-cut (codes " ") a.value.rest b.value.front b.value.rest (words-cut 9 a.value.rest b.value b.read) refl
    (subst (λ (r : RunWords). Plain r.cost) (sym is) cost)
    (plain-behind (codes " fault ") b.value.rest c.value c.read refl
    (subst (λ (r : RunWords). Plain r.fault) (sym is) fault)))

-- The words of a fault.

plain-channels : (a b : Bool) → Plain (on_channels a b)
plain-channels true true = refl
plain-channels true false = refl
plain-channels false b = refl

plain-lost : (kind : Fault) → Plain (kind_word kind)
plain-lost fault.Silence = refl
plain-lost fault.Noise = refl

plain-label : (d : Doing) → Plain (doing_label d)
plain-label doing.Send = refl
plain-label d = refl

six-plain : (word node channels kind from to : List ℕ) → Plain word → Plain node
    → Plain channels → Plain kind → Plain from
    → Plain to
    → Plain (word ++ node ++ codes " " ++ channels ++ codes " " ++ kind ++ codes " " ++ from ++ codes " " ++ to)
six-plain word node channels kind from to p q r s t u = simp (parts, p, q, r, s, t, u)

plain-loss : (word : List ℕ) (k : ℕ) (channels : Channels) (kind : Fault) (from to : ℕ) → Plain word
    → Plain (loss_words word k channels kind from to)
plain-loss word k channels kind from to is =
    six-plain word (decimal k) (channels_word channels) (kind_word kind)
    (decimal from) (decimal to) is (plain-decimal k)
    (plain-channels channels.a channels.b) (plain-lost kind) (plain-decimal from) (plain-decimal to)

plain-signed : (z : ℤ) → Plain (signed_decimal z)
plain-signed (pos n) = plain-decimal n
plain-signed (negsuc n) = rw (plain-decimal (suc n)) refl

plain-jump_text : (vs : Values jump_form) → Plain (spelled_of jump_form vs)
plain-jump_text (node, (value, (slot, end))) = simp (parts, plain-signed value)

plain-jump_of : (s : Spot) (words : List ℕ) (o : _) → line_said jump_form jump_told words ≡ o
    → is_jump_of s o ≡ true → Plain words
plain-jump_of s words None read e = cc
plain-jump_of s words (Some jump) read e =
    let line = said-takes jump_form jump_told words jump read in
    plain-is words (spelled_of jump_form line.values) line.text (plain-jump_text line.values)

either-test : (b x y : Bool) (P : Type 0) → cond b x y ≡ true → (x ≡ true → P) → (y ≡ true → P) → P
either-test true x y P e one other = one e
either-test false x y P e one other = other e

plain-lost_words : (slots : ℕ) (s : Spot) (words : List ℕ) → is_loss_of slots s words ≡ true → Plain words
unfolding is_loss_of
plain-lost_words slots s words same =
    plain-is words _ (spelled words _ same)
    (plain-loss (doing_label s.doing) s.node (channels_at s.place)
    (loss_at s.place) s.slot (loss_end slots s.slot s.place)
    (plain-label s.doing))

pub plain-fault : (slots : ℕ) (s : Spot) (words : List ℕ) → is_fault_of slots s words ≡ true → Plain words
plain-fault slots s words e =
    either-test (nat_lt s.place 12) (is_loss_of slots s words) (is_jump_of s (line_said jump_form jump_told words))
    (Plain words) e (plain-lost_words slots s words) (plain-jump_of s words (line_said jump_form jump_told words) refl)
