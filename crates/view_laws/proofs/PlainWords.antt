-- The words of a chart need no escapes.
use Rattle.std.proofs.Common.{◌≡◌, ℕ, zero, suc, ◌+◌, ◌-◌, ◌/◌, ◌%◌, true, not, List, [], ◌∷◌, ◌++◌, get_or}
use Rattle.std.proofs.Common.{refl, take, drop, Option, Some, None, codes, decimal}
use Rattle.std.specs.Prelude.{◌==◌, nat_lt}
use Rattle.std.specs.List.{list_all, list_any, flat_map}
use Rattle.std.proofs.lemmas.Bool.{and_parts, cond_both, not-true, or_parts, or_from}
use Rattle.whole_campaign.specs.declared.shown.Doing.{Doing}
use Rattle.whole_campaign.specs.declared.shown.Doing.TheVariants as doing
use Rattle.whole_campaign.specs.declared.shown.FaultShown.{FaultShown}
use Rattle.whole_campaign.specs.declared.shown.Test.{Test}
use Rattle.whole_campaign.specs.declared.shown.Test.TheVariants as test
use Rattle.view_laws.proofs.FromBelow.{is_special, Plain, parts, plain-append, plain-decimal, plain-keep_meaning}
use Rattle.view_laws.proofs.FromBelow.{plain-back_meaning, plain-keep_name, plain-back_name}
use Rattle.chart_text.specs.declared.look.Look.{Look}
use Rattle.chart_text.specs.declared.look.Look.TheVariants as look
use Rattle.chart_text.specs.declared.size.Size.{Size}
use Rattle.chart_text.specs.Chart.{harm_text, hidden_text, slots_shown_text, test_meaning, test_name, counts_told}
use Rattle.chart_text.specs.declared.sum.Summed.{Summed}
use Rattle.chart_text.specs.declared.sum.Summed.TheVariants as summed
use Rattle.chart_text.specs.Sums.{look_told, many_shown, sends_class, sum_told, summed_name, worst_class, worst_shown}
use Rattle.chart_text.specs.Worst.{fault_in_line, hurt_word, list_title, lost_nodes, lost_said, words_from}
use Rattle.whole_campaign.specs.Whole.{FaultTold}
use Rattle.whole_campaign.specs.Words.{length_before}
use Rattle.chart_text.specs.Key.{key_said, many_class}
use Rattle.chart_text.specs.Looks.{look_text, look_letter, look_meaning, doing_word}
use Rattle.chart_text.specs.Looks.{jump_said, loss_said, channels_said}
use Rattle.chart_text.specs.Looks.{stays_said, kind_said, looks, fault_look, does_harm}
use Rattle.ttp_base.specs.NodeSet.{below}
use Rattle.campaign.specs.declared.cost.Counts.{Counts}

plain-at : (texts : List (List ℕ)) (i : ℕ) → list_all (λ text. not (list_any is_special text)) texts ≡ true
    → Plain (get_or texts i [])
plain-at [] i are = refl
plain-at (text ∷ texts) zero are =
    not-true (list_any is_special text)
    (and_parts (not (list_any is_special text)) (list_all (λ other. not (list_any is_special other)) texts) are).0
plain-at (text ∷ texts) (suc i) are =
    plain-at texts i
    (and_parts (not (list_any is_special text)) (list_all (λ other. not (list_any is_special other)) texts) are).1

plain-texts : {X : Type 0} (f : X → List ℕ) (xs : List X) → ((x : X) → Plain (f x)) → Plain (flat_map f xs)
plain-texts f [] each = refl
plain-texts f (x ∷ xs) each = plain-append (f x) (flat_map f xs) (each x) (plain-texts f xs each)

-- Looks.

pub plain-look : (l : Look) → Plain (look_text l)
plain-look look.Same = refl
plain-look l = refl

pub plain-look_letter : (l : Look) → Plain (look_letter l)
plain-look_letter look.Same = refl
plain-look_letter l = refl

pub plain-look_meaning : (l : Look) → Plain (look_meaning l)
plain-look_meaning look.Same = refl
plain-look_meaning l = refl

-- Kinds of faults.

pub plain-doing : (d : Doing) → Plain (doing_word d)
plain-doing doing.Send = refl
plain-doing d = refl

plain-loss : (p : ℕ) → Plain (loss_said p)
plain-loss p = cond_both (p % 2 == 0) (codes "silence") (codes "noise") Plain (λ yes. refl) (λ no. refl)

plain-jump : (p : ℕ) → Plain (jump_said p)
plain-jump p = plain-at (codes "4 W" ∷ codes "-4 W" ∷ codes "W" ∷ codes "-W" ∷ []) (p - 12) refl

plain-channels : (p : ℕ) → Plain (channels_said p)
plain-channels p = plain-at (codes "AB" ∷ codes "A" ∷ codes "B" ∷ []) (p % 6 / 2) refl

plain-stays : (p : ℕ) → Plain (stays_said p)
plain-stays p = cond_both (nat_lt p 6) [] (codes ", stays") Plain (λ yes. refl) (λ no. refl)

pub plain-kind : (p : ℕ) → Plain (kind_said p)
plain-kind p =
    cond_both (nat_lt p 12) (channels_said p ++ codes " " ++ loss_said p ++ stays_said p) (jump_said p) Plain
    (λ loss. plain-append (channels_said p ++ codes " " ++ loss_said p) (stays_said p)
    (plain-append (channels_said p ++ codes " ") (loss_said p)
    (plain-append (channels_said p) (codes " ") (plain-channels p) refl) (plain-loss p)) (plain-stays p))
    (λ jumps. plain-jump p)

pub plain-key : (p : ℕ) → Plain (key_said p)
plain-key p =
    cond_both (nat_lt p 12) (channels_said p ++ codes " " ++ loss_said p) (codes "jump " ++ jump_said p) Plain
    (λ loss. plain-append (channels_said p ++ codes " ") (loss_said p)
    (plain-append (channels_said p) (codes " ") (plain-channels p) refl) (plain-loss p))
    (λ jumps. plain-append (codes "jump ") (jump_said p) refl (plain-jump p))

pub plain-many : (many : ℕ) → Plain (many_class many)
plain-many many = cond_both (many == 0) (codes "zero") (codes "many") Plain (λ yes. refl) (λ no. refl)

-- What faults come to.

pub plain-worst_class : (size : Size) (worst : Option FaultShown) → Plain (worst_class size worst)
plain-worst_class size None = refl
plain-worst_class size (Some fault) = plain-look (fault_look size fault)

pub plain-worst_shown : (size : Size) (worst : Option FaultShown) → Plain (worst_shown size worst)
plain-worst_shown size None = refl
plain-worst_shown size (Some fault) =
    cond_both (does_harm size fault) (decimal fault.hurt) [] Plain (λ yes. plain-decimal fault.hurt) (λ no. refl)

pub plain-sends : (first : Option Doing) → Plain (sends_class first)
plain-sends None = refl
plain-sends (Some doing.Send) = refl
plain-sends (Some doing.Receive) = refl
plain-sends (Some doing.Jump) = refl

plain-summed : (name : Summed) → Plain (summed_name name)
plain-summed (summed.OfCell slot node) = simp parts
plain-summed name = simp parts

plain-told : (counts : List ℕ) (i : ℕ) → Plain (look_told counts i)
plain-told counts i =
    let l = get_or looks i look.Same in
    let many = get_or counts i 0 in
    cond_both (many == 0) [] (codes ", " ++ look_text l ++ codes " " ++ decimal many) Plain (λ none. refl)
    (λ some. simp (parts, plain-look l))

pub plain-sum : (name : Summed) (many : ℕ) (counts : List ℕ) → Plain (sum_told name many counts)
plain-sum name many counts =
    plain-append (summed_name name ++ codes " faults " ++ decimal many)
    (flat_map (look_told counts) (below 9)) (simp (parts, plain-summed name))
    (plain-texts (look_told counts) (below 9) (plain-told counts))

pub plain-many_shown : (many : ℕ) → Plain (many_shown many)
plain-many_shown many = cond_both (many == 0) [] (decimal many) Plain (λ none. refl) (λ some. plain-decimal many)

-- The worst.

-- a text that needs no escape has none behind any byte, and none before it
plain-dropped : (n : ℕ) (text : List ℕ) → Plain text → Plain (drop n text)
plain-dropped zero text is = is
plain-dropped (suc n) [] is = refl
plain-dropped (suc n) (c ∷ text) is =
    plain-dropped n text (or_parts (is_special c) (list_any is_special text) is).1

plain-taken : (n : ℕ) (text : List ℕ) → Plain text → Plain (take n text)
plain-taken zero text is = refl
plain-taken (suc n) [] is = refl
plain-taken (suc n) (c ∷ text) is =
    let parted = or_parts (is_special c) (list_any is_special text) is in
    or_from (is_special c) (list_any is_special (take n text)) parted.0 (plain-taken n text parted.1)

plain-words : (n : ℕ) (text : List ℕ) → Plain text → Plain (words_from n text)
plain-words zero text is = is
plain-words (suc n) text is =
    let rest = words_from n text in
    plain-dropped (length_before 32 rest + 1) rest (plain-words n text is)

pub plain-fault : (text : List ℕ) → Plain text → Plain (fault_in_line text)
plain-fault text is = plain-words 18 text is

plain-hurt : (text : List ℕ) → Plain text → Plain (hurt_word text)
plain-hurt text is =
    let rest = words_from 11 text in plain-taken (length_before 32 rest) rest (plain-words 11 text is)

plain-nodes_lost : (fault : FaultTold) → Plain fault.text → Plain (lost_nodes fault)
plain-nodes_lost fault is =
    cond_both (fault.shown.hurt == 0) [] (codes " (" ++ hurt_word fault.text ++ codes ")") Plain (λ none. refl)
    (λ some. plain-append (codes " (" ++ hurt_word fault.text) (codes ")")
    (plain-append (codes " (") (hurt_word fault.text) refl (plain-hurt fault.text is)) refl)

pub plain-lost : (size : Size) (fault : FaultTold) → Plain fault.text → Plain (lost_said size fault)
plain-lost size fault is =
    plain-append (look_text (fault_look size fault.shown) ++ codes ", healthy nodes lost: " ++ decimal fault.shown.hurt)
    (lost_nodes fault) (simp (parts, plain-look (fault_look size fault.shown))) (plain-nodes_lost fault is)

pub plain-list_title : (harmful : ℕ) → Plain (list_title harmful)
plain-list_title harmful =
    cond_both (harmful == 0) (codes "no fault is harmful")
    (codes "the worst of " ++ decimal harmful ++ codes " harmful faults") Plain (λ none. refl) (λ some. simp parts)

-- The head.

plain-hidden : (hidden : Option ℕ) → Plain (hidden_text hidden)
plain-hidden None = refl
plain-hidden (Some t) = simp parts

pub plain-shown_slots : (size : Size) (shown : List ℕ) (hidden : Option ℕ)
    → Plain (slots_shown_text size shown hidden)
plain-shown_slots size shown hidden = simp (parts, plain-hidden hidden)

pub plain-harm : (harmful all most nodes : ℕ) → Plain (harm_text harmful all most nodes)
plain-harm harmful all most nodes = simp parts

pub plain-test : (t : Test) → Plain (test_meaning t)
plain-test (test.Keep k) = plain-keep_meaning k
plain-test (test.Back b) = plain-back_meaning b

pub plain-test_name : (t : Test) → Plain (test_name t)
plain-test_name (test.Keep k) = plain-keep_name k
plain-test_name (test.Back b) = plain-back_name b

pub plain-counts : (place : List ℕ) (counts : Counts) → Plain place → Plain (counts_told place counts)
plain-counts place counts is = simp (parts, is)
