-- What a run cost is read of its words.
use Rattle.lab_laws.proofs.Words.{◌≡◌, ℕ, ◌^◌, ◌<◌, ◌≤◌, Bool, true, false, ◌&&◌, ◌||◌, not, List, [], ◌∷◌, ◌++◌}
use Rattle.lab_laws.proofs.Words.{length, fold, Option, Some, None, IfSome, refl, sym, ap, ◌∙◌, arith, codes}
use Rattle.lab_laws.proofs.Words.{decimal, subst, ◌==◌, nat_le, map, is_some, list_any}
use Rattle.lab_laws.proofs.Words.{AllByRecursion, or-true, and_parts, both_ways, eq-eqb, false_from_ne_true}
use Rattle.lab_laws.proofs.Words.{le-leb, lt-ltb, list_any-append, bytes_eq-Decides, has, has-append}
use Rattle.lab_laws.proofs.Words.{has-decimal, HasWord, Medl, numeral-again, slot_digits, Cost, Leave, Span}
use Rattle.lab_laws.proofs.Words.{listed, leave_word, members_word, cost_words, SetsSoFar, is_dash}
use Rattle.lab_laws.proofs.Words.{members_listed, nodes_listed, sets_listed, node_digits, cost_in}
use Rattle.std.proofs.Common.{◌*◌}
use Rattle.std.proofs.Common.{lit<}
use Rattle.std.specs.List.{list_all}
use Rattle.std.proofs.Math.Nat.{pow-le-pow_right}
use Rattle.std.proofs.lemmas.Bool.{ne_eqb, or_from}
use Rattle.std.proofs.lemmas.List.{append-nil}
use Rattle.ttp_base.proofs.Gathered.{gathered, gather-behind}
use Rattle.ttp_base.specs.NodeSet.{most_nodes, set_bits, members_in}
use Rattle.ttp_base.specs.Text.{hex}
use Rattle.ttp_base.proofs.Numerals.{has-hex}
use Rattle.ttp_base.proofs.SetWords.{set_bits-small, members_in-set_bits}
use Rattle.ttp_world.specs.declared.node.Entry.TheVariants as entry
use Rattle.ttp_world.specs.declared.node.Reason.{Reason}
use Rattle.ttp_world.specs.declared.node.Reason.TheVariants as reason
use Rattle.ttp_world.specs.Medl.{is_wide, member_bytes}
use Rattle.ttp_world.specs.Trace.{reason_word, member_digits}
use Rattle.ttp_world.specs.TraceNumbers.{is_digit, append_digit}
use Rattle.ttp_world.proofs.NumberWords.{number_named-decimal}
use Rattle.ttp_world.proofs.TraceWords.{has-entry_word}
use Rattle.lab_laws.proofs.FromBelow.{guarded, again}
use Rattle.line_form.specs.Kinds.{read, hexed_or}
use Rattle.campaign.specs.CostText.{span_words}
use Rattle.whole_campaign.specs.declared.listed.Kind.TheVariants as kind
use Rattle.whole_campaign.specs.Words.{is_reason, leaving_in, split_in}
use Rattle.lab_laws.proofs.WordsCut.{IsOfWords, word-behind, one-word, more-words}
use Rattle.lab_laws.proofs.ListsRead.{IsNodeWord, AreNodeWords, IsSetWord, has-listed, numeral-no_dash}
use Rattle.lab_laws.proofs.ListsRead.{nodes-again, sets-again}

-- Numerals have no byte that is no digit.

has-digits : (b : ℕ) (word : List ℕ) → is_digit b ≡ false → list_all is_digit word ≡ true → has b word ≡ false
has-digits b [] other digits = refl
has-digits b (c ∷ word) other digits =
    let parts = and_parts (is_digit c) (list_all is_digit word) digits in
    or_from (c == b) (has b word)
    (ne_eqb c b (λ same. both_ways (is_digit c) (ap is_digit same ∙ other) parts.0)) (has-digits b word other parts.1)

has-colon : (n : ℕ) → n < 2 ^ 64 → has 58 (decimal n) ≡ false
has-colon n small =
    let named = guarded (list_all is_digit (decimal n) && not (length (decimal n) == 0))
    (Some (fold append_digit 0 (decimal n))) n (number_named-decimal n small) in
    let parts = and_parts (list_all is_digit (decimal n)) (not (length (decimal n) == 0)) named.0 in
    has-digits 58 (decimal n) refl parts.0

-- The word of a node that left.

abbrev leave_nested : Leave → List ℕ
leave_nested leave =
    decimal leave.node ++ (codes ":" ++ (decimal leave.slot ++ (codes ":" ++ reason_word leave.reason)))

leave-nested : (leave : Leave) → leave_word leave ≡ leave_nested leave
leave-nested leave =
    gathered (decimal leave.node) (codes ":" ∷ decimal leave.slot ∷ codes ":" ∷ reason_word leave.reason ∷ [])
    ∙ ap (λ (w : List ℕ). decimal leave.node ++ (codes ":" ++ (decimal leave.slot ++ (codes ":" ++ w))))
    (append-nil (reason_word leave.reason))

reason-again : (why : Reason) → is_reason (reason_word why) ≡ true
unfolding is_reason
reason-again reason.Denied = refl
reason-again why = refl

pub has-leave : (b : ℕ) (leave : Leave) → b < 45 → has b (leave_word leave) ≡ false
has-leave b leave low =
    let colon : (58 == b) ≡ false = ne_eqb 58 b (λ same. omega (arith, same, low)) in
    let slot = has-append b (decimal leave.slot) (codes ":" ++ reason_word leave.reason) (has-decimal b leave.slot low)
    (rw colon (has-entry_word b (entry.Left leave.reason 0) low)) in
    ap (has b) (leave-nested leave)
    ∙ has-append b (decimal leave.node) (codes ":" ++ (decimal leave.slot ++ (codes ":" ++ reason_word leave.reason)))
    (has-decimal b leave.node low) (rw colon slot)

nested-again : (slots : ℕ) (leave : Leave) → leave.node < 24 → leave.slot < slots → slots ≤ 20000
    → leaving_in slots (leave_nested leave) ≡ Some leave.node
unfolding leaving_in
nested-again slots leave node inside few =
    let why = reason_word leave.reason in
    rw (
      word-behind 58 [] (decimal leave.node) (decimal leave.slot ++ (codes ":" ++ why))
          (has-colon leave.node (omega (arith, node))),
      word-behind 58 (codes ":") (decimal leave.slot) why (has-colon leave.slot (omega (arith, inside, few))),
      numeral-again node_digits leave.node (omega arith) (omega arith) (omega (arith, node)),
      numeral-again slot_digits leave.slot (omega arith) (omega arith) (omega (arith, inside, few)),
      lt-ltb leave.slot slots inside,
      reason-again leave.reason,
    ) refl

leaving-again : (slots : ℕ) (leave : Leave) → leave.node < 24 → leave.slot < slots → slots ≤ 20000
    → leaving_in slots (leave_word leave) ≡ Some leave.node
leaving-again slots leave node inside few =
    ap (leaving_in slots) (leave-nested leave) ∙ nested-again slots leave node inside few

has-it : (b : ℕ) (x y : List ℕ) → has b (x ++ b ∷ y) ≡ true
has-it b x y =
    let here : (b == b) ≡ true = eq-eqb b b refl in
    list_any-append (λ c. c == b) x (b ∷ y) ∙ rw here (or-true (has b x))

leave-no_dash : (leave : Leave) → is_dash (leave_word leave) ≡ false
leave-no_dash leave =
    let rest = decimal leave.slot ++ (codes ":" ++ reason_word leave.reason) in
    false_from_ne_true (is_dash (leave_word leave))
    (λ same. let is : leave_word leave ≡ codes "-" = (bytes_eq-Decides (leave_word leave) (codes "-")).0 same in
    both_ways (has 58 (leave_word leave)) (ap (has 58) is)
    (ap (has 58) (leave-nested leave) ∙ has-it 58 (decimal leave.node) rest))

pub leave-is_word : (slots : ℕ) (leave : Leave) → leave.node < 24 → leave.slot < slots → slots ≤ 20000
    → IsNodeWord (kind.Leaving slots) (leave_word leave) leave.node
leave-is_word slots leave node inside few = record {
  tells = leaving-again slots leave node inside few;
  comma = has-leave 44 leave (omega arith);
  dash = leave-no_dash leave;
}

-- The word of a node that was hurt.

pub node-is_word : (k : ℕ) → k < 24 → IsNodeWord kind.Hurt (decimal k) k
node-is_word k node = record {
  tells = numeral-again node_digits k (omega arith) (omega arith) (omega (arith, node));
  comma = has-decimal 44 k (omega arith);
  dash = numeral-no_dash k;
}

-- The word of a membership.

members-tell : (n : ℕ) (wide : Bool) (members word : List ℕ) → read (hexed_or 4 6) word ≡ Some (wide, set_bits members)
    → set_bits members < 2 ^ n → length (members_in (set_bits members)) ≡ length members
    → members_listed n word ≡ Some (length members)
unfolding members_listed
members-tell n wide members word is small same =
    rw (is, lt-ltb (set_bits members) (2 ^ n) small) (ap (λ (m : ℕ). Some m) same)

hex-no_dash : (wide : Bool) (v : ℕ) → is_dash (hex (2 * member_bytes wide) v) ≡ false
hex-no_dash wide v =
    false_from_ne_true (is_dash (hex (2 * member_bytes wide) v))
    (λ same. let is = (bytes_eq-Decides (hex (2 * member_bytes wide) v) (codes "-")).0 same in
    go wide (ap length is))
  where
    go : (w : Bool) → length (hex (2 * member_bytes w) v) ≡ 1 → ⊥
    go true one = omega (arith, one)
    go false one = omega (arith, one)

members-by : (wide : Bool) (n : ℕ) (members : List ℕ) → n ≤ 8 * member_bytes wide → n ≤ most_nodes → HasWord n members
    → members_listed n (hex (2 * member_bytes wide) (set_bits members)) ≡ Some (length members)
members-by true n members fits few has_word =
    let small = set_bits-small n members has_word few in
    let same = ap length (members_in-set_bits n members has_word few) in
    let wider : 2 ^ n ≤ 2 ^ 24 = pow-le-pow_right {n = 2} (lit< tt) {i = n} {j = 24} fits in
    members-tell n true members (hex 6 (set_bits members))
    (again (hexed_or 4 6) (true, set_bits members) refl
    (lt-ltb (set_bits members) (16 ^ 6) (omega (arith, small, wider)))) small same
members-by false n members fits few has_word =
    let small = set_bits-small n members has_word few in
    let same = ap length (members_in-set_bits n members has_word few) in
    let wider : 2 ^ n ≤ 2 ^ 16 = pow-le-pow_right {n = 2} (lit< tt) {i = n} {j = 16} fits in
    members-tell n false members (hex 4 (set_bits members))
    (again (hexed_or 4 6) (false, set_bits members) refl
    (lt-ltb (set_bits members) (16 ^ 4) (omega (arith, small, wider)))) small same

pub members-are_word : (list : Medl) (n : ℕ) (members : List ℕ) → n ≤ 8 * member_bytes (is_wide list) → n ≤ most_nodes
    → HasWord n members → IsSetWord n (members_word list members) (length members)
members-are_word list n members fits few has_word = record {
  tells = members-by (is_wide list) n members fits few has_word;
  comma = has-hex 44 (member_digits list) (set_bits members) (omega arith);
  dash = hex-no_dash (is_wide list) (set_bits members);
}

-- The slots in which memberships were split.

abbrev first_word : Option Span → List ℕ
first_word None = codes "-"
first_word (Some span) = decimal span.first

abbrev last_word : Option Span → List ℕ
last_word None = codes "-"
last_word (Some span) = decimal span.last

abbrev pub IsSpanBelow : ℕ → Span → Type 0
IsSpanBelow slots span = (span.first ≤ span.last) × (span.last < slots)

split-again : (slots : ℕ) (span : Option Span) → slots ≤ 20000 → IfSome span (IsSpanBelow slots)
    → split_in slots (first_word span) (last_word span) ≡ Some (is_some span)
unfolding split_in
split-again slots None few within = refl
split-again slots (Some span) few within =
    rw (
      numeral-no_dash span.first,
      numeral-again slot_digits span.first (omega arith) (omega arith) (omega (arith, within.0, within.1, few)),
      numeral-again slot_digits span.last (omega arith) (omega arith) (omega (arith, within.1, few)),
      le-leb span.first span.last within.0,
      lt-ltb span.last slots within.1,
    ) refl

span-words : (span : Option Span) → span_words span ≡ first_word span ++ codes " " ++ last_word span
span-words None = refl
span-words (Some span) = refl

has-number : (b : ℕ) (span : Option Span) → b < 45
    → (has b (first_word span) ≡ false) × (has b (last_word span) ≡ false)
has-number b None low =
    let dash : (45 == b) ≡ false = ne_eqb 45 b (λ same. omega (arith, same, low)) in (rw dash refl, rw dash refl)
has-number b (Some span) low = (has-decimal b span.first low, has-decimal b span.last low)

-- Nine words.

abbrev nine : List ℕ → List ℕ → List ℕ → List ℕ → List ℕ → List ℕ
nine left hurt first last sets =
    codes "left " ++ (left ++ (codes " hurt " ++ (hurt ++ (codes " split " ++ (first ++ (codes " "
    ++ (last ++ (codes " end " ++ sets))))))))

nine-words : (left hurt first last sets : List ℕ) → has 32 left ≡ false → has 32 hurt ≡ false → has 32 first ≡ false
    → has 32 last ≡ false → has 32 sets ≡ false → IsOfWords 9 (nine left hurt first last sets)
nine-words left hurt first last sets p q r s t =
    more-words 7 (codes "left") _ refl
    (more-words 6 left _ p
    (more-words 5 (codes "hurt") _ refl
    (more-words 4 hurt _ q
    (more-words 3 (codes "split") _ refl
    (more-words 2 first _ r
    (more-words 1 last _ s
    (more-words 0 (codes "end") sets refl
    (one-word sets t))))))))

module _ (n slots : ℕ) (left hurt first last sets : List ℕ) where
  nine-read : (leaving count : ℕ) (split : Bool) (all : SetsSoFar) → has 32 left ≡ false → has 32 hurt ≡ false
      → has 32 first ≡ false → has 32 last ≡ false → nodes_listed (kind.Leaving slots) n left ≡ Some leaving
      → nodes_listed kind.Hurt n hurt ≡ Some count → split_in slots first last ≡ Some split
      → sets_listed n sets ≡ Some all
      → cost_in n slots (nine left hurt first last sets)
      ≡ Some (record { hurt = count; split = split; memberships = all.count; company = all.company })
  unfolding cost_in
  nine-read leaving count split all p q r s a b c d =
      rw (
        word-behind 32 (codes "left ") left (codes "hurt " ++ (hurt ++ (codes " split " ++ (first ++ (codes " "
            ++ (last ++ (codes " end " ++ sets))))))) p,
        word-behind 32 (codes " hurt ") hurt (codes "split " ++ (first ++ (codes " "
            ++ (last ++ (codes " end " ++ sets))))) q,
        word-behind 32 (codes " split ") first (last ++ (codes " end " ++ sets)) r,
        word-behind 32 (codes " ") last (codes "end " ++ sets) s,
        a,
        b,
        c,
        d,
      ) refl

-- All of it.

-- nodes and memberships of a cluster of so many nodes, and slots of a run of so many
pub record IsCostIn (list : Medl) (n slots : ℕ) (cost : Cost) : Type 0 where
  pub left : AreNodeWords (kind.Leaving slots) n leave_word (λ (l : Leave). l.node) 0 cost.left
  pub hurt : AreNodeWords kind.Hurt n decimal (λ k. k) 0 cost.hurt
  pub split : IfSome cost.split (IsSpanBelow slots)
  pub end : AllByRecursion (λ members. IsSetWord n (members_word list members) (length members)) cost.end

each-map : {X : Type 0} (P : List ℕ → Type 0) (word : X → List ℕ) (xs : List X) → ((x : X) → P (word x))
    → AllByRecursion P (map word xs)
each-map P word [] each = tt
each-map P word (x ∷ xs) each = (each x, each-map P word xs each)

has-list : {X : Type 0} (b : ℕ) (word : X → List ℕ) (xs : List X) → b < 44 → ((x : X) → has b (word x) ≡ false)
    → has b (listed (map word xs)) ≡ false
has-list b word xs low each =
    has-listed b (map word xs) (ne_eqb 44 b (λ same. omega (arith, same, low)))
    (ne_eqb 45 b (λ same. omega (arith, same, low))) (each-map (λ w. has b w ≡ false) word xs each)

-- no word of a cost has a byte below a comma
record AreBare (list : Medl) (b : ℕ) (cost : Cost) : Type 0 where
  left : has b (listed (map leave_word cost.left)) ≡ false
  hurt : has b (listed (map decimal cost.hurt)) ≡ false
  first : has b (first_word cost.split) ≡ false
  last : has b (last_word cost.split) ≡ false
  sets : has b (listed (map (members_word list) cost.end)) ≡ false

bare : (list : Medl) (b : ℕ) (cost : Cost) → b < 44 → AreBare list b cost
bare list b cost low =
    let less : b < 45 = omega (arith, low) in
    let span = has-number b cost.split less in
    record {
      left = has-list b leave_word cost.left low (λ leave. has-leave b leave less);
      hurt = has-list b decimal cost.hurt low (λ k. has-decimal b k less);
      first = span.0;
      last = span.1;
      sets = has-list b (members_word list) cost.end low
          (λ members. has-hex b (member_digits list) (set_bits members) less);
    }

-- the nine words of a cost
nine-of : (list : Medl) (cost : Cost)
    → cost_words list cost
    ≡ nine (listed (map leave_word cost.left)) (listed (map decimal cost.hurt)) (first_word cost.split)
    (last_word cost.split) (listed (map (members_word list) cost.end))
nine-of list cost =
    let left = listed (map leave_word cost.left) in
    let hurt = listed (map decimal cost.hurt) in
    let sets = listed (map (members_word list) cost.end) in
    let first = first_word cost.split in
    let last = last_word cost.split in
    ap (λ (span : List ℕ). codes "left " ++ left ++ codes " hurt " ++ hurt
    ++ codes " split " ++ span ++ codes " end " ++ sets)
    (span-words cost.split)
    ∙ ap (λ (w : List ℕ). w ++ codes " end " ++ sets)
    (gather-behind (codes "left " ++ left ++ codes " hurt " ++ hurt ++ codes " split ") (first ∷ codes " " ∷ last ∷ []))
    ∙ gathered [] (codes "left " ∷ left ∷ codes " hurt " ∷ hurt ∷ codes " split " ∷ first ∷ codes " " ∷ last
    ∷ codes " end " ∷ sets ∷ [])
    ∙ ap (λ (w : List ℕ). codes "left " ++ (left ++ (codes " hurt " ++ (hurt ++ (codes " split " ++ (first ++ (codes " "
    ++ (last ++ (codes " end " ++ w))))))))) (append-nil sets)

pub cost-words : (list : Medl) (cost : Cost) → IsOfWords 9 (cost_words list cost)
cost-words list cost =
    let words = bare list 32 cost (omega arith) in
    subst (IsOfWords 9) (sym (nine-of list cost))
    (nine-words _ _ _ _ _ words.left words.hurt words.first words.last words.sets)

pub cost-again : (list : Medl) (n slots : ℕ) (cost : Cost) → slots ≤ 20000 → IsCostIn list n slots cost
    → cost_in n slots (cost_words list cost)
    ≡ Some (record {
      hurt = length cost.hurt;
      split = is_some cost.split;
      memberships = length cost.end;
      company = list_any (λ members. nat_le 2 (length members)) cost.end;
    })
cost-again list n slots cost few is =
    let words = bare list 32 cost (omega arith) in
    ap (cost_in n slots) (nine-of list cost)
    ∙ nine-read n slots _ _ _ _ _ (length cost.left) (length cost.hurt) (is_some cost.split)
    (record {
      count = length cost.end;
      company = list_any (λ members. nat_le 2 (length members)) cost.end;
    }) words.left words.hurt words.first words.last
    (nodes-again (kind.Leaving slots) n leave_word (λ (l : Leave). l.node) cost.left is.left)
    (nodes-again kind.Hurt n decimal (λ k. k) cost.hurt is.hurt)
    (split-again slots cost.split few is.split)
    (sets-again n (members_word list) cost.end is.end)

-- the words of a cost have no line feed
nine-bare : (left hurt first last sets : List ℕ) → has 10 left ≡ false → has 10 hurt ≡ false → has 10 first ≡ false
    → has 10 last ≡ false → has 10 sets ≡ false → has 10 (nine left hurt first last sets) ≡ false
nine-bare left hurt first last sets p q r s t = simp (list_any-append (λ c. c == 10), p, q, r, s, t)

pub cost-no_feed : (list : Medl) (cost : Cost) → has 10 (cost_words list cost) ≡ false
cost-no_feed list cost =
    let words = bare list 10 cost (omega arith) in
    ap (has 10) (nine-of list cost)
    ∙ nine-bare (listed (map leave_word cost.left)) (listed (map decimal cost.hurt)) (first_word cost.split)
    (last_word cost.split) (listed (map (members_word list) cost.end)) words.left
    words.hurt words.first words.last words.sets
