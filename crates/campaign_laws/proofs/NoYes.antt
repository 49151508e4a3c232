-- The letter y stands in a line of a campaign only where its test says yes.
use Rattle.std.proofs.Common.{◌≡◌, ℕ, zero, suc, ◌+◌, ◌/◌, ◌%◌, ◌<◌, Bool, true, false, cond, ◌||◌, ℤ, pos, negsuc}
use Rattle.std.proofs.Common.{List, [], ◌∷◌, ◌++◌, map, length, take, Option, Some, None, nat_lt, codes, decimal, refl}
use Rattle.std.proofs.Common.{sym, ◌∙◌, arith}
use Rattle.std.specs.Prelude.{◌==◌}
use Rattle.std.specs.Fmt.{digit_glyph, digits_onto, digits, signed_decimal}
use Rattle.std.specs.List.{join_with_byte}
use Rattle.std.proofs.lemmas.Bool.{false≢true}
use Rattle.std.proofs.lemmas.List.Folds.{list_any-append}
use Rattle.ttp_base.specs.NodeSet.{set_bits}
use Rattle.ttp_base.specs.Text.{newline, hex_digit, hex}
use Rattle.ttp_base.proofs.Numerals.{has, has-append}
use Rattle.ttp_world.specs.declared.keep.Back.{Back}
use Rattle.ttp_world.specs.declared.keep.Back.TheVariants as back
use Rattle.ttp_world.specs.declared.keep.Keep.{Keep}
use Rattle.ttp_world.specs.declared.keep.Keep.TheVariants as keep
use Rattle.ttp_world.specs.declared.medl.Medl.{Medl}
use Rattle.ttp_world.specs.declared.node.Reason.{Reason}
use Rattle.ttp_world.specs.declared.node.Reason.TheVariants as reason
use Rattle.ttp_world.specs.declared.script.Channels.{Channels}
use Rattle.ttp_world.specs.declared.script.Event.{Event}
use Rattle.ttp_world.specs.declared.script.Event.TheVariants as event
use Rattle.ttp_world.specs.declared.script.Fault.{Fault}
use Rattle.ttp_world.specs.declared.script.Fault.TheVariants as fault
use Rattle.ttp_world.specs.declared.script.Script.{Script}
use Rattle.ttp_world.specs.Hypothesis.{keeps}
use Rattle.ttp_world.specs.Returning.{has_arm, returns}
use Rattle.ttp_world.specs.Trace.{reason_word, member_digits, keep_line, back_line}
use Rattle.campaign.specs.declared.cost.Cost.{Cost}
use Rattle.campaign.specs.declared.cost.Counts.{Counts}
use Rattle.campaign.specs.declared.cost.Leave.{Leave}
use Rattle.campaign.specs.declared.cost.Span.{Span}
use Rattle.campaign.specs.Cost.{is_kept, is_owed, says_yes_if, says_yes}
use Rattle.campaign.specs.CostText.{unended, test_words_if, test_words, listed, leave_word, span_words, members_word}
use Rattle.campaign.specs.CostText.{cost_words, on_channels, channels_word, kind_word, loss_words, fault_words}
use Rattle.campaign.specs.Lines.{head_line, counts_line, place_words, fault_slot, fault_node}

-- a text without it
abbrev pub Yless : List ℕ → Type 0
Yless text = has 121 text ≡ false

-- Numbers.

glyph-yless : (small : Bool) (d : ℕ) → d < 16 → cond small (48 + d) (87 + d) == 121 ≡ false
glyph-yless true d few = grind arith
glyph-yless false d few = grind arith

digits-yless : (k n : ℕ) (text : List ℕ) → has 121 (digits_onto k 10 false n text) ≡ has 121 text
digits-yless zero n text = refl
digits-yless (suc k) n text =
    let more = digit_glyph false (n % 10) ∷ text in
    let here : has 121 more ≡ has 121 text = rw (glyph-yless (nat_lt (n % 10) 10) (n % 10) (omega arith)) refl in
    let go : (last : Bool) → has 121 (cond last more (digits_onto k 10 false (n / 10) more)) ≡ has 121 text =
    elim [ true ↦ here | false ↦ digits-yless k (n / 10) more ∙ here ] in
    go (n / 10 == 0)

decimal-yless : (n : ℕ) → Yless (decimal n)
unfolding digits
decimal-yless n = digits-yless 64 n []

signed-yless : (z : ℤ) → Yless (signed_decimal z)
signed-yless (pos n) = decimal-yless n
signed-yless (negsuc n) = decimal-yless (suc n)

hex-yless : (k v : ℕ) → Yless (hex k v)
hex-yless zero v = refl
hex-yless (suc k) v =
    has-append 121 (hex k (v / 16)) (hex_digit (v % 16) ∷ []) (hex-yless k (v / 16))
    (rw (glyph-yless (nat_lt (v % 16) 10) (v % 16) (omega arith)) refl)

-- The test, where it says no.

take-yless : (n : ℕ) (text : List ℕ) → Yless text → Yless (take n text)
take-yless zero text none = refl
take-yless (suc n) [] none = refl
take-yless (suc n) (b ∷ text) none = go (b == 121) none (λ rest. take-yless n text rest)
  where
    go : (it : Bool) → (it || has 121 text) ≡ false → (Yless text → Yless (take n text))
        → (it || has 121 (take n text)) ≡ false
    go true is more = absurd (false≢true (sym is))
    go false is more = more is

ruled-yless : (words rule slot : List ℕ) → Yless words → Yless rule → Yless slot
    → Yless (words ++ rule ++ codes " " ++ slot ++ newline)
ruled-yless words rule slot p q r = simp (list_any-append (λ c. c == 121), p, q, r)

unkept-yless : (k : Keep) → is_kept k ≡ false → Yless (unended (keep_line k))
unkept-yless (keep.Yes start) unsaid = absurd (false≢true (sym unsaid))
unkept-yless (keep.No rule slot) unsaid =
    take-yless _ (keep_line (keep.No rule slot))
    (ruled-yless (codes "keeps no H") (decimal rule) (decimal slot) refl (decimal-yless rule) (decimal-yless slot))

unowed-yless : (b : Back) → is_owed b ≡ false → Yless (unended (back_line b))
unowed-yless (back.Yes start) unsaid = absurd (false≢true (sym unsaid))
unowed-yless (back.No rule slot) unsaid =
    take-yless _ (back_line (back.No rule slot))
    (ruled-yless (codes "returns no Q") (decimal rule) (decimal slot) refl (decimal-yless rule) (decimal-yless slot))

pub test-yless : (list : Medl) (script : Script) → says_yes list script ≡ false → Yless (test_words list script)
test-yless list script = by (has_arm script)
  where
    by : (armed : Bool) → says_yes_if list script armed ≡ false → Yless (test_words_if list script armed)
    by true unsaid = unowed-yless (returns list script) unsaid
    by false unsaid = unkept-yless (keeps list script) unsaid

-- The cost.

joined-yless : {X : Type 0} (word : X → List ℕ) → ((x : X) → Yless (word x)) → (xs : List X)
    → Yless (join_with_byte 44 (map word xs))
joined-yless word each [] = refl
joined-yless word each (x ∷ []) = each x
joined-yless word each (x ∷ y ∷ xs) =
    has-append 121 (word x) (44 ∷ join_with_byte 44 (map word (y ∷ xs))) (each x) (joined-yless word each (y ∷ xs))

listed-yless : {X : Type 0} (word : X → List ℕ) → ((x : X) → Yless (word x)) → (xs : List X)
    → Yless (listed (map word xs))
listed-yless word each [] = refl
listed-yless word each (x ∷ xs) = joined-yless word each (x ∷ xs)

reason-yless : (r : Reason) → Yless (reason_word r)
reason-yless reason.Denied = refl
reason-yless r = refl

left-by : (node slot why : List ℕ) → Yless node → Yless slot → Yless why
    → Yless (node ++ codes ":" ++ slot ++ codes ":" ++ why)
left-by node slot why p q r = simp (list_any-append (λ c. c == 121), p, q, r)

leave-yless : (leave : Leave) → Yless (leave_word leave)
leave-yless leave =
    left-by (decimal leave.node) (decimal leave.slot) (reason_word leave.reason) (decimal-yless leave.node)
    (decimal-yless leave.slot) (reason-yless leave.reason)

spanned-by : (first last : List ℕ) → Yless first → Yless last → Yless (first ++ codes " " ++ last)
spanned-by first last p q = simp (list_any-append (λ c. c == 121), p, q)

span-yless : (span : Option Span) → Yless (span_words span)
span-yless None = refl
span-yless (Some span) =
    spanned-by (decimal span.first) (decimal span.last) (decimal-yless span.first) (decimal-yless span.last)

cost-by : (left hurt split end : List ℕ) → Yless left → Yless hurt → Yless split → Yless end
    → Yless (codes "left " ++ left ++ codes " hurt " ++ hurt ++ codes " split " ++ split ++ codes " end " ++ end)
cost-by left hurt split end p q r s = simp (list_any-append (λ c. c == 121), p, q, r, s)

pub cost-yless : (list : Medl) (cost : Cost) → Yless (cost_words list cost)
cost-yless list cost =
    cost-by (listed (map leave_word cost.left)) (listed (map decimal cost.hurt)) (span_words cost.split)
    (listed (map (members_word list) cost.end)) (listed-yless leave_word leave-yless cost.left)
    (listed-yless decimal decimal-yless cost.hurt) (span-yless cost.split)
    (listed-yless (members_word list) (λ members. hex-yless (member_digits list) (set_bits members)) cost.end)

-- The fault.

channels-yless : (a b : Bool) → Yless (on_channels a b)
channels-yless true true = refl
channels-yless true false = refl
channels-yless false b = refl

kind-yless : (kind : Fault) → Yless (kind_word kind)
kind-yless fault.Silence = refl
kind-yless fault.Noise = refl

loss-by : (word node channels kind from to : List ℕ) → Yless word → Yless node → Yless channels → Yless kind
    → Yless from → Yless to
    → Yless (word ++ node ++ codes " " ++ channels ++ codes " " ++ kind ++ codes " " ++ from ++ codes " " ++ to)
loss-by word node channels kind from to p q r s t u = simp (list_any-append (λ c. c == 121), p, q, r, s, t, u)

loss-yless : (word : List ℕ) (node : ℕ) (channels : Channels) (kind : Fault) (from to : ℕ) → Yless word
    → Yless (loss_words word node channels kind from to)
loss-yless word node channels kind from to none =
    loss-by word (decimal node) (channels_word channels) (kind_word kind) (decimal from) (decimal to) none
    (decimal-yless node) (channels-yless channels.a channels.b)
    (kind-yless kind) (decimal-yless from) (decimal-yless to)

jump-by : (node value slot : List ℕ) → Yless node → Yless value → Yless slot
    → Yless (codes "jump " ++ node ++ codes " " ++ value ++ codes " " ++ slot)
jump-by node value slot p q r = simp (list_any-append (λ c. c == 121), p, q, r)

pub fault-yless : (e : Event) → Yless (fault_words e)
fault-yless (event.Send node channels kind from to) = loss-yless (codes "send ") node channels kind from to refl
fault-yless (event.Receive node channels kind from to) = loss-yless (codes "receive ") node channels kind from to refl
fault-yless (event.Jump node value slot) =
    jump-by (decimal node) (signed_decimal value) (decimal slot) (decimal-yless node)
    (signed-yless value) (decimal-yless slot)
fault-yless (event.Flip node channels bit slot) = refl
fault-yless e = refl

place-by : (slot node : List ℕ) → Yless slot → Yless node
    → Yless (codes "slot " ++ slot ++ codes " node " ++ node ++ codes " ")
place-by slot node p q = simp (list_any-append (λ c. c == 121), p, q)

pub place-yless : (e : Event) → Yless (place_words e)
place-yless e =
    place-by (decimal (fault_slot e)) (decimal (fault_node e))
    (decimal-yless (fault_slot e)) (decimal-yless (fault_node e))

-- The other lines.

head-by : (nodes slots first last : List ℕ) → Yless nodes → Yless slots → Yless first → Yless last
    → Yless (codes "ttplab campaign 1 nodes " ++ nodes ++ codes " slots " ++ slots
    ++ codes " from " ++ first ++ codes " to "
    ++ last ++ newline)
head-by nodes slots first last p q r s = simp (list_any-append (λ c. c == 121), p, q, r, s)

pub head-yless : (list : Medl) (script : Script) (first last : ℕ) → Yless (head_line list script first last)
head-yless list script first last =
    head-by (decimal (length list.slots)) (decimal script.slots) (decimal first) (decimal last)
    (decimal-yless (length list.slots)) (decimal-yless script.slots) (decimal-yless first) (decimal-yless last)

counted-by : (name runs same hurt split torn dead : List ℕ) → Yless name → Yless runs → Yless same → Yless hurt
    → Yless split → Yless torn → Yless dead
    → Yless (name ++ runs ++ codes " same " ++ same ++ codes " hurt " ++ hurt
    ++ codes " split " ++ split ++ codes " torn "
    ++ torn ++ codes " dead " ++ dead ++ newline)
counted-by name runs same hurt split torn dead p q r s t u v =
    simp (list_any-append (λ c. c == 121), p, q, r, s, t, u, v)

pub counts-yless : (name : List ℕ) (counts : Counts) → Yless name → Yless (counts_line name counts)
counts-yless name counts none =
    counted-by name (decimal counts.runs) (decimal counts.same) (decimal counts.hurt) (decimal counts.split)
    (decimal counts.torn) (decimal counts.dead) none (decimal-yless counts.runs) (decimal-yless counts.same)
    (decimal-yless counts.hurt) (decimal-yless counts.split) (decimal-yless counts.torn) (decimal-yless counts.dead)
