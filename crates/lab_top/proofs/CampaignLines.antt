-- Each line of a campaign is one line: its one line feed is its last byte.
use Rattle.std.proofs.Common.{◌≡◌, ℕ, zero, suc, ◌+◌, ◌-◌, Bool, true, false}
use Rattle.std.proofs.Common.{cond, List, [], ◌∷◌, ◌++◌, map, length, take}
use Rattle.std.proofs.Common.{Option, Some, None, refl, arith, codes, decimal}
use Rattle.std.specs.Prelude.{◌==◌}
use Rattle.std.specs.Fmt.{signed_decimal}
use Rattle.std.specs.List.{join_with_byte}
use Rattle.std.proofs.lemmas.List.Folds.{list_any-append}
use Rattle.ttp_base.specs.NodeSet.{set_bits}
use Rattle.ttp_base.specs.Text.{newline, is_line}
use Rattle.ttp_base.proofs.Lines.{is_line-append}
use Rattle.ttp_base.proofs.Numerals.{has-signed, has-hex}
use Rattle.ttp_world.specs.declared.medl.Medl.{Medl}
use Rattle.ttp_world.specs.declared.node.Entry.TheVariants as entry
use Rattle.ttp_world.specs.declared.script.Channels.{Channels}
use Rattle.ttp_world.specs.declared.script.Event.{Event}
use Rattle.ttp_world.specs.declared.script.Event.TheVariants as event
use Rattle.ttp_world.specs.declared.script.Fault.{Fault}
use Rattle.ttp_world.specs.declared.script.Fault.TheVariants as fault
use Rattle.ttp_world.specs.declared.script.Script.{Script}
use Rattle.ttp_world.specs.Hypothesis.{keeps}
use Rattle.ttp_world.specs.Returning.{has_arm, returns}
use Rattle.ttp_world.specs.Trace.{reason_word, member_digits, keep_line, back_line}
use Rattle.ttp_world.proofs.LineLists.{each-append}
use Rattle.ttp_world.proofs.TraceLines.{keep_line-IsLine, back_line-IsLine}
use Rattle.ttp_world.proofs.TraceWords.{has-entry_word}
use Rattle.campaign.specs.declared.cost.Cost.{Cost}
use Rattle.campaign.specs.declared.cost.Counts.{Counts}
use Rattle.campaign.specs.declared.cost.Leave.{Leave}
use Rattle.campaign.specs.declared.cost.Span.{Span}
use Rattle.campaign.specs.CostText.{unended, test_words_if, test_words, listed, leave_word, span_words, members_word}
use Rattle.campaign.specs.CostText.{cost_words, on_channels, channels_word, kind_word, loss_words, fault_words}
use Rattle.campaign.specs.Lines.{summary, head_line, own_line, fault_line, counts_line}
use Rattle.campaign.specs.Lines.{fault_slot, fault_node, run_line, lines_with, campaign_lines}
use Rattle.campaign.specs.Tried.{with_fault, faults_from}
use Rattle.ttp_world.specs.ZerosWorld.{zeros_world}
use Rattle.lab_top.proofs.FromBelow.{HasNone, none-append, none-decimal}
use Rattle.commands.specs.Lines.{AreLines}

pub ended : (text : List ℕ) → HasNone text → is_line (text ++ newline) ≡ true
ended text none = is_line-append text newline none refl

-- The test: a line without its line feed.

front_of_line : (n : ℕ) (line : List ℕ) → is_line line ≡ true → n + 1 ≡ length line → HasNone (take n line)
front_of_line zero line is long = refl
front_of_line (suc n) [] is long = absurd (cc)
front_of_line (suc n) (b ∷ line) is long =
    go (b == 10) refl is (λ ends. front_of_line n line ends (omega (arith, long)))
  where
    go : (feed : Bool) → (b == 10) ≡ feed → cond feed (length line == 0) (is_line line) ≡ true
        → (is_line line ≡ true → HasNone (take n line)) → HasNone (b ∷ take n line)
    go true feed ends more = absurd (grind (arith, long))
    go false feed ends more = rw (feed, more ends) refl

line_is_long : (line : List ℕ) → is_line line ≡ true → (length line - 1) + 1 ≡ length line
line_is_long [] is = absurd (cc)
line_is_long (b ∷ line) is = omega arith

unended-none : (line : List ℕ) → is_line line ≡ true → HasNone (unended line)
unended-none line is = front_of_line (length line - 1) line is (line_is_long line is)

pub test-none : (list : Medl) (script : Script) → HasNone (test_words list script)
test-none list script = by_arm (has_arm script)
  where
    by_arm : (armed : Bool) → HasNone (test_words_if list script armed)
    by_arm true = unended-none (back_line (returns list script)) (back_line-IsLine (returns list script))
    by_arm false = unended-none (keep_line (keeps list script)) (keep_line-IsLine (keeps list script))

-- The cost.

joined-none : {X : Type 0} (word : X → List ℕ) → ((x : X) → HasNone (word x)) → (xs : List X)
    → HasNone (join_with_byte 44 (map word xs))
joined-none word each [] = refl
joined-none word each (x ∷ []) = each x
joined-none word each (x ∷ y ∷ xs) =
    none-append (word x) (44 ∷ join_with_byte 44 (map word (y ∷ xs))) (each x) (joined-none word each (y ∷ xs))

pub listed-none : {X : Type 0} (word : X → List ℕ) → ((x : X) → HasNone (word x)) → (xs : List X)
    → HasNone (listed (map word xs))
listed-none word each [] = refl
listed-none word each (x ∷ xs) = joined-none word each (x ∷ xs)

leave-by : (node slot why : List ℕ) → HasNone node → HasNone slot → HasNone why
    → HasNone (node ++ codes ":" ++ slot ++ codes ":" ++ why)
leave-by node slot why p q r = simp (list_any-append (λ c. c == 10), p, q, r)

leave-none : (leave : Leave) → HasNone (leave_word leave)
leave-none leave =
    leave-by (decimal leave.node) (decimal leave.slot) (reason_word leave.reason) (none-decimal leave.node)
    (none-decimal leave.slot) (has-entry_word 10 (entry.Left leave.reason 0) (omega arith))

span-by : (first last : List ℕ) → HasNone first → HasNone last → HasNone (first ++ codes " " ++ last)
span-by first last p q = simp (list_any-append (λ c. c == 10), p, q)

span-none : (span : Option Span) → HasNone (span_words span)
span-none None = refl
span-none (Some span) =
    span-by (decimal span.first) (decimal span.last) (none-decimal span.first) (none-decimal span.last)

four-none : (left hurt split end : List ℕ) → HasNone left → HasNone hurt → HasNone split → HasNone end
    → HasNone (codes "left " ++ left ++ codes " hurt " ++ hurt ++ codes " split " ++ split ++ codes " end " ++ end)
four-none left hurt split end p q r s = simp (list_any-append (λ c. c == 10), p, q, r, s)

pub cost-none : (list : Medl) (cost : Cost) → HasNone (cost_words list cost)
cost-none list cost =
    four-none (listed (map leave_word cost.left)) (listed (map decimal cost.hurt)) (span_words cost.split)
    (listed (map (members_word list) cost.end)) (listed-none leave_word leave-none cost.left)
    (listed-none decimal none-decimal cost.hurt) (span-none cost.split)
    (listed-none (members_word list)
    (λ members. has-hex 10 (member_digits list) (set_bits members) (omega arith)) cost.end)

-- The fault.

pub channels-none : (a b : Bool) → HasNone (on_channels a b)
channels-none true true = refl
channels-none true false = refl
channels-none false b = refl

kind-none : (kind : Fault) → HasNone (kind_word kind)
kind-none fault.Silence = refl
kind-none fault.Noise = refl

loss-none : (word node channels kind from to : List ℕ) → HasNone word → HasNone node → HasNone channels → HasNone kind
    → HasNone from → HasNone to
    → HasNone (word ++ node ++ codes " " ++ channels ++ codes " " ++ kind ++ codes " " ++ from ++ codes " " ++ to)
loss-none word node channels kind from to p q r s t u = simp (list_any-append (λ c. c == 10), p, q, r, s, t, u)

pub loss_words-none : (word : List ℕ) (node : ℕ) (channels : Channels) (kind : Fault) (from to : ℕ) → HasNone word
    → HasNone (loss_words word node channels kind from to)
loss_words-none word node channels kind from to none =
    loss-none word (decimal node) (channels_word channels) (kind_word kind)
    (decimal from) (decimal to) none (none-decimal node)
    (channels-none channels.a channels.b) (kind-none kind) (none-decimal from) (none-decimal to)

pub jump-none : (node value slot : List ℕ) → HasNone node → HasNone value → HasNone slot
    → HasNone (codes "jump " ++ node ++ codes " " ++ value ++ codes " " ++ slot)
jump-none node value slot p q r = simp (list_any-append (λ c. c == 10), p, q, r)

pub fault-none : (e : Event) → HasNone (fault_words e)
fault-none (event.Send node channels kind from to) = loss_words-none (codes "send ") node channels kind from to refl
fault-none (event.Receive node channels kind from to) =
    loss_words-none (codes "receive ") node channels kind from to refl
fault-none (event.Jump node value slot) =
    jump-none (decimal node) (signed_decimal value) (decimal slot) (none-decimal node)
    (has-signed 10 value (omega arith)) (none-decimal slot)
fault-none (event.Flip node channels bit slot) = refl
fault-none e = refl

-- The lines.

head-by : (nodes slots first last : List ℕ) → HasNone nodes → HasNone slots → HasNone first → HasNone last
    → is_line (codes "ttplab campaign 1 nodes " ++ nodes ++ codes " slots " ++ slots ++ codes " from " ++ first
    ++ codes " to " ++ last ++ newline) ≡ true
head-by nodes slots first last p q r s =
    ended (codes "ttplab campaign 1 nodes " ++ nodes ++ codes " slots " ++ slots
    ++ codes " from " ++ first ++ codes " to "
    ++ last) (simp (list_any-append (λ c. c == 10), p, q, r, s))

head-is_line : (list : Medl) (script : Script) (first last : ℕ) → is_line (head_line list script first last) ≡ true
head-is_line list script first last =
    head-by (decimal (length list.slots)) (decimal script.slots) (decimal first) (decimal last)
    (none-decimal (length list.slots)) (none-decimal script.slots) (none-decimal first) (none-decimal last)

own-by : (test cost : List ℕ) → HasNone test → HasNone cost
    → is_line (codes "slot - node - " ++ (test ++ codes " " ++ cost ++ codes " fault ") ++ codes "-" ++ newline) ≡ true
own-by test cost p q =
    ended (codes "slot - node - " ++ (test ++ codes " " ++ cost ++ codes " fault ") ++ codes "-")
    (simp (list_any-append (λ c. c == 10), p, q))

run-by : (slot node test cost words : List ℕ) → HasNone slot → HasNone node → HasNone test → HasNone cost
    → HasNone words
    → is_line ((codes "slot " ++ slot ++ codes " node " ++ node ++ codes " ")
    ++ (test ++ codes " " ++ cost ++ codes " fault ") ++ words ++ newline) ≡ true
run-by slot node test cost words p q r s t =
    ended ((codes "slot " ++ slot ++ codes " node " ++ node ++ codes " ")
    ++ (test ++ codes " " ++ cost ++ codes " fault ") ++ words)
    (simp (list_any-append (λ c. c == 10), p, q, r, s, t))

counts-by : (name runs same hurt split torn dead : List ℕ) → HasNone name → HasNone runs → HasNone same → HasNone hurt
    → HasNone split → HasNone torn → HasNone dead
    → is_line (name ++ runs ++ codes " same " ++ same ++ codes " hurt " ++ hurt ++ codes " split " ++ split
    ++ codes " torn " ++ torn ++ codes " dead " ++ dead ++ newline) ≡ true
counts-by name runs same hurt split torn dead p q r s t u v =
    ended (name ++ runs ++ codes " same " ++ same ++ codes " hurt " ++ hurt
    ++ codes " split " ++ split ++ codes " torn "
    ++ torn ++ codes " dead " ++ dead) (simp (list_any-append (λ c. c == 10), p, q, r, s, t, u, v))

pub own-is_line : (list : Medl) (script : Script) → is_line (own_line list (summary list script)) ≡ true
own-is_line list script =
    own-by (test_words list script) (cost_words list (summary list script).cost) (test-none list script)
    (cost-none list (summary list script).cost)

run-is_line : (list : Medl) (more : Script) (e : Event) → is_line (fault_line list e (summary list more)) ≡ true
run-is_line list more e =
    run-by (decimal (fault_slot e)) (decimal (fault_node e)) (test_words list more)
    (cost_words list (summary list more).cost) (fault_words e)
    (none-decimal (fault_slot e)) (none-decimal (fault_node e))
    (test-none list more) (cost-none list (summary list more).cost) (fault-none e)

counts-is_line : (name : List ℕ) (counts : Counts) → HasNone name → is_line (counts_line name counts) ≡ true
counts-is_line name counts none =
    counts-by name (decimal counts.runs) (decimal counts.same) (decimal counts.hurt) (decimal counts.split)
    (decimal counts.torn) (decimal counts.dead) none (none-decimal counts.runs)
    (none-decimal counts.same) (none-decimal counts.hurt)
    (none-decimal counts.split) (none-decimal counts.torn) (none-decimal counts.dead)

runs-each : (list : Medl) (script : Script) (faults : List Event) → AreLines (map (run_line list script) faults)
runs-each list script [] = tt
runs-each list script (e ∷ faults) =
    (run-is_line list (with_fault script e) e, runs-each list script faults)

with-each : (list : Medl) (script : Script) (first last : ℕ) (faults : List Event)
    → AreLines (lines_with list script first last (summary list script) faults)
with-each list script first last faults = (
  head-is_line list script first last,
  (
    own-is_line list script,
    each-append (λ (line : List ℕ). is_line line ≡ true) (map (run_line list script) faults) _
        (runs-each list script faults) (
          counts-is_line (codes "kept ") _ refl,
          (counts-is_line (codes "broken ") _ refl, tt),
        ),
  ),
)

pub campaign_lines-each : (list : Medl) (script : Script) (first last : ℕ)
    → AreLines (campaign_lines list script first last)
campaign_lines-each list script first last =
    with-each list script first last (faults_from list script (zeros_world list script script.slots) first last)
