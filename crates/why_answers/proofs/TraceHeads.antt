-- The line of an entry begins in the text as in any trace of the run.
use Rattle.std.proofs.Common.{◌≡◌, ℕ, zero, suc, ◌<◌, ◌≤◌, ◌++◌, inl, inr, List, [], ◌∷◌, ap, sym, subst, ◌∙◌, refl}
use Rattle.std.proofs.Common.{add-one, append_assoc, arith, codes, decimal, drop, length, map, Option}
use Rattle.std.proofs.Math.Nat.{eq-or-lt_of_le}
use Rattle.std.proofs.lemmas.List.{map-append, reverse-append}
use Rattle.std.proofs.lemmas.List.Elements.{recursion_from_All}
use Rattle.std.specs.Fmt.{signed_decimal}
use Rattle.std.specs.List.{AllByRecursion, AllZip}
use Rattle.std.specs.Prelude.{filter, reverse}
use Rattle.ttp_world.specs.ZerosWorld.{all_zeros, zeros_world}
use Rattle.causes.specs.Members.{entry_at_spot}
use Rattle.causes.specs.Causes.{cause_at}
use Rattle.causes.specs.RunSlots.{RunSlots, newest_spot}
use Rattle.causes.specs.Story.{added_root, has_spot, leading, reached, spots_back, story, with_root}
use Rattle.causes.specs.WhyText.{because_words, entry_head, in_file_order, line_number_words}
use Rattle.causes.specs.WhyText.{root_words, spot_word, story_lines}
use Rattle.causes.specs.WhyText.{told_line, told_lines}
use Rattle.causes.specs.declared.cause.LineNumbers.{LineNumbers}
use Rattle.causes.specs.declared.cause.Spot.{Spot}
use Rattle.causes.specs.declared.cause.Told.{Told}
use Rattle.campaign.specs.CostText.{listed}
use Rattle.why_answers.proofs.FromBelow.{older, runs-entries, zeros-legal, entry_of-unnumbered, length-run}
use Rattle.why_answers.proofs.FromBelow.{slots_up_to-all, AreToldPart, IsPart, kept-part, reached-part, root-part}
use Rattle.frame_fates.specs.Alike.{unnumbered, unnumbered_history, unnumbered_row}
use Rattle.frame_fates.specs.Runs.{AreRuns}
use Rattle.ttp_world.proofs.ZerosWorlds.{length-zeros_world}
use Rattle.run_rows.specs.Rows.{slot_in}
use Rattle.ttp_base.proofs.Below.{below-next}
use Rattle.ttp_base.specs.NodeSet.{below, set_bits}
use Rattle.ttp_base.specs.Text.{Lines, hex, newline}
use Rattle.ttp_world.proofs.Worlds.{length-world}
use Rattle.ttp_world.specs.Diary.{History, entry_of}
use Rattle.ttp_world.specs.Legal.{IsLegal}
use Rattle.ttp_world.specs.Past.{state_of}
use Rattle.ttp_world.specs.Script.{IsValidScript}
use Rattle.ttp_world.specs.Trace.{ack_word, history_lines, member_digits, message_shown, node_line, node_line_of}
use Rattle.ttp_world.specs.Trace.{number_or_dash, read_lines, slot_lines, test_lines}
use Rattle.ttp_world.specs.Trace.{trace_head, trace_lines, write_lines}
use Rattle.ttp_world.specs.World.{Numbers, messages_chosen, node_past, row_in, slot_after, world}
use Rattle.ttp_world.specs.declared.medl.Medl.{Medl}
use Rattle.ttp_world.specs.declared.node.Entry.{Entry}
use Rattle.ttp_world.specs.declared.node.Entry.TheVariants as entry
use Rattle.ttp_world.specs.declared.node.NodeState.{NodeState}
use Rattle.ttp_world.specs.declared.script.Script.{Script}
use Rattle.why_answers.proofs.RunSpots.{entry-at}
use Rattle.why_answers.proofs.SpotOrder.{each-weaker}
use Rattle.why_answers.specs.Stories.{BeginWith, OneBeginsWith, first_slots, head_told, why_told}
use Rattle.why_story.specs.RunSource.{RunSource, spot_at}

-- Lines that are put together piece by piece.

longer : (head x y : List ℕ) → BeginWith head x → BeginWith head (x ++ y)
longer head x y begins = (begins.0 ++ y, ap (λ (line : List ℕ). line ++ y) begins.1 ∙ append_assoc head begins.0 y)

abbrev joined : List ℕ → List (List ℕ) → List ℕ
joined x [] = x
joined x (piece ∷ pieces) = joined (x ++ piece) pieces

joined-begins : (head x : List ℕ) (pieces : List (List ℕ)) → BeginWith head x → BeginWith head (joined x pieces)
joined-begins head x [] begins = begins
joined-begins head x (piece ∷ pieces) begins =
    joined-begins head (x ++ piece) pieces (longer head x piece begins)

-- one that goes on with a space
spaced : (head word more : List ℕ) → word ≡ codes " " ++ more → BeginWith (head ++ codes " ") (head ++ word)
spaced head word more is =
    (more, ap (λ (w : List ℕ). head ++ w) is ∙ sym (append_assoc head (codes " ") more))

-- Lines of nodes.

node-line : (width slot k : ℕ) (state : NodeState) (message : Option ℕ)
    → BeginWith (entry_head slot k state.entry ++ codes " ") (node_line width slot k state message)
node-line width slot k state message =
    let head = entry_head slot k state.entry in
    joined-begins (head ++ codes " ") (head ++ codes " msg ")
    (number_or_dash message ∷ codes " mem " ∷ hex width (set_bits state.members)
    ∷ codes " acc " ∷ decimal state.accepted
    ∷ codes " rej " ∷ decimal state.rejected ∷ codes " ack " ∷ ack_word state.ack ∷ codes " clock "
    ∷ signed_decimal state.offset ∷ newline ∷ [])
    (spaced head (codes " msg ") (codes "msg ") refl)

-- One of a text.

begins-left : (head : List ℕ) (xs ys : Lines) → OneBeginsWith head xs → OneBeginsWith head (xs ++ ys)
begins-left head xs ys one = (
  one.0,
  one.1,
  one.2 ++ ys,
  ap (λ (lines : Lines). lines ++ ys) one.3 ∙ append_assoc one.0 (one.1 ∷ one.2) ys,
  one.4,
)

begins-right : (head : List ℕ) (xs ys : Lines) → OneBeginsWith head ys → OneBeginsWith head (xs ++ ys)
begins-right head xs ys one = (
  xs ++ one.0,
  one.1,
  one.2,
  ap (λ (lines : Lines). xs ++ lines) one.3 ∙ sym (append_assoc xs one.0 (one.1 ∷ one.2)),
  one.4,
)

begins-more : (head line : List ℕ) (lines : Lines) → OneBeginsWith head lines → OneBeginsWith head (line ∷ lines)
begins-more head line lines one = (line ∷ one.0, one.1, one.2, ap (λ (more : Lines). line ∷ more) one.3, one.4)

one-below : (head : List ℕ) (f : ℕ → List ℕ) (n k : ℕ) → k < n
    → BeginWith head (f k) → OneBeginsWith head (map f (below n))
one-below head f zero k less begins = absurd (omega (arith, less))
one-below head f (suc n) k less begins =
    let within : k ≤ n = omega (arith, less) in
    let next : below (suc n) ≡ below n ++ n ∷ [] = ap below (sym (add-one n)) ∙ below-next n in
    subst (OneBeginsWith head) (sym (ap (map f) next ∙ map-append f (below n) (n ∷ [])))
    (elim (eq-or-lt_of_le within) [
      | inl last ↦ (map f (below n), f n, [], refl, subst (λ (j : ℕ). BeginWith head (f j)) last begins)
      | inr lower ↦ begins-left head (map f (below n)) (f n ∷ []) (one-below head f n k lower begins)
    ])

-- The entries of two runs that differ in numbers alone.

head-unnumbered : (slot k : ℕ) (e : Entry) → entry_head slot k (unnumbered e) ≡ entry_head slot k e
head-unnumbered slot k (entry.Sent message) = refl
head-unnumbered slot k entry.Off = refl
head-unnumbered slot k entry.Waited = refl
head-unnumbered slot k entry.Retried = refl
head-unnumbered slot k entry.Gone = refl
head-unnumbered slot k entry.Started = refl
head-unnumbered slot k (entry.Joined sender cstate deviation) = refl
head-unnumbered slot k (entry.Judged sender v deviation) = refl
head-unnumbered slot k (entry.Left why peer) = refl

first-row : (row row_too : List Entry) (one other : History)
    → unnumbered_history (row ∷ one) ≡ unnumbered_history (row_too ∷ other)
    → unnumbered_row row ≡ unnumbered_row row_too
first-row row row_too one other same = ap (newest (unnumbered_row row)) same
  where
    newest : List Entry → History → List Entry
    newest d [] = d
    newest d (r ∷ rows) = r

same-head : (slot k : ℕ) (row row_too : List Entry) → unnumbered_row row ≡ unnumbered_row row_too
    → entry_head slot k (entry_of row k) ≡ entry_head slot k (entry_of row_too k)
same-head slot k row row_too same =
    sym (head-unnumbered slot k (entry_of row k))
    ∙ ap (entry_head slot k)
    (sym (entry_of-unnumbered row k) ∙ ap (λ (r : List Entry). entry_of r k) same ∙ entry_of-unnumbered row_too k)
    ∙ head-unnumbered slot k (entry_of row_too k)

-- The lines of a history.

-- the entry of node k in a slot of the run
abbrev made : Medl → Script → ℕ → ℕ → Entry
made list script slot k = entry_of (row_in (slot_after list script (zeros_world list script slot)) (all_zeros list)) k

newest-line : (list : Medl) (script : Script) (row : List Entry) (history : History) (slot k : ℕ) (e : Entry)
    → length history ≡ slot → entry_head slot k (entry_of row k) ≡ entry_head slot k e
    → BeginWith (entry_head slot k e ++ codes " ") (node_line_of list script row history k)
newest-line list script row history slot k e count same =
    let state = state_of (node_past list script (row ∷ history) k) in
    subst (λ (head : List ℕ). BeginWith (head ++ codes " ") (node_line_of list script row history k))
    (ap (λ (n : ℕ). entry_head n k (entry_of row k)) count ∙ same)
    (node-line (member_digits list) (length history) k state (message_shown list script row history k state.entry))

history-begins : (list : Medl) (script : Script) (numbers : Numbers) (slot k : ℕ) → slot < length numbers
    → k < length list.slots → AreRuns list script (world list script numbers) (zeros_world list script (length numbers))
    → OneBeginsWith (entry_head slot k (made list script slot k) ++ codes " ")
    (history_lines list script (world list script numbers) numbers)
history-begins list script [] slot k less node runs = absurd (omega (arith, less))
history-begins list script (new ∷ numbers) slot k less node runs =
    let history = world list script numbers in
    let row = row_in (slot_after list script history) (messages_chosen list script (length numbers) new.sent) in
    let row_too = row_in (slot_after list script (zeros_world list script (length numbers))) (all_zeros list) in
    let older_lines = history_lines list script history numbers in
    let lines = slot_lines list script row history new in
    let within : slot ≤ length numbers = omega (arith, less) in
    elim (eq-or-lt_of_le within) [
      | inl last ↦
          subst (λ (t : ℕ). OneBeginsWith
          (entry_head t k (made list script t k) ++ codes " ") (older_lines ++ lines)) (sym last)
          (begins-right (entry_head (length numbers) k (entry_of row_too k) ++ codes " ") older_lines lines
          (begins-left (entry_head (length numbers) k (entry_of row_too k) ++ codes " ")
          (map (node_line_of list script row history) (below (length list.slots))
          ++ write_lines list script (length history))
          (read_lines list script (length history) (row ∷ history) new.read)
          (begins-left (entry_head (length numbers) k (entry_of row_too k) ++ codes " ")
          (map (node_line_of list script row history) (below (length list.slots)))
          (write_lines list script (length history))
          (one-below (entry_head (length numbers) k (entry_of row_too k) ++ codes " ")
          (node_line_of list script row history)
          (length list.slots) k node
          (newest-line list script row history (length numbers) k
          (entry_of row_too k) (length-world list script numbers)
          (same-head (length numbers) k row row_too
          (first-row row row_too history (zeros_world list script (length numbers))
          (runs-entries list script (row ∷ history) (row_too ∷ zeros_world list script (length numbers)) runs))))))))
      | inr lower ↦ begins-left (entry_head slot k (made list script slot k) ++ codes " ") older_lines lines
          (history-begins list script numbers slot k lower node (older runs))
    ]

pub trace-begins : (list : Medl) (script : Script) (numbers : Numbers) (slot k : ℕ) → slot < length numbers
    → k < length list.slots → IsValidScript list script → IsLegal list script numbers
    → OneBeginsWith (entry_head slot k (made list script slot k) ++ codes " ") (trace_lines list script numbers)
trace-begins list script numbers slot k less node valid legal =
    let head = entry_head slot k (made list script slot k) ++ codes " " in
    let lines = history_lines list script (world list script numbers) numbers in
    begins-left head (trace_head list script ∷ lines) (test_lines list script)
    (begins-more head (trace_head list script) lines
    (history-begins list script numbers slot k less node
    (zeros-legal list script numbers (length numbers) valid legal refl)))

made-at : (list : Medl) (script : Script) (n slot k : ℕ) → slot < n
    → made list script slot k ≡ entry_at_spot (first_slots list script n) (spot_at slot k)
unfolding slot_in
made-at list script n slot k less = entry-at list script n slot k less

-- What is told is of the run.

unmap : {X Y : Type 0} (P : Y → Type 0) (f : X → Y) (xs : List X) → AllByRecursion P (map f xs)
    → AllByRecursion (λ x. P (f x)) xs
unmap P f [] all = tt
unmap P f (x ∷ xs) all = (all.0, unmap P f xs all.1)

told-part : (list : Medl) (script : Script) (k slot : ℕ)
    → AllByRecursion (λ (t : Told). IsPart (suc slot) (length list.slots) t.spot) (why_told list script k slot)
told-part list script k slot =
    let history = zeros_world list script (suc slot) in
    let source : RunSource = record { list = list; script = script; history = history } in
    let run = first_slots list script (suc slot) in
    let n = length list.slots in
    let long = length-zeros_world list script (suc slot) in
    let asked = newest_spot k run in
    let origin = added_root script k (drop 1 run) (cause_at run asked).entries in
    let reach = reached run (asked ∷ origin) (spots_back run) in
    let part : AreToldPart (suc slot) n reach =
    subst (λ (slots : RunSlots). AreToldPart (suc slot) n (reached run (asked ∷ origin) (spots_back slots)))
    (slots_up_to-all run (suc slot) (sym (length-run list script history ∙ long)))
    (reached-part source n (suc slot) n (asked ∷ origin) (omega (arith, long)) refl (omega arith)) in
    unmap (IsPart (suc slot) n) (λ (t : Told). t.spot) (why_told list script k slot)
    (recursion_from_All (IsPart (suc slot) n) (map (λ (t : Told). t.spot) (why_told list script k slot))
    (kept-part (suc slot) n (leading (with_root origin reach)) (with_root origin reach)
    (root-part (suc slot) n origin reach part) (asked ∷ [])))

pub told-in_trace : (list : Medl) (script : Script) (numbers : Numbers) (k slot : ℕ) → IsValidScript list script
    → IsLegal list script numbers → slot < length numbers
    → AllByRecursion (λ t. OneBeginsWith
    (head_told (first_slots list script (suc slot)) t) (trace_lines list script numbers))
    (why_told list script k slot)
told-in_trace list script numbers k slot valid legal less =
    let run = first_slots list script (suc slot) in
    each-weaker (λ (t : Told). IsPart (suc slot) (length list.slots) t.spot)
    (λ t. OneBeginsWith (head_told run t) (trace_lines list script numbers)) (why_told list script k slot)
    (λ t is.
    let s = t.spot in
    let before : s.slot < suc slot = is.0 in
    subst (λ (e : Entry). OneBeginsWith (entry_head s.slot s.node e ++ codes " ") (trace_lines list script numbers))
    (made-at list script (suc slot) s.slot s.node before)
    (trace-begins list script numbers s.slot s.node (omega (arith, before, less)) is.1 valid legal))
    (told-part list script k slot)

-- The lines of the text.

line-begins : (list : Medl) (numbers : LineNumbers) (run : RunSlots) (spots origin : List Spot) (t : Told)
    → BeginWith (head_told run t) (told_line list numbers run spots origin t)
line-begins list numbers run spots origin t =
    let head = entry_head t.spot.slot t.spot.node (entry_at_spot run t.spot) in
    joined-begins (head ++ codes " ") (head ++ codes " lines ")
    (line_number_words numbers (in_file_order numbers t.cause.lines) ∷ codes " entries "
    ∷ listed (map spot_word (filter (has_spot t.cause.entries) spots)) ∷ codes " because "
    ∷ because_words list numbers t.cause.because ∷ root_words run origin ∷ newline ∷ [])
    (spaced head (codes " lines ") (codes "lines ") refl)

lines-begin : (list : Medl) (numbers : LineNumbers) (run : RunSlots) (spots origin : List Spot) (told : List Told)
    → AllZip (λ line t. BeginWith (head_told run t) line) (told_lines list numbers run spots origin told) told
lines-begin list numbers run spots origin [] = tt
lines-begin list numbers run spots origin (t ∷ older) =
    (line-begins list numbers run spots origin t, lines-begin list numbers run spots [] older)

zip-push : {X Y : Type 0} (R : X → Y → Type 0) (xs : List X) (ys : List Y) (x : X) (y : Y) → AllZip R xs ys → R x y
    → AllZip R (xs ++ x ∷ []) (ys ++ y ∷ [])
zip-push R [] [] x y all here = (here, tt)
zip-push R [] (z ∷ ys) x y all here = absurd all
zip-push R (z ∷ xs) [] x y all here = absurd all
zip-push R (z ∷ xs) (w ∷ ys) x y all here = (all.0, zip-push R xs ys x y all.1 here)

zip-reverse : {X Y : Type 0} (R : X → Y → Type 0) (xs : List X) (ys : List Y) → AllZip R xs ys
    → AllZip R (reverse xs) (reverse ys)
zip-reverse R [] [] all = tt
zip-reverse R [] (y ∷ ys) all = absurd all
zip-reverse R (x ∷ xs) [] all = absurd all
zip-reverse R (x ∷ xs) (y ∷ ys) all =
    subst (AllZip R (reverse (x ∷ xs))) (sym (reverse-append (y ∷ []) ys))
    (subst (λ l. AllZip R l (reverse ys ++ y ∷ [])) (sym (reverse-append (x ∷ []) xs))
    (zip-push R (reverse xs) (reverse ys) x y (zip-reverse R xs ys all.1) all.0))

pub text-begins : (list : Medl) (script : Script) (numbers : LineNumbers) (k slot : ℕ)
    → AllZip (λ line t. BeginWith (head_told (first_slots list script (suc slot)) t) line)
    (story_lines list numbers (first_slots list script (suc slot))
    (story script (first_slots list script (suc slot)) k))
    (reverse (why_told list script k slot))
text-begins list script numbers k slot =
    let run = first_slots list script (suc slot) in
    let s = story script run k in
    zip-reverse (λ line t. BeginWith (head_told run t) line)
    (told_lines list numbers run (reverse (map (λ (t : Told). t.spot) s.told)) s.root s.told) s.told
    (lines-begin list numbers run (reverse (map (λ (t : Told). t.spot) s.told)) s.root s.told)
