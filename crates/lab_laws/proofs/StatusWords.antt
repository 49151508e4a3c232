-- The words of each status message fit into 64 bits.
use Rattle.std.proofs.Common.{ℕ, ◌+◌, ◌*◌, ◌/◌, ◌%◌, ◌^◌, ◌<◌, ◌≤◌, Bool, true, false, List, [], ◌∷◌}
use Rattle.std.proofs.Common.{All, length, is_some, arith}
use Rattle.std.specs.Prelude.{replicate}
use Rattle.std.proofs.lemmas.Bool.{cond_both}
use Rattle.std.proofs.lemmas.List.Elements.{All-nil, All-cons, All-append}
use Rattle.ttp_base.specs.NodeSet.{set_bits}
use Rattle.ttp_world.specs.declared.medl.Medl.{Medl}
use Rattle.ttp_world.specs.declared.node.CState.{CState}
use Rattle.ttp_world.specs.declared.script.Script.{Script}
use Rattle.ttp_world.specs.declared.script.TheConstants.{SLOT_LIMIT}
use Rattle.ttp_world.specs.Diary.{cstate_at, is_active_phase}
use Rattle.ttp_world.specs.Fitting.{number_in}
use Rattle.ttp_world.specs.Frame.{cstate_bytes}
use Rattle.ttp_world.specs.Medl.{IsValid, is_wide, member_bytes, member_width}
use Rattle.ttp_world.specs.Messages.{cstate_word, delivered_of, flag, flags_of, status_messages, status_words}
use Rattle.ttp_world.specs.Past.{NodePast}
use Rattle.ttp_world.specs.World.{Numbers, node_past, world}
use Rattle.ttp_world.proofs.Lists.{nodes-most}
use Rattle.ttp_world.proofs.Worlds.{row_of_world, length-world}
use Rattle.lab_laws.proofs.Standing.{shown-in}

abbrev IsWord : ℕ → Type 0
IsWord w = w < 2 ^ 64

abbrev pub AreWords : List ℕ → Type 0
AreWords words = All (λ w. w < 2 ^ 64) words

-- The flags.

flag-most : (value : ℕ) (stands : Bool) → flag value stands ≤ value
flag-most value true = omega arith
flag-most value false = omega arith

eight_flags : (a b c d e f g h : Bool)
    → flag 1 a + (flag 2 b + (flag 4 c + (flag 8 d + (flag 16 e + (flag 32 f + (flag 64 g + flag 128 h)))))) < 2 ^ 64
eight_flags a b c d e f g h =
    omega (
      arith,
      flag-most 1 a,
      flag-most 2 b,
      flag-most 4 c,
      flag-most 8 d,
      flag-most 16 e,
      flag-most 32 f,
      flag-most 64 g,
      flag-most 128 h,
    )

-- The C-state.

six_bytes : (a b c d e f : ℕ) → a < 256 → b < 256 → c < 256 → d < 256 → e < 256 → f < 256
    → number_in (a ∷ b ∷ c ∷ d ∷ e ∷ f ∷ []) < 2 ^ 64
six_bytes a b c d e f p q r s t u = omega (arith, p, q, r, s, t, u)

seven_bytes : (a b c d e f g : ℕ) → a < 256 → b < 256 → c < 256 → d < 256 → e < 256 → f < 256 → g < 256
    → number_in (a ∷ b ∷ c ∷ d ∷ e ∷ f ∷ g ∷ []) < 2 ^ 64
seven_bytes a b c d e f g p q r s t u v = omega (arith, p, q, r, s, t, u, v)

cstate-small : (wide : Bool) (c : CState) → number_in (cstate_bytes (member_bytes wide) c) < 2 ^ 64
cstate-small true c =
    let m = set_bits c.members in
    seven_bytes (c.time / 256 % 256) (c.time % 256) (c.round % 256) (c.slot % 256) (m / 256 / 256 % 256) (m / 256 % 256)
    (m % 256) (omega arith) (omega arith) (omega arith) (omega arith) (omega arith) (omega arith) (omega arith)
cstate-small false c =
    let m = set_bits c.members in
    six_bytes (c.time / 256 % 256) (c.time % 256) (c.round % 256) (c.slot % 256) (m / 256 % 256) (m % 256) (omega arith)
    (omega arith) (omega arith) (omega arith) (omega arith) (omega arith)

-- The words.

four_words : (a b c d : ℕ) → a < 2 ^ 64 → b < 2 ^ 64 → c < 2 ^ 64 → d < 2 ^ 64 → AreWords (a ∷ b ∷ c ∷ d ∷ [])
four_words a b c d p q r s =
    All-cons IsWord a (b ∷ c ∷ d ∷ []) p
    (All-cons IsWord b (c ∷ d ∷ []) q (All-cons IsWord c (d ∷ []) r (All-cons IsWord d [] s (All-nil IsWord))))

status-small : (list : Medl) (slot : ℕ) (past : NodePast) (delivers : Bool) → slot < 2 ^ 32
    → past.accepted ≤ 255 → past.rejected ≤ 255
    → AreWords (status_words list slot past delivers)
status-small list slot past delivers early good bad =
    four_words slot (flags_of list past delivers) (cstate_word list past) (256 * past.accepted + past.rejected)
    (omega (arith, early)) (eight_flags _ _ _ _ _ _ _ _)
    (cond_both (is_active_phase past.phase)
    (number_in (cstate_bytes (member_width list) (cstate_at past.place past.members))) 0 IsWord
    (λ active. cstate-small (is_wide list) (cstate_at past.place past.members)) (λ idle. omega arith))
    (omega (arith, good, bad))

pub statuses-small : (list : Medl) (script : Script) (numbers : Numbers) (k : ℕ) → IsValid list
    → length numbers ≤ SLOT_LIMIT → k < length list.slots
    → All AreWords (status_messages list script (world list script numbers) k)
statuses-small list script [] k valid few node =
    All-cons AreWords (replicate 4 0) [] (four_words 0 0 0 0 (omega arith) (omega arith) (omega arith) (omega arith))
    (All-nil AreWords)
statuses-small list script (new ∷ numbers) k valid few node =
    let before = world list script numbers in
    let row = row_of_world list script new numbers in
    let past = node_past list script (row ∷ before) k in
    let delivers = is_some (delivered_of list script before row k) in
    let shown = shown-in list script (new ∷ numbers) k valid node in
    let most = nodes-most list valid in
    All-append AreWords (status_messages list script before k) (status_words list (length before) past delivers ∷ [])
    (statuses-small list script numbers k valid (omega (arith, few)) node)
    (All-cons AreWords (status_words list (length before) past delivers) []
    (status-small list (length before) past delivers (omega (arith, few, length-world list script numbers))
    (omega (arith, shown.accepted, most)) (omega (arith, shown.rejected, most)))
    (All-nil AreWords))
