-- What a run shows of its entries is what the definitions say.
use Rattle.std.proofs.Common.{◌≡◌, ℕ, zero, suc, ◌+◌, ◌<◌, ◌≤◌, Bool, true, false, ap, sym, subst, ◌∙◌, refl, arith}
use Rattle.std.proofs.Math.Numerals.{suc-eq-add-one}
use Rattle.std.specs.Prelude.{Option, Some, None}
use Rattle.ttp_world.specs.ZerosWorld.{zeros_world}
use Rattle.causes.specs.Causes.{cause_at, newest_cause}
use Rattle.causes.specs.Members.{entry_at_spot}
use Rattle.causes.specs.RunSlots.{RunSlots, entry_in_slot, is_started, node_spot, slots_of_run}
use Rattle.causes.specs.Said.{joined_from, root}
use Rattle.causes.specs.declared.cause.Spot.{Spot}
use Rattle.why_answers.proofs.FromBelow.{entry_at_spot-before, slots_before-past, slots_to-past, root-none}
use Rattle.why_answers.proofs.FromBelow.{past_slots_in-suc, slot_in-number}
use Rattle.run_rows.specs.Rows.{RunShown, past_slots_in, slot_in}
use Rattle.ttp_world.specs.Diary.{begins_stint}
use Rattle.ttp_world.specs.declared.medl.Medl.{Medl}
use Rattle.ttp_world.specs.declared.script.Script.{Script}
use Rattle.why_story.specs.RunSource.{RunSource, slots_up_to, spot_at}

slots-past : (list : Medl) (script : Script) (n : ℕ)
    → slots_of_run list script (zeros_world list script n) ≡ past_slots_in list script n
unfolding past_slots_in
slots-past list script n = refl

pub entry-at : (list : Medl) (script : Script) (n slot k : ℕ) → slot < n
    → entry_in_slot k (slot_in list script slot)
    ≡ entry_at_spot (slots_of_run list script (zeros_world list script n)) (spot_at slot k)
entry-at list script n slot k within =
    sym (ap (λ (run : RunSlots). entry_at_spot run (spot_at slot k)) (slots-past list script n)
    ∙ entry_at_spot-before list script n (spot_at slot k) within)

pub cause-at : (list : Medl) (script : Script) (n slot k : ℕ) → slot < n
    → newest_cause k (past_slots_in list script (slot + 1))
    ≡ cause_at (slots_of_run list script (zeros_world list script n)) (spot_at slot k)
cause-at list script n slot k within =
    sym (ap (λ (run : RunSlots). cause_at run (spot_at slot k)) (slots-past list script n)
    ∙ ap (newest_cause k) (slots_to-past list script n slot within))

pub root-at : (list : Medl) (script : Script) (n slot k : ℕ) → slot < n
    → root k (past_slots_in list script slot)
    ≡ root k (slots_up_to (slots_of_run list script (zeros_world list script n)) slot)
root-at list script n slot k within =
    ap (root k)
    (sym (ap (λ (run : RunSlots). slots_up_to run slot) (slots-past list script n)
    ∙ slots_before-past list script n slot (omega (arith, within))))

-- A root is in these slots.

abbrev or_rest : Bool → Spot → Spot → Spot
or_rest b start rest = elim b [ true ↦ start | false ↦ rest ]

abbrev chosen : Bool → Option ℕ → Spot → Spot → (ℕ → Bool) → (ℕ → Spot) → (ℕ → Spot) → Spot
chosen begins from older here starts start rest = elim begins [
  | false ↦ older
  | true ↦ elim from [ None ↦ here | Some p ↦ or_rest (starts p) (start p) (rest p) ]
]

started-slot : (n : ℕ) (b : Bool) (start rest : Spot) → start.slot ≤ n → rest.slot ≤ n
    → (or_rest b start rest).slot ≤ n
started-slot n true start rest first second = first
started-slot n false start rest first second = second

chosen-slot : (n : ℕ) (begins : Bool) (from : Option ℕ) (older here : Spot) (starts : ℕ → Bool) (start rest : ℕ → Spot)
    → older.slot ≤ n → here.slot ≤ n → ((p : ℕ) → (start p).slot ≤ n) → ((p : ℕ) → (rest p).slot ≤ n)
    → (chosen begins from older here starts start rest).slot ≤ n
chosen-slot n false from older here starts start rest a b c d = a
chosen-slot n true None older here starts start rest a b c d = b
chosen-slot n true (Some p) older here starts start rest a b c d =
    started-slot n (starts p) (start p) (rest p) (c p) (d p)

pub root-slot : (list : Medl) (script : Script) (n k : ℕ) → (root k (past_slots_in list script n)).slot ≤ n
root-slot list script zero k =
    let none = ap (λ (s : Spot). s.slot) (root-none list script 0 k refl) in
    omega (arith, none)
root-slot list script (suc m) k =
    let s = slot_in list script m in
    let number = slot_in-number list script m in
    let older : (p : ℕ) → (root p (past_slots_in list script m)).slot ≤ suc m =
    λ p. omega (arith, root-slot list script m p) in
    subst (λ (run : RunSlots). (root k run).slot ≤ suc m) (sym (past_slots_in-suc list script m))
    (chosen-slot (suc m) (begins_stint (entry_in_slot k s)) (joined_from k s) (root k (past_slots_in list script m))
    (node_spot k s) (λ p. is_started (entry_in_slot p s)) (λ p. node_spot p s)
    (λ p. root p (past_slots_in list script m))
    (older k) (omega (arith, number)) (λ p. omega (arith, number)) older)

-- Which run it is.

abbrev pub source-of : Medl → Script → ℕ → RunSource
source-of list script slots = record { list = list; script = script; history = zeros_world list script slots }

pub source-is : (run : RunShown) (list : Medl) (script : Script) (slot : ℕ)
    → run ≡ record { list = list; script = script; slots = slot + 1 }
    → source-of run.list run.script run.slots ≡ source-of list script (suc slot)
source-is run list script slot is =
    ap (λ (r : RunShown). source-of r.list r.script r.slots) is
    ∙ ap (source-of list script) (sym (suc-eq-add-one slot))
