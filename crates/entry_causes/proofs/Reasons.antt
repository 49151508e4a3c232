-- The reason of a channel that brings a frame, by what holds of it.
use Rattle.std.proofs.Common.{◌≡◌, ℕ, Bool, true, false, [], ◌∷◌, Result, IfOk, ap, subst}
use Rattle.causes.specs.Clocks.{clock_reason}
use Rattle.causes.specs.Members.{members_reason}
use Rattle.causes.specs.Missed.{elsewhere, frame_reason, is_same_place}
use Rattle.causes.specs.RunSlots.{RunSlot, RunSlots, entry_in_slot, is_started, node_spot, place_of_node}
use Rattle.causes.specs.Sources.{ChannelReason, by_entries}
use Rattle.causes.specs.declared.cause.Miss.{Miss}
use Rattle.causes.specs.declared.cause.Miss.TheVariants as miss
use Rattle.run_looks.specs.Added.{AddsSources}
use Rattle.run_looks.specs.declared.sources.Sources.{Sources}
use Rattle.ttp_base.specs.declared.fault.Memory.{Memory}
use Rattle.ttp_world.specs.Reception.{is_within_window}
use Rattle.ttp_world.specs.World.{deviation_in}

-- a reason that is told and whose sources are added
abbrev pub Tells : Result Miss Memory → Sources → Sources → ChannelReason → Type 0
Tells result old new reason = IfOk result (λ miss. (miss ≡ reason.miss) × AddsSources old new reason.sources)

pub tells-same : (result : Result Miss Memory) (old new : Sources) (a b : ChannelReason) → a ≡ b
    → Tells result old new a → Tells result old new b
tells-same result old new a b is told = subst (Tells result old new) is told

abbrev pub IsReason : Miss → Sources → Sources → ChannelReason → Type 0
IsReason m old new reason = (m ≡ reason.miss) × AddsSources old new reason.sources

pub reason-same : (m : Miss) (old new : Sources) (a b : ChannelReason) → a ≡ b → IsReason m old new a
    → IsReason m old new b
reason-same m old new a b is told = subst (IsReason m old new) is told

-- Of a frame as it was sent.

abbrev frame_by : Bool → Bool → Bool → ℕ → ℕ → RunSlot → RunSlots → ChannelReason
frame_by cold near same p k s before =
    elim cold [
      | true ↦ by_entries (miss.ColdStart p) (node_spot p s ∷ [])
      | false ↦ elim near [
        | false ↦ clock_reason p k s before
        | true ↦ elim same [ false ↦ elsewhere p k before | true ↦ members_reason p k s before ]
      ]
    ]

pub frame-cold : (p k : ℕ) (s : RunSlot) (before : RunSlots) → is_started (entry_in_slot p s) ≡ true
    → frame_reason p k s before ≡ by_entries (miss.ColdStart p) (node_spot p s ∷ [])
frame-cold p k s before cold =
    ap (λ (b : Bool).
    frame_by b (is_within_window s.begun.list (deviation_in s.begun k p))
    (is_same_place (place_of_node p s) (place_of_node k s)) p k s before) cold

pub frame-late : (p k : ℕ) (s : RunSlot) (before : RunSlots) → is_started (entry_in_slot p s) ≡ false
    → is_within_window s.begun.list (deviation_in s.begun k p) ≡ false
    → frame_reason p k s before ≡ clock_reason p k s before
frame-late p k s before cold near =
    (λ i. frame_by (cold i) (near i) (is_same_place (place_of_node p s) (place_of_node k s)) p k s before)

pub frame-elsewhere : (p k : ℕ) (s : RunSlot) (before : RunSlots) → is_started (entry_in_slot p s) ≡ false
    → is_within_window s.begun.list (deviation_in s.begun k p) ≡ true
    → is_same_place (place_of_node p s) (place_of_node k s) ≡ false
    → frame_reason p k s before ≡ elsewhere p k before
frame-elsewhere p k s before cold near same = (λ i. frame_by (cold i) (near i) (same i) p k s before)

pub frame-members : (p k : ℕ) (s : RunSlot) (before : RunSlots) → is_started (entry_in_slot p s) ≡ false
    → is_within_window s.begun.list (deviation_in s.begun k p) ≡ true
    → is_same_place (place_of_node p s) (place_of_node k s) ≡ true
    → frame_reason p k s before ≡ members_reason p k s before
frame-members p k s before cold near same = (λ i. frame_by (cold i) (near i) (same i) p k s before)
