-- The cause of a null, invalid or incorrect entry, by what holds of the slot.
use Rattle.std.proofs.Common.{◌≡◌, ℕ, Bool, true, false, ap, subst, sym}
use Rattle.causes.specs.LinesOf.{has_frames}
use Rattle.causes.specs.Missed.{channel_reason, decides, missed_by, missed_by_each, missed_cause, nobody_reason}
use Rattle.causes.specs.RunSlots.{RunSlot, RunSlots}
use Rattle.causes.specs.Sources.{ChannelReason, sources_of}
use Rattle.causes.specs.declared.cause.Because.{Because}
use Rattle.causes.specs.declared.cause.Because.TheVariants as because
use Rattle.causes.specs.declared.cause.Cause.{Cause}
use Rattle.causes.specs.declared.cause.Miss.{Miss}
use Rattle.entry_causes.proofs.Adding.{adds-both}
use Rattle.run_looks.specs.Added.{AddsSources}
use Rattle.run_looks.specs.declared.sources.Sources.{Sources}
use Rattle.ttp_world.specs.declared.node.Verdict.{Verdict}
use Rattle.ttp_world.specs.declared.script.Channel.TheVariants as channel

abbrev missed_if : Bool → Bool → Bool → ℕ → RunSlot → RunSlots → Cause
missed_if sent a b k s before =
    elim sent [
      | false ↦ missed_by (nobody_reason k s before)
      | true ↦ elim a [
        | true ↦ missed_by (channel_reason k s before channel.A)
        | false ↦ elim b [
          | true ↦ missed_by (channel_reason k s before channel.B)
          | false ↦ missed_by_each (channel_reason k s before channel.A) (channel_reason k s before channel.B)
        ]
      ]
    ]

pub missed-nobody : (k : ℕ) (s : RunSlot) (before : RunSlots) (v : Verdict) → has_frames s.frames ≡ false
    → missed_cause k s before v ≡ missed_by (nobody_reason k s before)
missed-nobody k s before v sent =
    ap (λ (b : Bool). missed_if b (decides k s v channel.A) (decides k s v channel.B) k s before) sent

pub missed-a : (k : ℕ) (s : RunSlot) (before : RunSlots) (v : Verdict) → has_frames s.frames ≡ true
    → decides k s v channel.A ≡ true
    → missed_cause k s before v ≡ missed_by (channel_reason k s before channel.A)
missed-a k s before v sent a = (λ i. missed_if (sent i) (a i) (decides k s v channel.B) k s before)

pub missed-b : (k : ℕ) (s : RunSlot) (before : RunSlots) (v : Verdict) → has_frames s.frames ≡ true
    → decides k s v channel.A ≡ false → decides k s v channel.B ≡ true
    → missed_cause k s before v ≡ missed_by (channel_reason k s before channel.B)
missed-b k s before v sent a b = (λ i. missed_if (sent i) (a i) (b i) k s before)

pub missed-each : (k : ℕ) (s : RunSlot) (before : RunSlots) (v : Verdict) → has_frames s.frames ≡ true
    → decides k s v channel.A ≡ false → decides k s v channel.B ≡ false
    → missed_cause k s before v
    ≡ missed_by_each (channel_reason k s before channel.A) (channel_reason k s before channel.B)
missed-each k s before v sent a b = (λ i. missed_if (sent i) (a i) (b i) k s before)

-- what decided is told, and the sources of a cause are added
abbrev pub IsToldBy : Because → Sources → Sources → Cause → Type 0
IsToldBy because old new cause = (because ≡ cause.because) × AddsSources old new (sources_of cause)

pub told-one : (m : Miss) (old new : Sources) (reason : ChannelReason) (cause : Cause) → cause ≡ missed_by reason
    → (m ≡ reason.miss) × AddsSources old new reason.sources
    → IsToldBy (because.Missed m) old new cause
told-one m old new reason cause is told =
    subst (IsToldBy (because.Missed m) old new) (sym is) (ap because.Missed told.0, told.1)

pub told-each : (m n : Miss) (old between new : Sources) (a b : ChannelReason) (cause : Cause)
    → cause ≡ missed_by_each a b
    → (m ≡ a.miss) × AddsSources old between a.sources → (n ≡ b.miss) × AddsSources between new b.sources
    → IsToldBy (because.MissedOnEach m n) old new cause
told-each m n old between new a b cause is first second =
    subst (IsToldBy (because.MissedOnEach m n) old new) (sym is) (
      (λ i. because.MissedOnEach (first.0 i) (second.0 i)),
      adds-both old between new a.sources b.sources first.1 second.1,
    )
