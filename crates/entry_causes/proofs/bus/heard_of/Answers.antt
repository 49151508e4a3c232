use Rattle.std.proofs.Common.{◌≡◌, ℕ, Bool, true, false, cond, List, refl, sym, ◌∙◌}
use Rattle.causes.specs.LinesOf.{bytes_sent}
use Rattle.run_rows.specs.Rows.{run_slot}
use Rattle.ttp_world.specs.Medium.{Bits, Noise, flip_bits, with_noise}
use Rattle.ttp_world.specs.Script.{flipped_bits}
use Rattle.entry_causes.proofs.bus.heard_of.Goals as goal

-- by both faults
noise-by : (noisy fault : Bool) (n f : Bool) (p : ℕ) (bytes : List ℕ) → noisy ≡ n → fault ≡ f
    → with_noise n (cond f Noise (Bits p bytes)) ≡ with_noise noisy (cond fault Noise (Bits p bytes))
noise-by noisy fault n f p bytes is_n is_f = λ i. with_noise (sym is_n i) (cond (sym is_f i) Noise (Bits p bytes))

through : (fault : Bool) (p : ℕ) (bytes : List ℕ) → Noise ≡ with_noise true (cond fault Noise (Bits p bytes))
through true p bytes = refl
through false p bytes = refl

pub returns-then-noisy-clause-signal : goal.returns-then-noisy-clause-signal
returns-then-noisy-clause-signal c =
    let run = c.args.run.now in
    let bytes =
    flip_bits (bytes_sent (run_slot run c.args.slot).frames c.args.sender)
    (flipped_bits run.script c.args.sender c.args.channel c.args.slot) in
    through _ c.args.sender bytes ∙ noise-by c.args.noisy _ true _ c.args.sender bytes c.if-noisy.true refl

pub returns-then-is_sent_noisy-clause-signal : goal.returns-then-is_sent_noisy-clause-signal
returns-then-is_sent_noisy-clause-signal c =
    let run = c.args.run.now in
    let bytes =
    flip_bits (bytes_sent (run_slot run c.args.slot).frames c.args.sender)
    (flipped_bits run.script c.args.sender c.args.channel c.args.slot) in
    noise-by c.args.noisy _ false true c.args.sender bytes c.if-noisy.false
    (sym c.is_sent_noisy.ensures ∙ c.if-is_sent_noisy.true)

pub returns-clause-signal : goal.returns-clause-signal
returns-clause-signal c =
    let run = c.args.run.now in
    let bytes =
    flip_bits (bytes_sent (run_slot run c.args.slot).frames c.args.sender)
    (flipped_bits run.script c.args.sender c.args.channel c.args.slot) in
    c.bits_of.ensures.signal
    ∙ noise-by c.args.noisy _ false false c.args.sender bytes c.if-noisy.false
    (sym c.is_sent_noisy.ensures ∙ c.if-is_sent_noisy.false)
