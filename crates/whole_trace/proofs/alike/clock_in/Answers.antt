use Rattle.std.proofs.Common.{◌≡◌, ◌-◌, ◌^◌, ◌≤◌, ℕ, List, [], ◌∷◌, length, get_or, drop, sym, ap, ◌∙◌, arith}
use Rattle.ttp_base.specs.Text.{newline}
use Rattle.line_form.specs.Kinds.{signed_numeral}
use Rattle.whole_trace.proofs.Pieces.{clock-takes}
use Rattle.whole_trace.proofs.alike.clock_in.Goals as goal

-- what has one byte, a line feed, is that
one-byte : (end : List ℕ) → length end ≤ 1 → get_or end 0 0 ≡ 10 → end ≡ newline
one-byte [] one feed = absurd (omega (arith, feed))
one-byte (b ∷ []) one feed = ap (λ (c : ℕ). c ∷ []) feed
one-byte (b ∷ c ∷ end) one feed = absurd (omega (arith, one))

pub returns-then-end-eq10 : goal.returns-then-end-eq10
returns-then-end-eq10 c =
    let bytes = c.args.bytes.now in
    let back = c.split_at.result.1.now in
    let few : length back ≤ 1 = omega (arith, c.split_at.ensures.back_len) in
    let end : drop (length bytes - 1) bytes ≡ newline =
    sym c.split_at.ensures.back ∙ one-byte back few c.if-end-eq10.true in
    clock-takes bytes c.signed_in.result end
    (c.signed_in.ensures ∙ ap (signed_numeral (10 ^ 18)) c.split_at.ensures.front)
