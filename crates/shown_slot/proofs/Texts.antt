-- The lines of a trace beside those of its slots, with and without their line feeds.
use Rattle.std.proofs.Common.{◌≡◌, ℕ, ◌+◌, ◌-◌, ◌≤◌, List, ◌++◌, length, take}
use Rattle.std.proofs.Common.{ap, ◌∙◌, arith, length-append}
use Rattle.std.proofs.Math.Seq.{take-append_seam}
use Rattle.ttp_base.specs.Text.{newline}
use Rattle.ttp_world.specs.declared.keep.Back.{Back}
use Rattle.ttp_world.specs.declared.keep.Back.TheVariants as back
use Rattle.ttp_world.specs.declared.keep.Keep.{Keep}
use Rattle.ttp_world.specs.declared.keep.Keep.TheVariants as keep
use Rattle.ttp_world.specs.Trace.{keep_line, back_line}
use Rattle.line_reader.specs.TraceLines.{keep_text, back_text}

-- a line without its line feed
pub record IsFed (line text : List ℕ) : Type 0 where
  pub some : 1 ≤ length line
  pub unfed : take (length line - 1) line ≡ text
  pub size : length line ≡ length text + 1

fed : (text : List ℕ) → IsFed (text ++ newline) text
fed text =
    let size : length (text ++ newline) ≡ length text + 1 = length-append text newline in
    let less : length (text ++ newline) - 1 ≡ length text = omega (arith, size) in
    record {
      some = omega (arith, size);
      unfed = ap (λ (n : ℕ). take n (text ++ newline)) less ∙ take-append_seam text newline;
      size = size;
    }

pub keep_feed : (k : Keep) → IsFed (keep_line k) (keep_text k)
keep_feed (keep.Yes start) = fed (keep_text (keep.Yes start))
keep_feed (keep.No rule slot) = fed (keep_text (keep.No rule slot))

pub back_feed : (b : Back) → IsFed (back_line b) (back_text b)
back_feed (back.Yes start) = fed (back_text (back.Yes start))
back_feed (back.No rule slot) = fed (back_text (back.No rule slot))
