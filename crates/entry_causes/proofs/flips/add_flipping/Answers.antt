use Rattle.std.proofs.Common.{◌≡◌, ℕ, ◌+◌, ◌<◌, ◌≤◌, ◌++◌, List, length, take, ap, append_assoc, sym, ◌∙◌, arith}
use Rattle.std.proofs.lemmas.List.{append-nil, take_all}
use Rattle.std.proofs.lemmas.List.Elements.{filter-append, filter_map-append}
use Rattle.std.specs.List.{filter_map}
use Rattle.std.specs.Option.{option_to_list}
use Rattle.std.specs.Prelude.{Option, filter}
use Rattle.causes.specs.LinesOf.{each_first, first_line, flips_bit, is_turned, lines_where}
use Rattle.causes.specs.declared.cause.ScriptLine.{ScriptLine}
use Rattle.entry_causes.proofs.FlipFacts.{firsts-next}
use Rattle.entry_causes.specs.Hearing.{first_bits}
use Rattle.ttp_world.specs.Events.{bits_on}
use Rattle.ttp_world.specs.declared.events.FlippedBit.{FlippedBit}
use Rattle.ttp_world.specs.Script.{flipped_bits}
use Rattle.ttp_world.specs.declared.script.Script.{Script}
use Rattle.ttp_world.specs.declared.script.Channel.{Channel}
use Rattle.entry_causes.proofs.flips.add_flipping.Goals as goal

-- the lines with those of one flip more
more : (f : ℕ → Option ScriptLine) (c : Channel) (flips : List FlippedBit) (size at : ℕ)
    (o : Option ℕ) (old lines : List ScriptLine)
    → at < length flips
    → option_to_list o ≡ filter (is_turned (bits_on c flips) size) (first_bits c flips at)
    → lines ≡ old ++ filter_map f (filter (is_turned (bits_on c flips) size) (each_first (bits_on c (take at flips))))
    → lines ++ filter_map f (option_to_list o)
    ≡ old ++ filter_map f (filter (is_turned (bits_on c flips) size) (each_first (bits_on c (take (at + 1) flips))))
more f c flips size at o old lines within is are =
    let t = is_turned (bits_on c flips) size in
    let before = each_first (bits_on c (take at flips)) in
    (λ i. are i ++ filter_map f (is i))
    ∙ append_assoc old (filter_map f (filter t before)) (filter_map f (filter t (first_bits c flips at)))
    ∙ ap (λ (lines : List ScriptLine). old ++ lines)
    (sym (filter_map-append f (filter t before) (filter t (first_bits c flips at)))
    ∙ ap (filter_map f) (sym (filter-append t before (first_bits c flips at))
    ∙ ap (filter t) (sym (firsts-next c flips at within))))

pub loop-at-preserved : goal.loop-at-preserved
loop-at-preserved c =
    let run = c.args.run.now in
    let f = λ (turned : ℕ). first_line
    (lines_where (flips_bit c.args.sender c.args.channel c.args.slot turned) run.script) in
    record {
      lines =
          c.in_ok-add_turned.ensures.lines
          ∙ more f c.args.channel c.flips-flips.result.now c.args.size c.loop-at.at c.turned_bit-bit.result
          c.args.out.now.lines c.loop-at.out.lines c.loop-at-test.true
          c.turned_bit-bit.ensures c.loop-at.invariant.lines;
      entries = c.in_ok-add_turned.ensures.entries ∙ append-nil c.loop-at.out.entries ∙ c.loop-at.invariant.entries;
    }

pub returns : goal.returns
returns c =
    let run = c.args.run.now in
    let ch = c.args.channel in
    let flips = c.flips-flips.result.now in
    let f = λ (turned : ℕ). first_line (lines_where (flips_bit c.args.sender ch c.args.slot turned) run.script) in
    let all : length flips ≤ c.loop-at.at = omega (arith, c.loop-at-test.false) in
    let bits =
    c.flips-flips.ensures ch
    ∙ ap (λ (script : Script). flipped_bits script c.args.sender ch c.args.slot) c.script.ensures.value in
    record {
      lines =
          c.loop-at.invariant.lines
          ∙ ap (λ (some : List FlippedBit).
          c.args.out.now.lines ++ filter_map f
          (filter (is_turned (bits_on ch flips) c.args.size) (each_first (bits_on ch some))))
          (take_all c.loop-at.at flips all)
          ∙ ap (λ (bits : List ℕ).
          c.args.out.now.lines ++ filter_map f (filter (is_turned bits c.args.size) (each_first bits))) bits;
      entries = c.loop-at.invariant.entries ∙ sym (append-nil c.args.out.now.entries);
    }
