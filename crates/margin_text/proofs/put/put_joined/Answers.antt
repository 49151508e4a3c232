use Rattle.std.proofs.Common.{◌≡◌, ◌<◌, ◌++◌, ℕ, length, map, get_or, ap, sym, ◌∙◌, arith}
use Rattle.std.proofs.lemmas.List.{get_or-map, length-map}
use Rattle.line_form.specs.Kinds.{hexed, spell}
use Rattle.margin_text.proofs.FromBelow.{one_more}
use Rattle.ttp_base.specs.NodeSet.{set_bits}
use Rattle.ttp_world.specs.Trace.{member_digits}
use Rattle.margin_text.proofs.put.put_joined.Goals as goal

pub loop-place-preserved : goal.loop-place-preserved
loop-place-preserved c =
    let kind = hexed (member_digits c.args.list.now) in
    let sets = c.args.sets.now in
    let place = c.loop-place.place in
    let d = c.index-sets-place.result in
    let item : set_bits d ≡ get_or (map set_bits sets) place (set_bits d) =
    ap set_bits c.index-sets-place.is ∙ sym (get_or-map set_bits sets place d (set_bits d) c.loop-place-test.true) in
    let within : place < length (map set_bits sets) = omega (arith, length-map sets set_bits, c.loop-place-test.true) in
    record {
      text = one_more kind (map set_bits sets) place (set_bits d) c.args.line.now c.loop-place.line
          c.put_comma.new.line c.put_members.new.line within c.loop-place.invariant.text c.put_comma.ensures.text
          (c.put_members.ensures.text ∙ ap (λ (v : ℕ). c.put_comma.new.line ++ spell kind v) item);
      short = omega (arith, c.loop-place.invariant.short, c.put_comma.ensures.short, c.put_members.ensures.short);
    }
