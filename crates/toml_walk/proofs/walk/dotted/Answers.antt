use Rattle.std.proofs.Common.{◌≡◌, ◌++◌, ◌∷◌, [], string_bytes, sym, ◌∙◌, arith}
use Rattle.std.proofs.lemmas.Grind.{common_steps}
use Rattle.toml_walk.proofs.Leading.{dotted_on, dotted_end}
use Rattle.toml_walk.proofs.walk.dotted.Goals as goal

pub loop-part-init : goal.loop-part-init
loop-part-init c = rw c.new-bytes.ensures.items

pub loop-part-preserved : goal.loop-part-preserved
loop-part-preserved c =
    let l = c.loop-part in
    let part = c.part-item.result in
    let more : c.push.new.self.items ≡ (l.bytes.items ++ string_bytes part) ++ 46 ∷ [] = grind (arith, common_steps) in
    rw more (l.invariant ∙ dotted_on l.bytes.items c.args.key.now.path.items (string_bytes c.args.key.now.last)
    l.part-index part (grind (arith, common_steps)) (rw c.as_slice-part-items.ensures.value at c.part-item.is))

pub returns : goal.returns
returns c =
    let l = c.loop-part in
    let last = string_bytes c.args.key.now.last in
    let whole : c.from_vec.result ≡ l.bytes.items ++ last = grind (arith, common_steps) in
    whole ∙ sym (l.invariant
    ∙ rw (dotted_end c.args.key.now.path.items last l.part-index (grind (arith, common_steps))))
