use Rattle.std.proofs.Common.{◌≡◌, ◌∙◌, ◌<◌, length, ap, sym, arith}
use Rattle.ttp_world.proofs.Lists.{nodes-most}
use Rattle.bus_frames.proofs.Channels.{nothing-there, there}
use Rattle.bus_frames.proofs.Lists.{frames_so_far, one-more}
use Rattle.bus_frames.proofs.put.count_on.Goals as goal
use Rattle.bus_frames.proofs.put.count_on.Goals.{then-lies_on, else-lies_on}

pub overflow_add-many : goal.overflow_add-many
overflow_add-many c =
    let few = c.loop-node.invariant.few in
    omega (arith, few, nodes-most c.args.list.now c.requires.list)

pub loop-node-preserved : goal.loop-node-preserved
loop-node-preserved c =
    let list = c.args.list.now in
    let script = c.args.script.now in
    let i = c.loop-node.node in
    let few = c.loop-node.invariant.few in
    let inside : i < length list.slots = omega arith in
    elim c.if-lies_on.branch [
      | then-lies_on w ↦
          let more = w.many-is in
          record {
            few = omega (arith, few, more);
            counted = λ chosen offsets row before stands.
                let before_it = c.loop-node.invariant.counted chosen offsets row before stands in
                let is = sym (c.lies_on.ensures chosen offsets row before stands) ∙ w.if-lies_on.true in
                let one = ap length (there c.args.plant.now chosen offsets list script c.args.slot row before stands
                c.requires.list i inside c.args.channel is) in
                let next = one-more list script row before c.args.channel i in
                omega (arith, more, before_it, one, next);
          }
      | else-lies_on w ↦
          let same = w.many-is in
          record {
            few = omega (arith, few, same);
            counted = λ chosen offsets row before stands.
                let before_it = c.loop-node.invariant.counted chosen offsets row before stands in
                let is = sym (c.lies_on.ensures chosen offsets row before stands) ∙ w.if-lies_on.false in
                let none = ap length (nothing-there c.args.plant.now chosen offsets
                list script c.args.slot row before stands
                c.requires.list i inside c.args.channel is) in
                let next = one-more list script row before c.args.channel i in
                omega (arith, same, before_it, none, next);
          }
    ]

pub returns : goal.returns
returns c chosen offsets row before stands =
    let all : c.loop-node.node ≡ length c.args.list.now.slots = omega arith in
    c.loop-node.invariant.counted chosen offsets row before stands
    ∙ ap (λ n. length (frames_so_far c.args.list.now c.args.script.now row before c.args.channel n)) all
