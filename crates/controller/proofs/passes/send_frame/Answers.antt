use Rattle.controller.proofs.Words.{w64, refl, ◌∙◌, to_z-of_z}
use Rattle.controller.proofs.InSlot.{clock-node, sends-nothing}
use Rattle.controller.proofs.passes.send_frame.Goals as goal

pub returns-in-Some : goal.returns-in-Some
returns-in-Some c =
    let list = c.args.list.now in
    let script = c.args.script.now in
    let k = c.args.k in
    let of = c.in-Some.ensures in
    let clock = to_z-of_z w64 c.clock.result (record { sfits = c.clock.type_inv })
    ∙ c.clock.ensures ∙ of.planned.clock in
    record {
      planned = of.planned;
      plans = λ history begun. (of.plans list script history k c.requires.node begun).0;
      incidents = refl;
      puts = λ history frames begun carries.
          rw (← (of.plans list script history k c.requires.node begun).1)
          (c.put.ensures _ frames _ (clock ∙ clock-node list script history k c.requires.node begun) carries);
      clocks = λ slot at is from. record {
        frames = _;
        stands = c.put.ensures slot from.frames at (clock ∙ is) from.stands;
      };
    }

pub returns-in_default : goal.returns-in_default
returns-in_default c =
    sends-nothing c.args.seat.now _ c.in_default.ensures.planned refl (λ history begun.
    c.in_default.ensures.plans c.args.list.now c.args.script.now history c.args.k c.requires.node begun)
