use Rattle.std.proofs.Common.{Bool, cond, ap, sym, ◌∙◌}
use Rattle.causes.specs.Judged.{sees_second}
use Rattle.ttp_world.specs.declared.script.Channel.TheVariants as channel
use Rattle.entry_causes.proofs.judged.second_channel.Goals as goal

pub returns-then-sees_second : goal.returns-then-sees_second
returns-then-sees_second c =
    ap (λ (b : Bool). cond b channel.A channel.B)
    (sym (ap sees_second (sym c.view_on.ensures) ∙ sym c.sees_second.ensures ∙ c.if-sees_second.true))

pub returns-else-sees_second : goal.returns-else-sees_second
returns-else-sees_second c =
    ap (λ (b : Bool). cond b channel.A channel.B)
    (sym (ap sees_second (sym c.view_on.ensures) ∙ sym c.sees_second.ensures ∙ c.if-sees_second.false))
