use Rattle.std.proofs.Common.{◌<◌, subst}
use Rattle.entry_causes.specs.Differences.{IfDoubted}
use Rattle.ttp_world.specs.declared.node.Ack.{Ack}
use Rattle.entry_causes.proofs.view.candidates.Goals as goal

pub with-requires-in-Doubt-2 : goal.with-requires-in-Doubt-2
with-requires-in-Doubt-2 c = subst (λ (a : Ack). IfDoubted a (λ x. x < 24)) c.in-Doubt.is c.requires.doubt

pub without-requires-in-Doubt : goal.without-requires-in-Doubt
without-requires-in-Doubt c = subst (λ (a : Ack). IfDoubted a (λ x. x < 24)) c.in-Doubt.is c.requires.doubt
