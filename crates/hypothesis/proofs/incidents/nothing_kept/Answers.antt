use Rattle.std.proofs.Common.{◌<◌, subst, arith}
use Rattle.std.proofs.lemmas.List.{get_or-replicate}
use Rattle.ttp_world.specs.declared.events.Standing.{Standing}
use Rattle.hypothesis.proofs.incidents.nothing_kept.Goals as goal

pub returns : goal.returns
returns c = λ list script slot t from. record {
  all = λ before. absurd (omega (arith, before));
  each = λ k nothing small before.
      let none : Standing = record { incidents = c.no_incidents.result; until = 0 } in
      let here : t < 0 = subst (λ (s : Standing). t < s.until) (get_or-replicate 24 k none nothing small) before in
      absurd (omega (arith, here));
}
