-- Since when a node is faulty.
use Rattle.std.specs.Prelude.{◌≡◌, ℕ, ◌<◌, Option, IfSome}
use Rattle.ttp_world.specs.declared.medl.Medl.{Medl}
use Rattle.ttp_world.specs.declared.script.Script.{Script}
use Rattle.ttp_world.specs.Hypothesis.{ClusterStart}
use Rattle.ttp_world.specs.Returning.{slots_before, faulty_since}
use Rattle.broken_arms.specs.Arms.{faulty_from}

-- since when a node is faulty after the first slots, so many, if it is
pub record IsSince (list : Medl) (script : Script) (start : ClusterStart)
    (node slot : ℕ) (since : Option ℕ) : Type 0 where
  pub value : faulty_from (faulty_since (slots_before list script start slot)) node ≡ since
  pub bound : IfSome since (λ s. s < slot)
