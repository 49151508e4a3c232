use Rattle.std.proofs.Common.{◌≡◌, ℕ, ◌≤◌, List, length, Some, None, ap, ◌∙◌, rules, filter}
use Rattle.std.specs.Prelude.{slice_get}
use Rattle.ttp_base.specs.NodeSet.{below, most_nodes, without_node}
use Rattle.ttp_world.specs.Hypothesis.{starts_in}
use Rattle.broken_rules.specs.declared.start.NoStart.TheVariants as why
use Rattle.broken_rules.proofs.FromBelow.{without-first, first-small}
use Rattle.broken_rules.proofs.Pairs.{rivals, alone, nobody}
use Rattle.broken_rules.proofs.start.why_at.Goals as goal
use Rattle.broken_rules.proofs.start.why_at.Goals.{in-Some+in_default-first, in_default}

pub without-requires : goal.without-requires
without-requires c =
    let few : length c.args.list.now.slots ≤ most_nodes = search rules in
    let first : slice_get (filter (starts_in c.args.list.now c.args.script.now c.args.slot)
    (below (length c.args.list.now.slots))) 0
    ≡ Some c.in-Some.first = search rules in
    first-small (starts_in c.args.list.now c.args.script.now c.args.slot)
    (length c.args.list.now.slots) c.in-Some.first few
    first

pub returns-in-Some-first : goal.returns-in-Some-first
returns-in-Some-first c =
    let list = c.args.list.now in
    let script = c.args.script.now in
    let slot = c.args.slot in
    let starters : List ℕ = filter (starts_in list script slot) (below (length list.slots)) in
    let first : slice_get starters 0 ≡ Some c.in-Some.first = search rules in
    let second : slice_get (without_node starters c.in-Some.first) 0 ≡ Some c.in-Some-first.second = search rules in
    rivals list script slot c.in-Some.first c.in-Some-first.second starters (without_node starters c.in-Some.first)
    (λ ks. without-first (starts_in list script slot) (length list.slots) c.in-Some.first ks) first second

pub returns : goal.returns
returns c =
    let list = c.args.list.now in
    let script = c.args.script.now in
    let slot = c.args.slot in
    let starters : List ℕ = filter (starts_in list script slot) (below (length list.slots)) in
    ap (why.Late slot) c.late_nodes.ensures
    ∙ elim c.match-first.branch [
      | in-Some+in_default-first w ↦
          let first : slice_get starters 0 ≡ Some w.in-Some.first = search rules in
          let second : slice_get (without_node starters w.in-Some.first) 0 ≡ None = search rules in
          alone list script slot w.in-Some.first starters (without_node starters w.in-Some.first)
          (λ ks. without-first (starts_in list script slot) (length list.slots) w.in-Some.first ks) first second
      | in_default w ↦
          let none : slice_get starters 0 ≡ None = search rules in
          nobody list script slot starters none
    ]
