-- How far apart clocks can be.
use Rattle.std.specs.Prelude.{ℤ, pos, ◌+ℤ◌, ◌*ℤ◌, ◌*◌, length}
use Rattle.ttp_world.specs.declared.medl.Medl.{Medl}
use Rattle.ttp_world.specs.Hypothesis.{drift_share}

-- two clocks of nodes that run together, at the beginning of a slot
abbrev pub spread : Medl → ℤ
spread list = drift_share list +ℤ (list.error *ℤ pos 2 +ℤ pos 1)

-- two clocks of a company to which nodes come: 6 D n + 4 E + 1
abbrev pub spread_rejoining : Medl → ℤ
spread_rejoining list = list.drift *ℤ pos (6 * length list.slots) +ℤ (list.error *ℤ pos 4 +ℤ pos 1)

-- what one of its nodes measures of another's frame: 6 D n + 5 E + 1
abbrev pub needed_rejoining : Medl → ℤ
needed_rejoining list = list.drift *ℤ pos (6 * length list.slots) +ℤ (list.error *ℤ pos 5 +ℤ pos 1)
