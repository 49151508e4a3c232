-- Scripts in which no host does anything.
use Rattle.std.specs.Prelude.{◌≡◌, count_by}
use Rattle.ttp_world.specs.declared.script.Script.{Script}
use Rattle.ttp_world.specs.Script.{is_host_event}

-- no host writes or reads
abbrev pub IsUnhosted : Script → Type 0
IsUnhosted script = count_by is_host_event script.events ≡ 0
