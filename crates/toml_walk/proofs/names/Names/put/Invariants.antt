use Rattle.std.proofs.Common.{◌≡◌, ◌<◌, drop}
use Rattle.toml_parser.specs.Reading.{path_view}
use Rattle.toml_walk.specs.Names.{Noted, pass_dot, along}
use Rattle.toml_walk.specs.Reading.{NamesStandFor}
use Rattle.toml_walk.proofs.names.Names.put.Given as goal

-- the parts so far led to this table, and the others go on from there
abbrev pub invariant-loop-part : goal.invariant-loop-part
invariant-loop-part l =
    (noted : Noted) → NamesStandFor l.fn.self noted → l.fn.table < noted.tables
    → (now : Noted) × (NamesStandFor l.self now) × (l.at < now.tables)
    × (along pass_dot (path_view l.fn.key.path.items) l.fn.table noted
    ≡ along pass_dot (path_view (drop l.part-index l.fn.key.path.items)) l.at now)
