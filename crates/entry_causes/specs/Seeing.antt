-- How bytes are seen that come within the window.
use Rattle.std.specs.Prelude.{List, Option, if◌then◌else◌, ℕ}
use Rattle.ttp_world.specs.Diary.{Place}
use Rattle.ttp_world.specs.Reception.{Expected, is_expected_form, view_of_frame}
use Rattle.ttp_world.specs.declared.medl.Medl.{Medl}
use Rattle.ttp_world.specs.declared.node.ChannelView.{ChannelView}
use Rattle.ttp_world.specs.declared.node.ChannelView.TheVariants as view

-- what is expected at a place, with the members of both candidates
abbrev pub expected_at : Place → List ℕ → Option (List ℕ) → Expected
expected_at place first second = record { place = place; candidates = record { first = first; second = second } }

-- by what is expected
abbrev pub view_within : Medl → Expected → List ℕ → ChannelView
view_within list expected bytes =
    if is_expected_form list expected bytes then view_of_frame list expected bytes else view.Bad
