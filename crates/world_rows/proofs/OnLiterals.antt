-- What answers unfold to compute on literals.
use Rattle.std.specs.Prelude.{⊤}
use Rattle.std.specs.Fmt.{digits}
use Rattle.ttp_base.specs.NodeSet.{with_node, members_in}
use Rattle.medl_text.specs.ListFile.{number_faults, flag_faults, kinds_faults, requests_faults, live_faults}
use Rattle.medl_text.specs.ListFile.{slot_faults, slot_plan_of, array_faults, modes_faults, count_faults}
use Rattle.medl_text.specs.ListFile.{unknown_faults, sync_faults, file_faults, list_in, medl_in}

-- What an answer unfolds to compute the meaning of a list file on a literal.
unfoldable pub lists_on_literals : ⊤
unfolding number_faults flag_faults kinds_faults requests_faults live_faults slot_faults slot_plan_of array_faults
    modes_faults count_faults unknown_faults sync_faults file_faults list_in medl_in
lists_on_literals = tt

-- What one unfolds to compute a run, and the lines of its trace.
unfoldable pub runs_on_literals : ⊤
unfolding digits with_node members_in
runs_on_literals = tt
